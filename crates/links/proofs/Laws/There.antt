-- In a table that passed the table test the bytes of every value are there: a typed lookup says nothing only where there is nothing to say, and a text or a
-- block that is told as found is whole.
use Rattle.std.specs.Prelude.{Option, Some, None, Result, Ok, Err}
use Rattle.format.specs.Said.{said, Said, gives, refuses, ◌>>=◌}
use Prim.Native.Nat.{ℕ, suc, ◌+◌, ◌-◌, ◌≤◌, ◌<◌}
use native.Mathlib.Omega.{arith}
use mathlib.Core.Path.{◌≡◌, refl, sym, ap, ◌∙◌, subst}
use mathlib.Core.Logic.{inl, inr}
use mathlib.Core.Bool.{Bool, true, false, cond, true≢false}
use mathlib.Core.List.{List}
use lib.ListN.{length}
use lib.Dec.{ltb}
use borrow.Author.Tests.{ltb-true, eqb-true}
use Rattle.tables.specs.Table.{table}
use Rattle.numbers.proofs.Laws.Tests.{cond-all}
use Rattle.numbers.specs.Value.{value_of, there, read_at}
use Rattle.numbers.proofs.Laws.Value.{there-inside, reads}
use Rattle.numbers.proofs.Laws.Written.{inside-there}
use Rattle.numbers.specs.declared.Endian.{Endian}
use Rattle.format.proofs.Laws.Said.{given_is, given-refused}
use Rattle.format.specs.Lookup.{lookup}
use Rattle.format.specs.FormKind.{forms, form_of, form_number, is_form}
use Rattle.format.specs.declared.form_kind.FormKind.{FormKind}
use Rattle.format.specs.declared.form_kind.FormKind.TheVariants.{Addr, Ref, Block2, Block4, Data2, Data4, Data8, String, Undefined}
use Rattle.format.specs.declared.settings.Settings.{Settings}
use Rattle.attributes.specs.declared.value.Unread.{Unread}
use Rattle.attributes.specs.declared.value.Unread.TheVariants as unread
use Rattle.attributes.specs.Text.{zero_from}
use Rattle.attributes.specs.End.{fixed_end, block_end, text_end, value_end}
use Rattle.attributes.proofs.Laws.End.{of-form}
use Rattle.attributes.proofs.Laws.Text.{zero-after}
use Rattle.attributes.specs.Parts.{part_at, part_lies, block_lies, text_lies, Stretch, Shown}
use Rattle.attributes.specs.declared.decode.Extent.{Extent}
use Rattle.attributes.proofs.Laws.Part as parts
use Rattle.tables.specs.Row.{row_at, attr_at, endian_of, ends_of}
use Rattle.tables.specs.Holds.{is_at, TableHolds}
use Rattle.tables.proofs.Laws.Held.{AttrKnown, held-attr}
use Rattle.tables.specs.declared.row.Counts.{Counts}
use Rattle.links.specs.Attribute.{wants, attribute_of, reference_by, reference_of}
use Rattle.links.proofs.Laws.Attribute.{attribute-found}
use Rattle.tables.specs.Keyed.{row_of}
use Rattle.links.specs.Typed.{spot_found, spot_at, spot_in, place_of_key, word_at, word_of_place, value_of_key}
use Rattle.links.specs.Typed.{lies_at, extent_of_place, extent_of_key, part_of}
use Rattle.tables.proofs.Laws.Keyed.{keyed-held, keyed-there, keyed-key}
use Rattle.links.specs.declared.lookup.Wanted.TheVariants as wanted
use Rattle.links.specs.declared.typed.Spot.{Spot}
use Rattle.links.specs.There.{IsNumber, NumberTold, IsPart, WholeText, WholeBlock, Without}

-- ---- the bytes of a value that ends inside are there

at_both : (b : Bool) (v : Result ℕ Unread) (field : ℕ) → is_at (cond b v (Err (unread.Short field))) ≡ true → (b ≡ true) × (is_at v ≡ true)
unfolding is_at
at_both true v field h = (refl, h)
at_both false v field h = absurd (true≢false (sym h))

fixed-there : (s : List ℕ) (at w : ℕ) → is_at (fixed_end s at w) ≡ true → there s at w ≡ true
unfolding fixed_end
fixed-there s at w h = (at_both (there s at w) (Ok (at + w)) at h).0

-- and are read
fixed-read : {A : Type 0} (is : ℕ → A) (short : A) (e : Endian) (w : ℕ) (s : List ℕ) (at : ℕ) → is_at (fixed_end s at w) ≡ true
    → read_at is short e w s at ≡ is (value_of e w s at)
fixed-read is short e w s at h = sym (reads is short e w s at (fixed-there s at w h) refl)

-- ---- numbers

told-by : (e : Endian) (w : ℕ) (s : List ℕ) (at : ℕ) → is_at (fixed_end s at w) ≡ true → NumberTold (read_at Some None e w s at)
told-by e w s at h = record { number = value_of e w s at; is_number = fixed-read Some None e w s at h }

-- a number whose value ends inside is told
word-told : (form : FormKind) → IsNumber form → (s : List ℕ) (spot : Spot) → is_at (value_end form spot.ends.«data» s spot.at) ≡ true
    → NumberTold (word_at form s spot)
unfolding value_end word_at
word-told Addr n s spot h = told-by _ 4 s spot.at h
word-told Ref n s spot h = told-by _ 4 s spot.at h
word-told Data2 n s spot h = told-by _ 2 s spot.at h
word-told Data4 n s spot h = told-by _ 4 s spot.at h
word-told Block2 n s spot h = absurd n
word-told Block4 n s spot h = absurd n
word-told Data8 n s spot h = absurd n
word-told String n s spot h = absurd n
word-told Undefined n s spot h = absurd n

-- and a reference whose value ends inside is one
reference-is : (e own : Endian) (s attrs : List ℕ) (k : ℕ) → is_at (value_end Ref own s (attr_at attrs k).value) ≡ true
    → reference_by e s attrs (Some k) ≡ None → ⊥
unfolding value_end reference_by
reference-is e own s attrs k h p =
    let q : Some (value_of e 4 s (attr_at attrs k).value) ≡ None =
    sym (fixed-read Some None e 4 s (attr_at attrs k).value h) ∙ p
    in
    let z : ◌≡◌ {A = ℕ} 0 1 = cc in
    absurd (omega arith)

-- ---- texts and blocks

-- a part lies somewhere, and this holds of its place and length
record LiesSo (P : Extent → Type 0) (l : Option Extent) : Type 0 where
  extent : Extent
  is_extent : l ≡ Some extent
  so : P extent

text-whole : (s : List ℕ) (at : ℕ) → is_at (text_end s at) ≡ true → LiesSo (WholeText s at) (text_lies s at)
unfolding text_end
text-whole s at h =
    let test : ltb (zero_from s at) (length s) ≡ true = (at_both (ltb (zero_from s at) (length s)) (Ok (suc (zero_from s at))) at h).0 in
    let inside : zero_from s at < length s = ltb-true (zero_from s at) (length s) test in
    let after : at ≤ zero_from s at = zero-after s at refl in
    record {
      extent = record { place = at; length = zero_from s at - at };
      is_extent = sym (parts.text-lies s at refl inside);
      so = record { begins = refl; ends = omega arith; inside = inside };
    }

block-whole : (e : Endian) (w : ℕ) (s : List ℕ) (at : ℕ) → is_at (block_end e w s at) ≡ true → LiesSo (WholeBlock e w s at) (block_lies e w s at)
unfolding block_end block_lies read_at
block-whole e w s at h =
    let n : ℕ = value_of e w s at in
    let fields = at_both (there s at w) (fixed_end s (at + w) n) at h in
    let bytes : there s (at + w) n ≡ true = fixed-there s (at + w) n fields.1 in
    record {
      extent = record { place = at + w; length = n };
      is_extent = sym (parts.part_lies_lem s (at + w) n bytes ∙ reads (λ k. part_lies s (at + w) k) None e w s at fields.0 refl);
      so = record { begins = refl; many = refl; inside = there-inside s (at + w) n bytes };
    }

some-none : {A : Type 0} {x : A} → Some x ≡ None → ⊥
some-none p = let z : ◌≡◌ {A = ℕ} 0 1 = cc in absurd (omega arith)

-- a part that lies somewhere is told
lies-told : {P : Extent → Type 0} {l : Option Extent} → LiesSo P l → l ≡ None → ⊥
lies-told f p = some-none (sym f.is_extent ∙ p)

-- and this holds of what is told
told-so : {P : Extent → Type 0} {l : Option Extent} {x : Extent} → LiesSo P l → l ≡ Some x → P x
told-so {P} {l} {x} f p =
    let q : Some f.extent ≡ Some x = sym f.is_extent ∙ p in
    let same : f.extent ≡ x = cc in
    subst P same f.so

-- a part whose value ends inside is told
part-told : (form : FormKind) → IsPart form → (s : List ℕ) (spot : Spot) → is_at (value_end form spot.ends.«data» s spot.at) ≡ true
    → lies_at form s spot ≡ None → ⊥
unfolding value_end lies_at
part-told String n s spot h = lies-told (text-whole s spot.at h)
part-told Block2 n s spot h = lies-told (block-whole spot.ends.«data» 2 s spot.at h)
part-told Block4 n s spot h = lies-told (block-whole spot.ends.«data» 4 s spot.at h)
part-told Addr n s spot h = absurd n
part-told Ref n s spot h = absurd n
part-told Data2 n s spot h = absurd n
part-told Data4 n s spot h = absurd n
part-told Data8 n s spot h = absurd n
part-told Undefined n s spot h = absurd n

-- what is told lies inside the section
shown-inside : (s : List ℕ) (l : Option Extent) (part : List ℕ) {x : Extent} → Shown s l part → l ≡ Some x → x.place + x.length ≤ length s
shown-inside s (Some y) part {x} h p =
    let same : y ≡ x = cc in subst (λ (z : Extent). z.place + z.length ≤ length s) same h.inside
shown-inside s None part h p = absurd (some-none (sym p))

lies-inside : (form : FormKind) (s : List ℕ) (spot : Spot) {x : Extent} → lies_at form s spot ≡ Some x → x.place + x.length ≤ length s
unfolding lies_at
lies-inside String s spot p = shown-inside s (text_lies s spot.at) _ (parts.text-shown s spot.at) p
lies-inside Block2 s spot p = shown-inside s (block_lies spot.ends.«data» 2 s spot.at) _ (parts.block-shown spot.ends.«data» 2 s spot.at) p
lies-inside Block4 s spot p = shown-inside s (block_lies spot.ends.«data» 4 s spot.at) _ (parts.block-shown spot.ends.«data» 4 s spot.at) p
lies-inside Addr s spot p = absurd (some-none (sym p))
lies-inside Ref s spot p = absurd (some-none (sym p))
lies-inside Data2 s spot p = absurd (some-none (sym p))
lies-inside Data4 s spot p = absurd (some-none (sym p))
lies-inside Data8 s spot p = absurd (some-none (sym p))
lies-inside Undefined s spot p = absurd (some-none (sym p))

-- the part of a place and a length that lie inside is what stands there
inside-stretch : (s : List ℕ) (x : Extent) → x.place + x.length ≤ length s → Stretch s x (part_at s x.place x.length)
inside-stretch s x h =
    subst (λ (l : Option Extent). Shown s l (part_at s x.place x.length)) (sym (parts.part_lies_lem s x.place x.length (inside-there s x.place x.length h)))
    (parts.part-shown s x.place x.length)

-- ---- an attribute that a row has

-- a form is known by its number
by_number : (form : FormKind) → lookup forms Undefined (form_number form) ≡ form
unfolding forms lookup form_number
by_number Addr = refl
by_number Ref = refl
by_number Block2 = refl
by_number Block4 = refl
by_number Data2 = refl
by_number Data4 = refl
by_number Data8 = refl
by_number String = refl
by_number Undefined = refl

form-known : (form : FormKind) (number : ℕ) → is_form form number ≡ true → form_of number ≡ form
unfolding is_form
form-known form number h =
    let same : form_number form ≡ form_number (form_of number) = eqb-true (form_number form) (form_number (form_of number)) h in
    sym (by_number (form_of number)) ∙ ap (lookup forms Undefined) (sym same) ∙ by_number form

module _ {s vendors rows attrs : List ℕ} {counts : Counts} (checked : TableHolds s vendors rows attrs counts) (i : ℕ) (here : i < counts.rows)
    (number : ℕ) (form : FormKind) where
  -- its value ends inside, in the row's data endianness
  ends-inside : {k : ℕ} → is_form form number ≡ true → attribute_of rows attrs i (wanted.Number number) ≡ Some k
      → is_at (value_end form (endian_of (row_at rows i).flags) s (attr_at attrs k).value) ≡ true
  unfolding is_at wants
  ends-inside {k} formed found =
      let among = attribute-found rows attrs i (wanted.Number number) found in
      let is_number : (attr_at attrs k).number ≡ number = eqb-true (attr_at attrs k).number number among.2 in
      let passed : AttrKnown s vendors (endian_of (row_at rows i).flags) (attr_at attrs k) = held-attr checked i here k among.0 among.1 in
      ap is_at (of-form (endian_of (row_at rows i).flags) s (attr_at attrs k).value (ap form_of is_number ∙ form-known form number formed) ∙ passed.ends)

  -- the number that it says is there
  pub number_there : IsNumber form → (e : Endian) {k : ℕ} → is_form form number ≡ true → attribute_of rows attrs i (wanted.Number number) ≡ Some k
      → NumberTold (word_at form s (record { at = (attr_at attrs k).value; ends = ends_of e rows i }))
  unfolding ends_of
  number_there n e {k} formed found = word-told form n s (record { at = (attr_at attrs k).value; ends = ends_of e rows i }) (ends-inside formed found)

-- a row's reference, as the walks over rows read it, is nothing only where the row has no such attribute
pub reference-there : {s vendors rows attrs : List ℕ} {counts : Counts} → TableHolds s vendors rows attrs counts → (e : Endian) (i : ℕ)
    → i < counts.rows → (number : ℕ) → is_form Ref number ≡ true
    → reference_of e s rows attrs i number ≡ None → attribute_of rows attrs i (wanted.Number number) ≡ None
unfolding reference_of
reference-there {s} {rows = rows} {attrs = attrs} checked e i here number formed = go (attribute_of rows attrs i (wanted.Number number)) refl
  where
    go : (found : Option ℕ) → attribute_of rows attrs i (wanted.Number number) ≡ found → reference_by e s attrs found ≡ None → found ≡ None
    go (Some k) p q = absurd (reference-is e (endian_of (row_at rows i).flags) s attrs k (ends-inside checked i here number Ref formed p) q)
    go None p q = refl

-- ---- the place that a lookup comes to

-- the value at a place ends inside; where there is no place, there is none for it
module _ (s rows attrs : List ℕ) (n key number : ℕ) (form : FormKind) where
  abbrev Sound : Said (Option Spot) → Type 0
  Sound (gives (Some spot)) = is_at (value_end form spot.ends.«data» s spot.at) ≡ true
  Sound (gives None) = Without rows attrs n key number form
  Sound (refuses reason place counts) = Unit

  -- where all that stands at a place is told, nothing is told only where there is no place
  nothing-told : {A : Type 0} (tells : Option Spot → Option A)
      → ((spot : Spot) → is_at (value_end form spot.ends.«data» s spot.at) ≡ true → tells (Some spot) ≡ None → ⊥)
      → (place : Said (Option Spot)) → Sound place → (place >>= (λ spot. gives (tells spot))) ≡ gives None → Without rows attrs n key number form
  unfolding ◌>>=◌
  nothing-told tells told (gives (Some spot)) h p = absurd (told spot h (given_is p))
  nothing-told tells told (gives None) h p = h
  nothing-told tells told (refuses reason place counts) h p = absurd (given-refused (sym p))

module _ {s vendors rows attrs : List ℕ} {counts : Counts} (checked : TableHolds s vendors rows attrs counts) (i : ℕ) (here : i < counts.rows) (key : ℕ)
    (has_key : (row_at rows i).key ≡ key) (number : ℕ) (form : FormKind) (e : Endian) where
  found-sound : is_form form number ≡ true → (found : Option ℕ) → attribute_of rows attrs i (wanted.Number number) ≡ found
      → Sound s rows attrs counts.rows key number form (gives (spot_found (ends_of e rows i) attrs found))
  unfolding spot_found ends_of
  found-sound formed (Some k) p = ends-inside checked i here number form formed p
  found-sound formed None p = record { row = i; is_there = here; has_key = has_key; none = inr p }

  spot-sound : Sound s rows attrs counts.rows key number form (gives (spot_in e rows attrs number form i))
  unfolding spot_in spot_at
  spot-sound =
      cond-all (λ (m : Option Spot). Sound s rows attrs counts.rows key number form (gives m)) (is_form form number)
      (λ formed. found-sound formed (attribute_of rows attrs i (wanted.Number number)) refl)
      (λ other. record { row = i; is_there = here; has_key = has_key; none = inl other })

module _ (settings : Settings) (vendors sizes s rows attrs : List ℕ) (counts : Counts) (key number : ℕ) (form : FormKind) where
  row-sound : (d : Said ℕ) → row_of (table s settings vendors sizes rows attrs counts) key ≡ d
      → Sound s rows attrs counts.rows key number form (d >>= (λ i. gives (spot_in settings.endian rows attrs number form i)))
  unfolding said ◌>>=◌
  row-sound (gives i) p =
      spot-sound (keyed-held settings vendors sizes s rows attrs counts key {told = Ok i} (sym p) refl) i
      (keyed-there settings vendors sizes s rows attrs counts key {told = Ok i} (sym p) refl) key
      (keyed-key settings vendors sizes s rows attrs counts key {told = Ok i} (sym p) refl) number form settings.endian
  row-sound (refuses reason place counts) p = tt

  place-sound : Sound s rows attrs counts.rows key number form (place_of_key (table s settings vendors sizes rows attrs counts) key number form)
  unfolding place_of_key
  place-sound = row-sound (row_of (table s settings vendors sizes rows attrs counts) key) refl

  -- a lookup of a number tells nothing only where the key's row has no such attribute or it has another form
  pub value_there : IsNumber form → value_of_key (table s settings vendors sizes rows attrs counts) key number form ≡ gives None
      → Without rows attrs counts.rows key number form
  unfolding value_of_key word_of_place
  value_there n p =
      nothing-told s rows attrs counts.rows key number form (word_of_place form s)
      (λ spot h q. let told : NumberTold (word_at form s spot) = word-told form n s spot h in some-none (sym told.is_number ∙ q))
      (place_of_key (table s settings vendors sizes rows attrs counts) key number form) place-sound p

  -- so does a lookup of a part
  pub extent-there : IsPart form → extent_of_key (table s settings vendors sizes rows attrs counts) key number form ≡ gives None
      → Without rows attrs counts.rows key number form
  unfolding extent_of_key extent_of_place
  extent-there n p =
      nothing-told s rows attrs counts.rows key number form (extent_of_place form s) (λ spot h q. part-told form n s spot h q)
      (place_of_key (table s settings vendors sizes rows attrs counts) key number form) place-sound p

  -- the value at the place that a lookup comes to ends inside
  place_inside : {spot : Spot} → place_of_key (table s settings vendors sizes rows attrs counts) key number form ≡ gives (Some spot)
      → is_at (value_end form spot.ends.«data» s spot.at) ≡ true
  place_inside p = subst (Sound s rows attrs counts.rows key number form) p place-sound

  -- what is told follows from the place
  extent-at : {spot : Spot} {x : Extent} → place_of_key (table s settings vendors sizes rows attrs counts) key number form ≡ gives (Some spot)
      → extent_of_key (table s settings vendors sizes rows attrs counts) key number form ≡ gives (Some x) → lies_at form s spot ≡ Some x
  unfolding extent_of_key extent_of_place ◌>>=◌
  extent-at p q = given_is (sym (ap (λ (d : Said (Option Spot)). d >>= (λ m. gives (extent_of_place form s m))) p) ∙ q)

  told-inside : (place : Said (Option Spot)) {x : Extent} → (place >>= (λ spot. gives (extent_of_place form s spot))) ≡ gives (Some x)
      → x.place + x.length ≤ length s
  unfolding extent_of_place ◌>>=◌
  told-inside (gives (Some spot)) p = lies-inside form s spot (given_is p)
  told-inside (gives None) p = absurd (some-none (sym (given_is p)))
  told-inside (refuses reason place counts) p = absurd (given-refused (sym p))

  extent-inside : {x : Extent} → extent_of_key (table s settings vendors sizes rows attrs counts) key number form ≡ gives (Some x)
      → x.place + x.length ≤ length s
  unfolding extent_of_key
  extent-inside p = told-inside (place_of_key (table s settings vendors sizes rows attrs counts) key number form) p

  -- the part that a lookup hands back is what stands at the place and has the length that the call beside it tells, all of it inside the section
  pub part-there : {x : Extent} → extent_of_key (table s settings vendors sizes rows attrs counts) key number form ≡ gives (Some x)
      → Stretch s x (part_of s (extent_of_key (table s settings vendors sizes rows attrs counts) key number form))
  unfolding part_of
  part-there {x} p =
      let inside : x.place + x.length ≤ length s = extent-inside p in
      subst (λ (d : Said (Option Extent)). Stretch s x (part_of s d)) (sym p) (inside-stretch s x inside)

module _ (settings : Settings) (vendors sizes s rows attrs : List ℕ) (counts : Counts) (key number : ℕ) {spot : Spot} {x : Extent} where
  -- a text that is told is whole
  pub text-there : place_of_key (table s settings vendors sizes rows attrs counts) key number String ≡ gives (Some spot)
      → extent_of_key (table s settings vendors sizes rows attrs counts) key number String ≡ gives (Some x) → WholeText s spot.at x
  unfolding lies_at value_end
  text-there p q =
      told-so (text-whole s spot.at (place_inside settings vendors sizes s rows attrs counts key number String p))
      (extent-at settings vendors sizes s rows attrs counts key number String p q)

  -- and a block
  pub block2-there : place_of_key (table s settings vendors sizes rows attrs counts) key number Block2 ≡ gives (Some spot)
      → extent_of_key (table s settings vendors sizes rows attrs counts) key number Block2 ≡ gives (Some x)
      → WholeBlock spot.ends.«data» 2 s spot.at x
  unfolding lies_at value_end
  block2-there p q =
      told-so (block-whole spot.ends.«data» 2 s spot.at (place_inside settings vendors sizes s rows attrs counts key number Block2 p))
      (extent-at settings vendors sizes s rows attrs counts key number Block2 p q)

  pub block4-there : place_of_key (table s settings vendors sizes rows attrs counts) key number Block4 ≡ gives (Some spot)
      → extent_of_key (table s settings vendors sizes rows attrs counts) key number Block4 ≡ gives (Some x)
      → WholeBlock spot.ends.«data» 4 s spot.at x
  unfolding lies_at value_end
  block4-there p q =
      told-so (block-whole spot.ends.«data» 4 s spot.at (place_inside settings vendors sizes s rows attrs counts key number Block4 p))
      (extent-at settings vendors sizes s rows attrs counts key number Block4 p q)
