-- The standard's tables, forms and extents against those that the reader goes by.
use Rattle.std.specs.Prelude.{Result, Ok, Err}
use Prim.Native.Nat.{ℕ, zero, suc, ◌+◌, ◌-◌, ◌%◌, ◌≤◌, ◌<◌}
use native.Mathlib.Nat.{le_of_suc-le-suc, not-suc-le-zero}
use native.Mathlib.Decide.{dec_le}
use native.Mathlib.Omega.{arith}
use mathlib.Core.Path.{◌≡◌, refl, sym, ap, ◌∙◌, subst}
use mathlib.Core.Bool.{Bool, true, false, ◌&&◌, ◌||◌, cond, or-true, or_assoc, false≢true}
use mathlib.Core.List.{List, [], ◌∷◌, ◌++◌}
use lib.ListN.{length, get_or, drop, length-drop}
use lib.Seq.{get_or-drop}
use lib.Dec.{leb, ltb, eqb}
use borrow.Author.Tests.{eq-eqb, eqb-true, ltb-true, lt-ltb}
use Rattle.standard.specs.Numbers.{OnList, Form, ADDR, REF, BLOCK2, BLOCK4, DATA2, DATA4, DATA8, STRING, form_number}
use Rattle.standard.specs.Numbers as standard
use Rattle.standard.specs.Exact.{ValueEnds}
use Rattle.standard.specs.Exact as exact
use Rattle.numbers.specs.Value.{value_of, there, read_at}
use Rattle.numbers.specs.declared.Endian.{Endian}
use Rattle.numbers.proofs.Laws.Tests.{cond-all}
use Rattle.numbers.proofs.Laws.Value.{there-inside, read_all}
use Rattle.numbers.proofs.Laws.Written.{inside-there}
use Rattle.format.specs.Lookup.{is_on, index_of, lookup}
use Rattle.format.specs.Known.{known}
use Rattle.format.specs.AttributeKind.{attribute_kinds, used, also_known}
use Rattle.format.specs.TagKind as tag
use Rattle.format.specs.FormKind as reader
use Rattle.format.specs.declared.form_kind.FormKind.{FormKind}
use Rattle.format.specs.declared.form_kind.FormKind.TheVariants.{Addr, Ref, Block2, Block4, Data2, Data4, Data8, String, Undefined}
use Rattle.format.proofs.Laws.Computed.{below, below_at}
use Rattle.format.proofs.Laws.Lookup.{member-index}
use Rattle.attributes.specs.Text.{zero_from}
use Rattle.attributes.specs.End.{fixed_end, block_end, text_end, value_end}
use Rattle.attributes.specs.declared.value.Unread.{Unread}
use Rattle.attributes.specs.declared.value.Unread.TheVariants as missing
use Rattle.entries.specs.Standard.{without, taken}
use Rattle.entries.proofs.Laws.Index.{index_at, index-before}
use Rattle.entries.proofs.Laws.KnownRun.{by-test}

-- ---- lists of numbers

place-on : (xs : List ℕ) (i : ℕ) → i < length xs → is_on (get_or xs i 0) xs ≡ true
unfolding is_on
place-on [] i h = absurd (not-suc-le-zero h)
place-on (x ∷ xs) zero h = rw (eq-eqb x x refl)
place-on (x ∷ xs) (suc i) h = rw (place-on xs i (le_of_suc-le-suc h)) (or-true (eqb x (get_or xs i 0)))

-- what stands on a list is on it
pub listed-on : {n : ℕ} {xs : List ℕ} → OnList n xs → is_on n xs ≡ true
listed-on {xs = xs} on = ap (λ (k : ℕ). is_on k xs) (sym on.stands) ∙ place-on xs on.index on.inside

pub on-listed : {n : ℕ} (xs : List ℕ) → is_on n xs ≡ true → OnList n xs
on-listed {n} xs h =
    let inside : index_of n xs < length xs = ltb-true (index_of n xs) (length xs) (sym (member-index xs n) ∙ h) in
    record { index = index_of n xs; inside = inside; stands = index_at n xs inside }

on-append : (n : ℕ) (xs ys : List ℕ) → is_on n (xs ++ ys) ≡ (is_on n xs || is_on n ys)
unfolding is_on
on-append n [] ys = refl
on-append n (x ∷ xs) ys = ap (λ (b : Bool). eqb x n || b) (on-append n xs ys) ∙ sym (or_assoc (eqb x n) (is_on n xs) (is_on n ys))

-- every number of a list is on another
unfoldable all_on : List ℕ → List ℕ → Bool
all_on [] ys = true
all_on (x ∷ xs) ys = is_on x ys && all_on xs ys

both : (a b : Bool) → (a && b) ≡ true → (a ≡ true) × (b ≡ true)
both true b t = (refl, t)
both false b t = absurd (false≢true t)

all-on : (xs ys : List ℕ) (n : ℕ) → all_on xs ys ≡ true → is_on n xs ≡ true → is_on n ys ≡ true
unfolding all_on is_on
all-on [] ys n t h = absurd (false≢true h)
all-on (x ∷ xs) ys n t h =
    let parts = both (is_on x ys) (all_on xs ys) t in
    by-test (eqb x n) (λ e. ap (λ (k : ℕ). is_on k ys) (sym (eqb-true x n e)) ∙ parts.0) (λ d. all-on xs ys n parts.1 (rw d at h))

same_test : (a b : Bool) → (a ≡ true → b ≡ true) → (b ≡ true → a ≡ true) → a ≡ b
same_test true b f g = sym (f refl)
same_test false true f g = g refl
same_test false false f g = refl

-- ---- tags

-- the tags that are known are the standard's and Metrowerks' own
pub tags-agree : tag.tags ≡ standard.tags ++ (tag.mw_overlay_branch ∷ [])
unfolding tag.tags standard.tags
tags-agree = refl

-- so the standard's are
pub tag_known : {n : ℕ} → OnList n standard.tags → is_on n tag.tags ≡ true
tag_known {n} on =
    ap (is_on n) tags-agree ∙ on-append n standard.tags (tag.mw_overlay_branch ∷ []) ∙ ap (λ (b : Bool). b || is_on n (tag.mw_overlay_branch ∷ [])) (listed-on on)

-- ---- attribute numbers

-- those that are taken of the standard are document 01's
numbers-agree : (n : ℕ) → is_on n (without 0x01e6 standard.attributes) ≡ is_on n attribute_kinds
unfolding without standard.attributes attribute_kinds used also_known all_on is_on
numbers-agree n =
    let ours : List ℕ = attribute_kinds in
    let theirs : List ℕ = without 0x01e6 standard.attributes in
    same_test (is_on n theirs) (is_on n ours) (all-on theirs ours n refl) (all-on ours theirs n refl)

-- the numbers that are taken are those that are known
pub taken-agrees : (vendors : List ℕ) (n : ℕ) → is_on n (taken vendors) ≡ known vendors n
unfolding taken known
taken-agrees vendors n =
    on-append n (without 0x01e6 standard.attributes) vendors ∙ ap (λ (b : Bool). b || is_on n vendors) (numbers-agree n)

-- ---- forms

-- a form of the standard's, as the reader names it
abbrev pub kind_of : Form → FormKind
kind_of ADDR = Addr
kind_of REF = Ref
kind_of BLOCK2 = Block2
kind_of BLOCK4 = Block4
kind_of DATA2 = Data2
kind_of DATA4 = Data4
kind_of DATA8 = Data8
kind_of STRING = String

-- its number there, and the name of that number
form-named : (form : Form)
    → (reader.form_number (kind_of form) ≡ form_number form) × (lookup reader.forms Undefined (form_number form) ≡ kind_of form) × (1 ≤ form_number form)
unfolding form_number reader.form_number lookup reader.forms
form-named ADDR = (refl, refl, omega arith)
form-named REF = (refl, refl, omega arith)
form-named BLOCK2 = (refl, refl, omega arith)
form-named BLOCK4 = (refl, refl, omega arith)
form-named DATA2 = (refl, refl, omega arith)
form-named DATA4 = (refl, refl, omega arith)
form-named DATA8 = (refl, refl, omega arith)
form-named STRING = (refl, refl, omega arith)

-- the low four bits say the form
pub form-agrees : (n : ℕ) (form : Form) → n % 16 ≡ form_number form → reader.form_of n ≡ kind_of form
unfolding reader.form_of
form-agrees n form p = ap (lookup reader.forms Undefined) p ∙ (form-named form).1

-- and nothing else does
pub form-only : (n : ℕ) (form : Form) → reader.form_of n ≡ kind_of form → n % 16 ≡ form_number form
unfolding reader.form_of reader.forms reader.form_number lookup below
form-only n form p =
    let number : reader.form_number (reader.form_of n) ≡ form_number form = ap reader.form_number p ∙ (form-named form).0 in
    let low : reader.form_number (reader.form_of n) ≡ cond (leb (n % 16) 8) (n % 16) 0 =
    eqb-true _ _ (below_at 16 (λ (k : ℕ). eqb (reader.form_number (lookup reader.forms Undefined k)) (cond (leb k 8) k 0)) refl (n % 16) (omega arith))
    in
    cond-all (λ (k : ℕ). k ≡ form_number form → n % 16 ≡ form_number form) (leb (n % 16) 8) (λ t q. q) (λ t q. let some : 1 ≤ form_number form = (form-named form).2 in absurd (omega arith))
    (sym low ∙ number)

-- ---- extents

module _ (s : List ℕ) (at : ℕ) where
  fixed_told : (w : ℕ) → at + w ≤ length s → fixed_end s at w ≡ Ok (at + w)
  unfolding fixed_end
  fixed_told w h = rw (inside-there s at w h)

  block-told : (e : Endian) (w : ℕ) → at + w + value_of e w s at ≤ length s → block_end e w s at ≡ Ok (at + w + value_of e w s at)
  unfolding block_end fixed_end read_at
  block-told e w h = rw (inside-there s at w (omega arith), inside-there s (at + w) (value_of e w s at) h)

  -- the first zero at or after a place
  pub zero-found : (z : ℕ) → at ≤ z → z < length s → ((i : ℕ) → at ≤ i → i < z → get_or s i 0 ≡ 0 → ⊥) → get_or s z 0 ≡ 0 → zero_from s at ≡ z
  unfolding zero_from
  zero-found z from inside before here =
      let k : ℕ = index_of 0 (drop at s) in
      let left : length (drop at s) ≡ length s - at = length-drop at s in
      let place : at + (z - at) ≡ z = omega arith in
      elim (dec_le k (z - at)) [
        | yes a ↦ elim (dec_le (z - at) k) [
          | yes b ↦ omega arith
          | no b ↦ absurd (before (at + k) (omega arith) (omega arith) (sym (get_or-drop at s k 0) ∙ index_at 0 (drop at s) (omega arith)))
        ]
        | no a ↦ absurd
            (index-before 0 (drop at s) (z - at) (omega arith) (get_or-drop at s (z - at) 0 ∙ ap (λ (j : ℕ). get_or s j 0) place ∙ here))
      ]

  text-told : (z : ℕ) → z < length s → zero_from s at ≡ z → text_end s at ≡ Ok (suc z)
  unfolding text_end
  text-told z h p = rw (p, lt-ltb z (length s) h)

-- a value that ends inside is told to end there
pub ends-told : {e : Endian} {s : List ℕ} {form : Form} {at next : ℕ} → ValueEnds e s form at next → next ≤ length s
    → value_end (kind_of form) e s at ≡ Ok next
unfolding value_end
ends-told {s = s} (exact.address at) h = fixed_told s at 4 h
ends-told {s = s} (exact.reference at) h = fixed_told s at 4 h
ends-told {e} {s} (exact.block2 at) h = block-told s at e 2 h
ends-told {e} {s} (exact.block4 at) h = block-told s at e 4 h
ends-told {s = s} (exact.data2 at) h = fixed_told s at 2 h
ends-told {s = s} (exact.data4 at) h = fixed_told s at 4 h
ends-told {s = s} (exact.data8 at) h = fixed_told s at 8 h
ends-told {s = s} (exact.string at z from before here) h = text-told s at z h (zero-found s at z from h before here)

-- an end that was told, and one that a value has
abbrev Told : List ℕ → (ℕ → Type 0) → Result ℕ Unread → Type 0
Told s Ends (Ok next) = Ends next × (next ≤ length s)
Told s Ends (Err why) = Unit

module _ (s : List ℕ) (Ends : ℕ → Type 0) where
  fixed-ends : (at w : ℕ) → Ends (at + w) → Told s Ends (fixed_end s at w)
  unfolding fixed_end
  fixed-ends at w h = cond-all (Told s Ends) (there s at w) (λ t. (h, there-inside s at w t)) (λ t. tt)

  block-ends : (at : ℕ) (e : Endian) (w : ℕ) → Ends (at + w + value_of e w s at) → Told s Ends (block_end e w s at)
  unfolding block_end
  block-ends at e w h =
      read_all (λ n. fixed_end s (at + w) n) (Err (missing.Short at)) e w s at (Told s Ends) (λ t. fixed-ends (at + w) (value_of e w s at) h) (λ t. tt)

  text-ends : (at : ℕ) → ((z : ℕ) → at ≤ z → ((i : ℕ) → at ≤ i → i < z → get_or s i 0 ≡ 0 → ⊥) → get_or s z 0 ≡ 0 → Ends (suc z)) → Told s Ends (text_end s at)
  unfolding text_end zero_from
  text-ends at h =
      let k : ℕ = index_of 0 (drop at s) in
      let left : length (drop at s) ≡ length s - at = length-drop at s in
      cond-all (Told s Ends) (ltb (at + k) (length s))
      (λ t.
      let inside : at + k < length s = ltb-true (at + k) (length s) t in (
        h (at + k) (omega arith) (λ i from before p. index-before 0 (drop at s) (i - at) (omega arith) (at_place i from p))
            (sym (get_or-drop at s k 0) ∙ index_at 0 (drop at s) (omega arith)),
        inside,
      ))
      (λ t. tt)
    where
      at_place : (i : ℕ) → at ≤ i → get_or s i 0 ≡ 0 → get_or (drop at s) (i - at) 0 ≡ 0
      at_place i from p = let place : at + (i - at) ≡ i = omega arith in get_or-drop at s (i - at) 0 ∙ ap (λ (j : ℕ). get_or s j 0) place ∙ p

-- the end of a value of each form
told-ends : (form : Form) (e : Endian) (s : List ℕ) (at : ℕ) → Told s (ValueEnds e s form at) (value_end (kind_of form) e s at)
unfolding value_end
told-ends ADDR e s at = fixed-ends s _ at 4 (exact.address at)
told-ends REF e s at = fixed-ends s _ at 4 (exact.reference at)
told-ends BLOCK2 e s at = block-ends s _ at e 2 (exact.block2 at)
told-ends BLOCK4 e s at = block-ends s _ at e 4 (exact.block4 at)
told-ends DATA2 e s at = fixed-ends s _ at 2 (exact.data2 at)
told-ends DATA4 e s at = fixed-ends s _ at 4 (exact.data4 at)
told-ends DATA8 e s at = fixed-ends s _ at 8 (exact.data8 at)
told-ends STRING e s at = text-ends s _ at (exact.string at)

-- it is told to end only there
pub ends-only : {e : Endian} {s : List ℕ} {form : Form} {at next : ℕ} → value_end (kind_of form) e s at ≡ Ok next
    → ValueEnds e s form at next × (next ≤ length s)
ends-only {e} {s} {form} {at} p = subst (Told s (ValueEnds e s form at)) p (told-ends form e s at)
