-- Bytes put in front of a section move every place along; bytes put behind it change nothing of a success.
use Rattle.std.specs.Prelude.{Result, Ok, Err}
use Prim.Native.Nat.{ℕ, suc, ◌+◌, ◌-◌, ◌<◌}
use native.Mathlib.Nat.{add_assoc, add-suc}
use native.Mathlib.Omega.{arith}
use mathlib.Core.Path.{◌≡◌, refl, sym, ap, ap₂, ◌∙◌}
use mathlib.Core.Bool.{Bool, true, false, cond}
use mathlib.Core.List.{List, ◌++◌}
use lib.ListN.{length, drop, length-append, length-drop}
use lib.Seq.{drop-append-add, drop-append-le}
use lib.Dec.{ltb}
use borrow.Author.Tests.{ltb-true, lt-ltb}
use Rattle.numbers.proofs.Laws.Tests.{same_test, cond_map}
use Rattle.numbers.specs.Value.{value_of, there, read_at}
use Rattle.numbers.proofs.Laws.Value.{reads, read-map, read_same}
use Rattle.numbers.proofs.Laws.Append.{there-shift, there-stays, read-shift, read_stays}
use Rattle.numbers.specs.declared.Endian.{Endian}
use Rattle.format.specs.Lookup.{index_of}
use Rattle.format.proofs.Laws.Lookup.{index-append}
use Rattle.format.specs.Known.{known}
use Rattle.format.specs.FormKind.{form_of}
use Rattle.format.specs.declared.form_kind.FormKind.{FormKind}
use Rattle.format.specs.declared.form_kind.FormKind.TheVariants.{Addr, Ref, Block2, Block4, Data2, Data4, Data8, String, Undefined}
use Rattle.attributes.specs.Text.{zero_from}
use Rattle.attributes.specs.End.{fixed_end, block_end, text_end, value_end}
use Rattle.attributes.specs.Read.{ending, numbered, read_attribute}
use Rattle.attributes.specs.declared.read.Attribute.{Attribute}
use Rattle.attributes.specs.declared.value.Unread.{Unread}
use Rattle.attributes.specs.declared.value.Unread.TheVariants as unread
use Rattle.attributes.specs.Append.{shift_unread, shift_end, shift_attribute}

-- an end, or an attribute, that is short or not known, at its field
abbrev short : {A : Type 0} → ℕ → Result A Unread
short field = Err (unread.Short field)

abbrev unknown : {A : Type 0} → ℕ → Result A Unread
unknown field = Err (unread.Unknown field)

-- ---- in front

module _ (a b : List ℕ) where
  fixed-shift : (at w : ℕ) → fixed_end (a ++ b) (length a + at) w ≡ shift_end (length a) (fixed_end b at w)
  unfolding fixed_end shift_end shift_unread
  fixed-shift at w =
      ap₂ (λ (t : Bool) (x : ℕ). cond t (Ok x) (short (length a + at))) (there-shift a b at w) (add_assoc (length a) at w)
      ∙ sym (cond_map (shift_end (length a)) (there b at w) (Ok (at + w)) (short at))

  block-shift : (e : Endian) (w at : ℕ) → block_end e w (a ++ b) (length a + at) ≡ shift_end (length a) (block_end e w b at)
  unfolding block_end shift_end shift_unread
  block-shift e w at =
      let bytes : ℕ → Result ℕ Unread = λ n. fixed_end (a ++ b) (length a + at + w) n in
      let moved : ℕ → Result ℕ Unread = λ n. shift_end (length a) (fixed_end b (at + w) n) in
      read-shift a b bytes (short (length a + at)) e w at
      ∙ read_same bytes (short (length a + at)) e w b at moved
      (λ n. ap (λ (p : ℕ). fixed_end (a ++ b) p n) (add_assoc (length a) at w) ∙ fixed-shift (at + w) n)
      ∙ sym (read-map (λ n. fixed_end b (at + w) n) (short at) e w b at (shift_end (length a)))

  zero-shift : (at : ℕ) → zero_from (a ++ b) (length a + at) ≡ length a + zero_from b at
  unfolding zero_from
  zero-shift at =
      ap (λ (l : List ℕ). length a + at + index_of 0 l) (drop-append-add a b at) ∙ add_assoc (length a) at (index_of 0 (drop at b))

  text-shift : (at : ℕ) → text_end (a ++ b) (length a + at) ≡ shift_end (length a) (text_end b at)
  unfolding text_end shift_end shift_unread
  text-shift at =
      let whole : length (a ++ b) ≡ length a + length b = length-append a b in
      let z : ℕ = zero_from b at in
      let test : ltb (length a + z) (length (a ++ b)) ≡ ltb z (length b) =
      same_test (suc (length a + z)) (length (a ++ b)) (suc z) (length b) (λ h. omega arith) (λ h. omega arith)
      in
      ap (λ (y : ℕ). cond (ltb y (length (a ++ b))) (Ok (suc y)) (short (length a + at))) (zero-shift at)
      ∙ ap₂ (λ (t : Bool) (x : ℕ). cond t (Ok x) (short (length a + at))) test (sym (add-suc (length a) z))
      ∙ sym (cond_map (shift_end (length a)) (ltb z (length b)) (Ok (suc z)) (short at))

  pub end-shift : (form : FormKind) (e : Endian) (at : ℕ) → value_end form e (a ++ b) (length a + at) ≡ shift_end (length a) (value_end form e b at)
  unfolding value_end shift_end shift_unread
  end-shift Addr e at = fixed-shift at 4
  end-shift Ref e at = fixed-shift at 4
  end-shift Block2 e at = block-shift e 2 at
  end-shift Block4 e at = block-shift e 4 at
  end-shift Data2 e at = fixed-shift at 2
  end-shift Data4 e at = fixed-shift at 4
  end-shift Data8 e at = fixed-shift at 8
  end-shift String e at = text-shift at
  end-shift Undefined e at = refl

  ending-shift : (n value : ℕ) (end : Result ℕ Unread)
      → ending n (length a + value) (shift_end (length a) end) ≡ shift_attribute (length a) (ending n value end)
  unfolding ending shift_end shift_attribute
  ending-shift n value (Ok next) = refl
  ending-shift n value (Err why) = refl

  numbered-shift : (vendors : List ℕ) (e : Endian) (at n : ℕ)
      → numbered vendors e (a ++ b) (length a + at) n ≡ shift_attribute (length a) (numbered vendors e b at n)
  unfolding numbered shift_attribute shift_unread
  numbered-shift vendors e at n =
      ap (λ (p : ℕ). cond (known vendors n) (ending n p (value_end (form_of n) e (a ++ b) p)) (unknown (length a + at))) (add_assoc (length a) at 2)
      ∙ ap (λ (x : Result Attribute Unread). cond (known vendors n) x (unknown (length a + at)))
      (ap (ending n (length a + (at + 2))) (end-shift (form_of n) e (at + 2)) ∙ ending-shift n (at + 2) (value_end (form_of n) e b (at + 2)))
      ∙ sym (cond_map (shift_attribute (length a)) (known vendors n) (ending n (at + 2) (value_end (form_of n) e b (at + 2))) (unknown at))

  -- reading at a place of b inside a followed by b is reading b, shifted
  pub attribute-shift : (vendors : List ℕ) (e : Endian) (at : ℕ)
      → read_attribute vendors e (a ++ b) (length a + at) ≡ shift_attribute (length a) (read_attribute vendors e b at)
  unfolding read_attribute shift_attribute shift_unread
  attribute-shift vendors e at =
      read-shift a b (numbered vendors e (a ++ b) (length a + at)) (short (length a + at)) e 2 at
      ∙ read_same (numbered vendors e (a ++ b) (length a + at)) (short (length a + at)) e 2 b at
      (λ n. shift_attribute (length a) (numbered vendors e b at n)) (numbered-shift vendors e at)
      ∙ sym (read-map (numbered vendors e b at) (short at) e 2 b at (shift_attribute (length a)))

-- ---- behind

-- a success was not short, and no number that is not known
was_told : {A : Type 0} (t : Bool) (x : Result A Unread) (why : Unread) {told : A} → cond t x (Err why) ≡ Ok told → t ≡ true
was_told true x why p = refl
was_told false x why p = let z : ◌≡◌ {A = ℕ} 0 1 = cc in absurd (omega arith)

ended : (m place : ℕ) (end : Result ℕ Unread) {told : Attribute} → ending m place end ≡ Ok told → (x : ℕ) × (end ≡ Ok x)
unfolding ending
ended m place (Ok x) p = (x, refl)
ended m place (Err why) p = let z : ◌≡◌ {A = ℕ} 0 1 = cc in absurd (omega arith)

module _ (a b : List ℕ) where
  fixed-stays : (at w : ℕ) {next : ℕ} → fixed_end a at w ≡ Ok next → fixed_end (a ++ b) at w ≡ Ok next
  unfolding fixed_end
  fixed-stays at w p =
      let t : there a at w ≡ true = was_told (there a at w) (Ok (at + w)) (unread.Short at) p in
      ap (λ (c : Bool). cond c (Ok (at + w)) (short at)) (there-stays a b at w t ∙ sym t) ∙ p

  block-stays : (e : Endian) (w at : ℕ) {next : ℕ} → block_end e w a at ≡ Ok next → block_end e w (a ++ b) at ≡ Ok next
  unfolding block_end read_at
  block-stays e w at p =
      let v : ℕ = value_of e w a at in
      let t : there a at w ≡ true = was_told (there a at w) (fixed_end a (at + w) v) (unread.Short at) p in
      let bytes : ℕ → Result ℕ Unread = λ n. fixed_end (a ++ b) (at + w) n in
      read_stays a b bytes (short at) e w at t
      ∙ sym (reads bytes (short at) e w a at t refl)
      ∙ fixed-stays (at + w) v (reads (λ n. fixed_end a (at + w) n) (short at) e w a at t refl ∙ p)

  zero-stays : (at : ℕ) → zero_from a at < length a → zero_from (a ++ b) at ≡ zero_from a at
  unfolding zero_from
  zero-stays at h =
      let left : length (drop at a) ≡ length a - at = length-drop at a in
      ap (λ (l : List ℕ). at + index_of 0 l) (drop-append-le at a b (omega arith)) ∙ ap (λ (k : ℕ). at + k) (index-append (drop at a) b 0 (omega arith))

  text-stays : (at : ℕ) {next : ℕ} → text_end a at ≡ Ok next → text_end (a ++ b) at ≡ Ok next
  unfolding text_end
  text-stays at p =
      let z : ℕ = zero_from a at in
      let t : ltb z (length a) ≡ true = was_told (ltb z (length a)) (Ok (suc z)) (unread.Short at) p in
      let inside : z < length a = ltb-true z (length a) t in
      let longer : length (a ++ b) ≡ length a + length b = length-append a b in
      let still : ltb z (length (a ++ b)) ≡ ltb z (length a) = lt-ltb z (length (a ++ b)) (omega arith) ∙ sym t in
      ap (λ (y : ℕ). cond (ltb y (length (a ++ b))) (Ok (suc y)) (short at)) (zero-stays at inside)
      ∙ ap (λ (c : Bool). cond c (Ok (suc z)) (short at)) still
      ∙ p

  pub end_stays : (form : FormKind) (e : Endian) (at : ℕ) {next : ℕ} → value_end form e a at ≡ Ok next → value_end form e (a ++ b) at ≡ Ok next
  unfolding value_end
  end_stays Addr e at p = fixed-stays at 4 p
  end_stays Ref e at p = fixed-stays at 4 p
  end_stays Block2 e at p = block-stays e 2 at p
  end_stays Block4 e at p = block-stays e 4 at p
  end_stays Data2 e at p = fixed-stays at 2 p
  end_stays Data4 e at p = fixed-stays at 4 p
  end_stays Data8 e at p = fixed-stays at 8 p
  end_stays String e at p = text-stays at p
  end_stays Undefined e at p = p

  numbered-stays : (vendors : List ℕ) (e : Endian) (at m : ℕ) {told : Attribute} → numbered vendors e a at m ≡ Ok told
      → numbered vendors e (a ++ b) at m ≡ Ok told
  unfolding numbered
  numbered-stays vendors e at m p =
      let end : Result ℕ Unread = value_end (form_of m) e a (at + 2) in
      let k : known vendors m ≡ true = was_told (known vendors m) (ending m (at + 2) end) (unread.Unknown at) p in
      let given = ended m (at + 2) end (rw k at p) in
      let same : value_end (form_of m) e (a ++ b) (at + 2) ≡ end = end_stays (form_of m) e (at + 2) given.1 ∙ sym given.1 in
      ap (λ (x : Result ℕ Unread). cond (known vendors m) (ending m (at + 2) x) (unknown at)) same ∙ p

  -- a success inside a stays with b behind it
  pub attribute-stays : (vendors : List ℕ) (e : Endian) (at : ℕ) {told : Attribute} → read_attribute vendors e a at ≡ Ok told
      → read_attribute vendors e (a ++ b) at ≡ Ok told
  unfolding read_attribute read_at
  attribute-stays vendors e at p =
      let v : ℕ = value_of e 2 a at in
      let t : there a at 2 ≡ true = was_told (there a at 2) (numbered vendors e a at v) (unread.Short at) p in
      read_stays a b (numbered vendors e (a ++ b) at) (short at) e 2 at t
      ∙ sym (reads (numbered vendors e (a ++ b) at) (short at) e 2 a at t refl)
      ∙ numbered-stays vendors e at v (reads (numbered vendors e a at) (short at) e 2 a at t refl ∙ p)
