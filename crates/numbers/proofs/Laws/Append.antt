-- Bytes put behind a section change nothing that was read in it; bytes put in front move every place along.
use Prim.Native.Nat.{ℕ, zero, suc, ◌+◌, ◌*◌, ◌^◌, ◌≤◌}
use native.Mathlib.Nat.{add_assoc}
use native.Mathlib.Omega.{arith}
use mathlib.Core.Path.{◌≡◌, refl, ap, ap₂, ◌∙◌}
use mathlib.Core.Bool.{Bool, true, cond}
use mathlib.Core.List.{List, ◌++◌}
use lib.ListN.{length, get_or, length-append, get_or-append}
use lib.Seq.{get_or-append-add}
use borrow.Author.Tests.{le-leb, leb-true}
use Rattle.numbers.proofs.Laws.Tests.{same_test}
use Rattle.numbers.specs.Value.{value_of, there, read_at}
use Rattle.numbers.specs.declared.Endian.{Endian}
use Rattle.numbers.specs.declared.Endian.TheVariants.{Big, Little}

-- one byte more at the end of a number, the same in both
step : (e : Endian) (w : ℕ) (s t : List ℕ) (at to : ℕ) → value_of e w s at ≡ value_of e w t to → get_or s (at + w) 0 ≡ get_or t (to + w) 0
    → value_of e (suc w) s at ≡ value_of e (suc w) t to
unfolding value_of
step Big w s t at to p q = ap₂ (λ (v b : ℕ). v * 256 + b) p q
step Little w s t at to p q = ap₂ (λ (v b : ℕ). b * 256 ^ w + v) p q

none : (e : Endian) (s t : List ℕ) (at to : ℕ) → value_of e 0 s at ≡ value_of e 0 t to
unfolding value_of
none Big s t at to = refl
none Little s t at to = refl

module _ (a b : List ℕ) where
  pub value_stays : (e : Endian) (w at : ℕ) → at + w ≤ length a → value_of e w (a ++ b) at ≡ value_of e w a at
  value_stays e zero at h = none e (a ++ b) a at at
  value_stays e (suc w) at h =
      step e w (a ++ b) a at at (value_stays e w at (omega arith)) (get_or-append a b 0 (at + w) (omega arith))

  pub value-shift : (e : Endian) (w at : ℕ) → value_of e w (a ++ b) (length a + at) ≡ value_of e w b at
  value-shift e zero at = none e (a ++ b) b (length a + at) at
  value-shift e (suc w) at =
      step e w (a ++ b) b (length a + at) at (value-shift e w at)
      (ap (λ (k : ℕ). get_or (a ++ b) k 0) (add_assoc (length a) at w) ∙ get_or-append-add a b (at + w) 0)

  pub there-stays : (at w : ℕ) → there a at w ≡ true → there (a ++ b) at w ≡ true
  unfolding there
  there-stays at w h =
      let inside : at + w ≤ length a = leb-true (at + w) (length a) h in
      le-leb (at + w) (length (a ++ b)) (rw length-append (omega arith))

  pub there-shift : (at w : ℕ) → there (a ++ b) (length a + at) w ≡ there b at w
  unfolding there
  there-shift at w =
      let whole : length (a ++ b) ≡ length a + length b = length-append a b in
      same_test (length a + at + w) (length (a ++ b)) (at + w) (length b) (λ h. omega arith) (λ h. omega arith)

  module _ {A : Type 0} (value : ℕ → A) (short : A) (e : Endian) (w at : ℕ) where
    pub read_stays : there a at w ≡ true → read_at value short e w (a ++ b) at ≡ read_at value short e w a at
    unfolding read_at there
    read_stays h =
        rw (h, there-stays at w h) (ap value (value_stays e w at (leb-true (at + w) (length a) h)))

    pub read-shift : read_at value short e w (a ++ b) (length a + at) ≡ read_at value short e w b at
    unfolding read_at
    read-shift = ap₂ (λ (t : Bool) (v : ℕ). cond t (value v) short) (there-shift at w) (value-shift e w at)
