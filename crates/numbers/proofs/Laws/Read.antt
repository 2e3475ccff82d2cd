-- What the answer of a reading tells a caller that goes on from it: at a value, that the bytes are there and make it up; at none, that they are not.
use Rattle.std.specs.Prelude.{Some, None}
use Prim.Native.Nat.{ℕ, ◌+◌, ◌≤◌}
use mathlib.Core.Path.{◌≡◌, refl, sym, ◌∙◌}
use mathlib.Core.Bool.{Bool, true, false}
use mathlib.Core.List.{List}
use lib.ListN.{length}
use Rattle.numbers.specs.Value.{value_of, there, read_at}
use Rattle.numbers.proofs.Laws.Value.{there-inside, reads, reads_short}
use Rattle.numbers.specs.declared.Endian.{Endian}

-- the bytes are there and make up n
pub record Says (e : Endian) (w : ℕ) (s : List ℕ) (at n : ℕ) : Type 0 where
  pub is_there : there s at w ≡ true
  pub is_value : value_of e w s at ≡ n

module _ (e : Endian) (w : ℕ) (s : List ℕ) (at : ℕ) where
  pub says_number : {n : ℕ} → read_at Some None e w s at ≡ Some n → Says e w s at n
  says_number {n} p = go (there s at w) refl
    where
      go : (b : Bool) → there s at w ≡ b → Says e w s at n
      go true h =
          let q : Some (value_of e w s at) ≡ Some n = reads Some None e w s at h refl ∙ p in
          record { is_there = h; is_value = cc }
      go false h = let q : None ≡ Some n = reads_short Some None e w s at h ∙ p in cc

  pub short_number : read_at Some None e w s at ≡ None → there s at w ≡ false
  short_number p = go (there s at w) refl
    where
      go : (b : Bool) → there s at w ≡ b → there s at w ≡ false
      go true h = let q : Some (value_of e w s at) ≡ None = reads Some None e w s at h refl ∙ p in cc
      go false h = h

-- a caller that makes f of a value, and g where there is none
module _ {B : Type 0} (f : ℕ → B) (g : B) {e : Endian} {w : ℕ} {s : List ℕ} {at : ℕ} where
  pub goes_on : {n : ℕ} → Says e w s at n → f n ≡ read_at f g e w s at
  goes_on q = reads f g e w s at q.is_there (sym q.is_value)

pub says-inside : {e : Endian} {w : ℕ} {s : List ℕ} {at n : ℕ} → Says e w s at n → at + w ≤ length s
says-inside {e} {w} {s} {at} q = there-inside s at w q.is_there
