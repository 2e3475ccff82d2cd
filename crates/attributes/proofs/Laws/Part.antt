-- What follows from `Parts`; and that where a part lies and its bytes are of one part.
use Prim.Native.Nat.{ℕ, ◌+◌, ◌-◌, ◌≤◌, ◌<◌}
use native.Mathlib.Omega.{arith}
use mathlib.Core.Path.{◌≡◌, refl}
use mathlib.Core.Bool.{Bool, true, false, cond}
use mathlib.Core.List.{List}
use lib.ListN.{length, take, drop}
use lib.Dec.{ltb}
use borrow.Author.Tests.{lt-ltb, ltb-true}
use Rattle.numbers.specs.Value.{value_of, there, read_at}
use Rattle.numbers.specs.declared.Endian.{Endian}
use Rattle.numbers.proofs.Laws.Value.{there-inside}
use Rattle.numbers.proofs.Laws.Stands.{part_length}
use Rattle.format.specs.Lookup.{index_of}
use Rattle.attributes.specs.Text.{zero_from}
use Rattle.attributes.specs.Parts.{part_at, block_at, text_at, lies, part_lies, block_lies, text_lies, bytes_from, Shown}

pub part_lies_lem : (s : List ℕ) (from n : ℕ) → there s from n ≡ true → lies from n ≡ part_lies s from n
unfolding part_lies
part_lies_lem s from n h = rw h

module _ (s : List ℕ) (at : ℕ) {z : ℕ} (found : z ≡ zero_from s at) where
  pub text-there : z < length s → take (z - at) (drop at s) ≡ text_at s at
  unfolding text_at zero_from
  text-there h =
      let same : z - at ≡ index_of 0 (drop at s) = omega arith in
      rw (← found, lt-ltb z (length s) h, same)

  pub text-lies : z < length s → lies at (z - at) ≡ text_lies s at
  unfolding text_lies zero_from
  text-lies h =
      let same : z - at ≡ index_of 0 (drop at s) = omega arith in
      rw (← found, lt-ltb z (length s) h, same)

-- ---- where a part lies and its bytes are of one part

-- two answers to one test
both : {A B : Type 0} (P : A → B → Type 0) (b : Bool) {x x' : A} {y y' : B} → (b ≡ true → P x y) → (b ≡ false → P x' y') → P (cond b x x') (cond b y y')
both P true f g = f refl
both P false f g = g refl

-- what is inside is as long as it is told
inside-shown : (s : List ℕ) (place n : ℕ) → place + n ≤ length s → Shown s (lies place n) (bytes_from s place n)
inside-shown s place n h = record { inside = h; bytes = refl; long = part_length s place n h }

-- so an empty part is one of length 0, or the value is cut: which of both, the place tells
pub part-shown : (s : List ℕ) (from n : ℕ) → Shown s (part_lies s from n) (part_at s from n)
unfolding part_lies part_at
part-shown s from n = both (Shown s) (there s from n) (λ h. inside-shown s from n (there-inside s from n h)) (λ h. refl)

pub block-shown : (e : Endian) (w : ℕ) (s : List ℕ) (at : ℕ) → Shown s (block_lies e w s at) (block_at e w s at)
unfolding block_lies block_at read_at
block-shown e w s at = both (Shown s) (there s at w) (λ h. part-shown s (at + w) (value_of e w s at)) (λ h. refl)

pub text-shown : (s : List ℕ) (at : ℕ) → Shown s (text_lies s at) (text_at s at)
unfolding text_lies text_at zero_from
text-shown s at =
    both (Shown s) (ltb (zero_from s at) (length s))
    (λ h. let z : zero_from s at < length s = ltb-true (zero_from s at) (length s) h in inside-shown s at (index_of 0 (drop at s)) (omega arith)) (λ h. refl)
