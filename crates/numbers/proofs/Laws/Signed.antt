-- What follows from `Value` of signed numbers, as the machine computes them: `to_z` reads a word's bits as a signed number.
use Rattle.std.specs.Prelude.{Some, None}
use Prim.Native.Nat.{ℕ, zero, suc, ◌+◌, ◌*◌, ◌-◌, ◌/◌, ◌^◌, ◌≤◌, ◌<◌}
use native.Mathlib.Nat.{zero-add}
use native.Mathlib.Omega.{arith}
use mathlib.Core.Path.{◌≡◌, refl, sym, ap, ◌∙◌, subst}
use mathlib.Core.Bool.{true}
use lib.IntN.{ℤ, pos, negsuc, ◌-ℤ◌}
use lib.Signed.{mag}
use mir.Syntax.{w32}
use mir.Val.{SFits, to_z, of_z}
use mir.ValLaws.{to_z_pos, to_z-of_z}
use borrow.Author.Tests.{lt-ltb, le-ltb}
use mathlib.Core.List.{List}
use Rattle.numbers.specs.Value.{value_of, signed_below, signed_of, there, read_at}
use Rattle.numbers.proofs.Laws.Value.{reads}
use Rattle.numbers.specs.declared.Endian.{Endian}

minus-one-less : (k : ℕ) → negsuc 0 -ℤ pos k ≡ negsuc k
minus-one-less zero = refl
minus-one-less (suc k) = ap (λ (n : ℕ). negsuc (suc n)) (zero-add k)

-- k below 2 ^ 31, taken from -1
pub back-from-minus-one : (k : ℕ) → k < 2 ^ 31 → negsuc 0 -ℤ to_z w32 k ≡ negsuc k
back-from-minus-one k h = ap (λ (z : ℤ). negsuc 0 -ℤ z) (to_z_pos w32 k h) ∙ minus-one-less k

pub back_fits : (k : ℕ) → k < 2 ^ 31 → SFits w32 (negsuc 0 -ℤ to_z w32 k)
back_fits k h = subst (λ (z : ℤ). SFits w32 z) (sym (back-from-minus-one k h)) (record { sfits = h })

pub signed_low : (half n : ℕ) → n < half → half ≤ 2 ^ 31 → to_z w32 n ≡ signed_below half n
unfolding signed_below
signed_low half n h k = rw (lt-ltb n half h) (to_z_pos w32 n (omega arith))

pub signed_high : (half n : ℕ) → half ≤ n → n < half + half → half ≤ 2 ^ 31
    → to_z w32 (of_z w32 (negsuc 0 -ℤ to_z w32 (half - 1 - (n - half)))) ≡ signed_below half n
unfolding signed_below
signed_high half n h b k =
    let back : ℕ = half - 1 - (n - half) in
    let small : back < 2 ^ 31 = omega arith in
    let same : back ≡ 2 * half - 1 - n = omega arith in
    rw (le-ltb n half h)
    (to_z-of_z w32 (negsuc 0 -ℤ to_z w32 back) (back_fits back small) ∙ back-from-minus-one back small ∙ ap negsuc same)

-- a signed reading that is there: r is what the machine made of the number v
pub reads-signed : (e : Endian) (w : ℕ) (s : List ℕ) (at : ℕ) {v : ℕ} {r : ℤ} → there s at w ≡ true → v ≡ value_of e w s at
    → r ≡ signed_below (256 ^ w / 2) v → mag r < 2 ^ 31 → Some (to_z w32 (of_z w32 r)) ≡ read_at (λ n. Some (signed_of w n)) None e w s at
unfolding signed_of
reads-signed e w s at {v} {r} h p q f =
    ap Some (to_z-of_z w32 r (record { sfits = f }) ∙ q) ∙ reads (λ (n : ℕ). Some (signed_below (256 ^ w / 2) n)) None e w s at h p
