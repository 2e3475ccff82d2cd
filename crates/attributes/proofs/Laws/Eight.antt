-- What a look at n bytes at once comes to.
use Prim.Native.Nat.{ℕ, zero, suc, ◌+◌, ◌≤◌}
use native.Mathlib.Nat.{add-zero}
use native.Mathlib.Omega.{arith}
use mathlib.Core.Path.{◌≡◌, refl, sym, ap, ◌∙◌}
use mathlib.Core.Bool.{Bool, true, false, ◌||◌, cond}
use mathlib.Core.List.{List}
use lib.ListN.{length, get_or}
use lib.Dec.{eqb}
use borrow.Author.Tests.{eqb-true, eqb-false}
use Rattle.format.specs.Inside.Some.{some_is}
use Rattle.attributes.specs.Text.{zero_from}
use Rattle.attributes.proofs.Laws.Text.{zero-here, zero-next, zero-end}
use Rattle.attributes.specs.Inside.Eight.{here_or, first_zero}

-- where one is zero, the first of them is the first from i on
pub zero-among : (s : List ℕ) (n i : ℕ) → i + n ≤ length s → some_is s 0 i n ≡ true → first_zero s i n ≡ zero_from s i
unfolding some_is here_or first_zero
zero-among s zero i h p = let z : ◌≡◌ {A = ℕ} 0 1 = cc in absurd (omega arith)
zero-among s (suc n) i h p = first (eqb (get_or s i 0) 0) (zero-among s n (i + 1) (omega arith)) (eqb-true _ _) (eqb-false _ _) p
  where
    first : (b : Bool) {later : Bool} {place : ℕ} → (later ≡ true → place ≡ zero_from s (i + 1)) → (b ≡ true → get_or s i 0 ≡ 0)
        → (b ≡ false → get_or s i 0 ≡ 0 → ⊥)
        → (b || later) ≡ true → cond b i place ≡ zero_from s i
    first true l t f q = sym (zero-here s i (omega arith) (t q))
    first false l t f q = l q ∙ sym (zero-next s i (omega arith) (f refl))

-- where none is, the first zero stands after them
pub zero-past : (s : List ℕ) (n i : ℕ) → i + n ≤ length s → some_is s 0 i n ≡ false → zero_from s i ≡ zero_from s (i + n)
unfolding some_is
zero-past s zero i h p = ap (zero_from s) (sym (add-zero i))
zero-past s (suc n) i h p =
    let after : i + 1 + n ≡ i + suc n = omega arith in
    none (eqb (get_or s i 0) 0) (zero-past s n (i + 1) (omega arith)) (eqb-false _ _) p ∙ ap (zero_from s) after
  where
    none : (b : Bool) {later : Bool} {place : ℕ} → (later ≡ false → zero_from s (i + 1) ≡ place) → (b ≡ false → get_or s i 0 ≡ 0 → ⊥)
        → (b || later) ≡ false → zero_from s i ≡ place
    none true l f q = let z : ◌≡◌ {A = ℕ} 0 1 = cc in absurd (omega arith)
    none false l f q = zero-next s i (omega arith) (f refl) ∙ l q

-- what a loop over eight bytes a turn goes by
pub ruleset eight_steps = (zero-among, zero-past, zero-end)
