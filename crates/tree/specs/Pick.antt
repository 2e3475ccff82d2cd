-- Numbers that pass a test: how many, the nearest, the first, all.
use Rattle.std.specs.Prelude.{ℕ, zero, suc, Bool, cond, ltb}

-- how many of the numbers below k pass
unfoldable pub count_below : (ℕ → Bool) → ℕ → ℕ
count_below p zero = 0
count_below p (suc k) = cond (p k) (suc (count_below p k)) (count_below p k)

-- the greatest number below k that passes, plus one; 0 where none does
unfoldable pub nearest_below : (ℕ → Bool) → ℕ → ℕ
nearest_below p zero = 0
nearest_below p (suc k) = cond (p k) (suc k) (nearest_below p k)

-- one of the numbers below k passes
abbrev pub any_below : (ℕ → Bool) → ℕ → Bool
any_below p k = ltb 0 (nearest_below p k)

-- the first of the k numbers from i on that passes, or i + k where none does
unfoldable pub first_from : (ℕ → Bool) → ℕ → ℕ → ℕ
first_from p i zero = i
first_from p i (suc k) = cond (p i) i (first_from p (suc i) k)
