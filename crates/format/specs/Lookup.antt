-- Asking a list of numbers: is one on it, where does it stand, what stands beside it.
use Rattle.std.specs.Prelude.{ℕ, zero, suc, Bool, false, ◌||◌, cond, List, [], ◌∷◌, eqb}

-- is n on the list?
unfoldable pub is_on : ℕ → List ℕ → Bool
is_on n [] = false
is_on n (x ∷ xs) = eqb x n || is_on n xs

-- where n first stands on the list, or the list's length
unfoldable pub index_of : ℕ → List ℕ → ℕ
index_of n [] = zero
index_of n (x ∷ xs) = cond (eqb x n) zero (suc (index_of n xs))

-- one line of a table: a number and what it stands for
pub record Line (A : Type 0) : Type 0 where
  pub number : ℕ
  pub meaning : A

-- a line, as the tables write it
infix 80 ◌means◌
-- a line of a table
abbrev pub ◌means◌ : {A : Type 0} → ℕ → A → Line A
n means a = record { number = n; meaning = a }

-- what the table's first line for n says, or `other` where it has none
unfoldable pub lookup : {A : Type 0} → List (Line A) → A → ℕ → A
lookup [] other n = other
lookup (l ∷ ls) other n = cond (eqb l.number n) l.meaning (lookup ls other n)
