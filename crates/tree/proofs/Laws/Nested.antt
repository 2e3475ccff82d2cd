-- What is known of reaches: of any table's, and of those that nest.
use Prim.Native.Nat.{ℕ, ◌≤◌, ◌<◌}

-- every reference is good, and where one row lies in an earlier one's reach, its own reach lies there wholly
pub record Nested (n : ℕ) (reach : ℕ → ℕ) : Type 0 where
  pub later : (i : ℕ) → i < n → i < reach i
  pub within : (i : ℕ) → i < n → reach i ≤ n
  pub nests : (i j : ℕ) → i < j → j < n → j < reach i → reach j ≤ reach i
