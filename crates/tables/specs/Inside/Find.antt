-- How the code searches the row of a key: in steps that double, then by halves.
use Rattle.std.specs.Prelude.{ℕ, ◌+◌, ◌≤◌, ◌<◌, List, length}
use Rattle.tables.specs.Row.{row_at}

-- the keys of n rows rise
pub record Rising (rows : List ℕ) (n : ℕ) : Type 0 where
  pub few : n ≤ length rows
  pub rise : (i : ℕ) → i + 1 < n → (row_at rows i).key < (row_at rows (i + 1)).key

-- ---- bisection

-- r is the first of n rows whose key is not below `key`, or n
pub record FirstFrom (rows : List ℕ) (n key r : ℕ) : Type 0 where
  pub within : r ≤ n
  pub lower : (k : ℕ) → k < r → (row_at rows k).key < key
  pub reaches : (k : ℕ) → r ≤ k → k < n → key ≤ (row_at rows k).key

-- it stands between low and high
pub record Between (rows : List ℕ) (n key low high : ℕ) : Type 0 where
  pub ordered : low ≤ high
  pub within : high ≤ n
  pub lower : (k : ℕ) → k < low → (row_at rows k).key < key
  pub reaches : (k : ℕ) → high ≤ k → k < n → key ≤ (row_at rows k).key
