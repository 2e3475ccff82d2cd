-- A row of a table that was tested, as functions inside ask for it.
use Rattle.std.specs.Prelude.{ℕ, ◌≤◌, ◌<◌, List}
use Rattle.format.specs.Limits.{entry_limit}
use Rattle.tables.specs.Inside.Find.{Rising}

-- what the functions on a row require
pub record AtRow (rows : List ℕ) (n i : ℕ) : Type 0 where
  pub rising : Rising rows n
  pub there : i < n

-- what the functions on a whole table require
pub record RowsHold (rows : List ℕ) (n : ℕ) : Type 0 where
  pub rising : Rising rows n
  pub few : n ≤ entry_limit
