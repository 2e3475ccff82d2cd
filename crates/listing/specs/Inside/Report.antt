-- What is known of rows that the program has room for.
use Rattle.std.specs.Prelude.{ℕ, ◌≤◌, ◌≡◌}
use Rattle.format.specs.Said.{Said, gives}
use Rattle.tables.specs.declared.row.Counts.{Counts}

-- what the writers require: a page holds the lines of no more rows than these
pub record FewRead (answer : Said Counts) : Type 0 where
  pub few : (counts : Counts) → answer ≡ gives counts → counts.rows ≤ 1024

-- and no more places
pub record FewListed (answer : Said ℕ) : Type 0 where
  pub few : (n : ℕ) → answer ≡ gives n → n ≤ 1024
