-- The way of the code from the last row back: what its functions require, and what the loop along a row's reach keeps.
use Rattle.std.specs.Prelude.{ℕ, suc, ◌+◌, ◌≤◌, ◌<◌, ◌≡◌, List}
use Rattle.tables.specs.Inside.Find.{Rising}
use Rattle.tree.specs.Inside.Passing.{chain}

-- row i is in the table, and so is the end of its reach
pub record ReachInside (rows : List ℕ) (n i end : ℕ) : Type 0 where
  pub rising : Rising rows n
  pub there : i < n
  pub within : end ≤ n

-- what is left of the chain at row c comes to the whole chain after row i; the turns that are left suffice
pub record Along (n : ℕ) (reach : ℕ → ℕ) (end b i c : ℕ) : Type 0 where
  pub turns : ℕ
  pub enough : end ≤ c + turns
  pub rest : chain n reach end b turns c ≡ chain n reach end b n (suc i)
