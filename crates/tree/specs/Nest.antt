-- The tree of n rows, over one thing alone: the end of each row's reach. Row i's reach runs from row i up to, and not with, row `reach i`; where
-- that is 0, row i has a bad reference and no reach.
use Rattle.std.specs.Prelude.{ℕ, Bool, not, ◌&&◌, ◌||◌, leb, ltb, eqb}
use Rattle.format.specs.Limits.{depth_limit}
use Rattle.tree.specs.Pick.{count_below, nearest_below, any_below, first_from}

module _ (n : ℕ) (reach : ℕ → ℕ) where
  -- row j lies in row i's reach
  unfoldable pub lies : ℕ → ℕ → Bool
  lies i j = leb i j && ltb j (reach i)

  -- the number of others' reaches that row j lies in
  unfoldable pub depth : ℕ → ℕ
  depth j = count_below (λ i. not (eqb i j) && lies i j) n

  -- the nearest earlier row whose reach holds row j, plus one; 0 for none
  unfoldable pub parent : ℕ → ℕ
  parent j = nearest_below (λ i. lies i j) j

  -- row j lies in the reach of row i, an earlier one, and its own goes further: they overlap, and neither holds the other
  unfoldable pub crosses : ℕ → ℕ → Bool
  crosses i j = lies i j && ltb (reach i) (reach j)

  -- row j's reference is bad, or crosses an earlier row's reach
  unfoldable pub faulty : ℕ → Bool
  faulty j = eqb (reach j) 0 || any_below (λ i. crosses i j) j

  -- row j lies too deep
  unfoldable pub deep : ℕ → Bool
  deep j = ltb depth_limit (depth j)

  -- the first row at fault, and the first that lies too deep; n where there is none
  unfoldable pub first_fault : ℕ
  first_fault = first_from faulty 0 n

  -- the first row that lies too deep, n where there is none
  unfoldable pub first_deep : ℕ
  first_deep = first_from deep 0 n
