-- The children that a walk meets, for callers that take them one at a time.
use Rattle.std.specs.Prelude.{ℕ, ◌≡◌, Bool, true, false, List, [], ◌∷◌}
use Rattle.tables.specs.Table.{lent_rows}
use Rattle.numbers.specs.declared.Endian.{Endian}
use Rattle.links.specs.Walk.{Walk, ends, endless, walk_from}
use Rattle.links.specs.Links.{sibling_row, next_row, non_null}
use Rattle.links.specs.Inside.Links.{RowsHold}

-- the rows that a walk meets; none where it never ends
unfoldable pub rows_met : Walk → List ℕ
rows_met (ends cs) = cs
rows_met endless = []

-- the walk ends
unfoldable pub is_ending : Walk → Bool
is_ending (ends cs) = true
is_ending endless = false

module _ (e : Endian) (s rows attrs : List ℕ) (n : ℕ) where
  -- the walk from c on, sibling by sibling, up to `end`
  unfoldable pub walk_on : ℕ → ℕ → Walk
  walk_on end c = walk_from n (λ d. sibling_row (lent_rows e s rows attrs n) d) end n c

  -- the children that it meets: null entries are left out
  unfoldable pub children_from : ℕ → ℕ → List ℕ
  children_from end c = non_null rows (rows_met (walk_on end c))

  -- the children of row i
  unfoldable pub children_at : ℕ → List ℕ
  children_at i = children_from (sibling_row (lent_rows e s rows attrs n) i) (next_row rows n i)

  -- what taking children one at a time requires: the walk ends
  pub record Ends (end c : ℕ) : Type 0 where
    pub table : RowsHold rows n
    pub ending : is_ending (walk_on end c) ≡ true

-- the first of a list of rows, or n
unfoldable pub first_or : ℕ → List ℕ → ℕ
first_or n [] = n
first_or n (c ∷ cs) = c
