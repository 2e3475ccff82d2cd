-- The row of a key.
use Rattle.std.specs.Prelude.{Option, Some, None, ℕ, zero, suc, cond, List, eqb}
use Rattle.tables.specs.Row.{row_at}

-- the first of n rows from i on that has this key
unfoldable pub row_from : List ℕ → ℕ → ℕ → ℕ → Option ℕ
row_from rows i zero key = None
row_from rows i (suc n) key = cond (eqb (row_at rows i).key key) (Some i) (row_from rows (suc i) n key)

-- the row, of a table's n, that has this key
unfoldable pub row_of_key : List ℕ → ℕ → ℕ → Option ℕ
row_of_key rows n key = row_from rows 0 n key
