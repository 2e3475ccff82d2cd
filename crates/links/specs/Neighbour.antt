-- The next row and the sibling of the row of a key, the public calls: 1, 2, 3; 11 for a key without a row; else a row number, or nothing.
use Rattle.std.specs.Prelude.{Option, Some, None, ℕ, cond, ltb}
use Rattle.format.specs.Said.{Said, gives, ◌>>=◌}
use Rattle.tables.specs.Table.{Table, table_rows}
use Rattle.tables.specs.Keyed.{row_of}
use Rattle.links.specs.Links.{next_row, sibling_row}

-- a row by its number: n is no row
unfoldable pub row_or_none : ℕ → ℕ → Option ℕ
row_or_none n j = cond (ltb j n) (Some j) None

-- the next row of the row of a key
unfoldable pub next_tag : Table → ℕ → Said (Option ℕ)
next_tag t key = do
  i ← row_of t key
  gives (row_or_none t.counts.rows (next_row t.rows t.counts.rows i))

-- its sibling
unfoldable pub next_sibling : Table → ℕ → Said (Option ℕ)
next_sibling t key = do
  i ← row_of t key
  gives (row_or_none t.counts.rows (sibling_row (table_rows t) i))
