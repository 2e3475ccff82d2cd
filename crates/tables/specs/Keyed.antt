-- An answer from the row of a key: 1, 2, 3; then 11 at the key where no row has it.
use Rattle.std.specs.Prelude.{Option, Some, None, ℕ}
use Rattle.tables.specs.Table.{Table}
use Rattle.format.specs.Said.{Said, gives, refuse, ◌>>◌}
use Rattle.format.specs.declared.refusal.Reason.TheVariants as reason
use Rattle.tables.specs.Find.{row_of_key}
use Rattle.tables.specs.Tests.{test_table}

-- the row that was found; 11 at the key where there is none
unfoldable pub found_row : ℕ → Option ℕ → Said ℕ
found_row key (Some i) = gives i
found_row key None = refuse reason.Entry key

-- the row of a key: the tests, then 11
unfoldable pub row_of : Table → ℕ → Said ℕ
row_of t key = do
  test_table t
  found_row key (row_of_key t.rows t.counts.rows key)
