-- The tests and the row of a key are never refused by 14.
use Rattle.std.specs.Prelude.{Option, Some, None}
use Prim.Native.Nat.{ℕ}
use Rattle.format.specs.Said.{Never}
use Rattle.format.proofs.Laws.Never.{never-gives, never-refuse, never-must, never-past}
use Rattle.format.specs.declared.refusal.Reason.TheVariants as reason
use Rattle.tables.specs.Table.{Table}
use Rattle.tables.specs.Tests.{test_table}
use Rattle.tables.specs.Find.{row_of_key}
use Rattle.tables.specs.Keyed.{found_row, row_of}

pub tests-never : (t : Table) → Never 14 (test_table t)
unfolding test_table
tests-never t = never-past _ _ (never-must _ reason.Settings 0) (never-past _ _ (never-must _ reason.Long 0) (never-must _ reason.Table 0))

pub found-never : (key : ℕ) (found : Option ℕ) → Never 14 (found_row key found)
unfolding found_row
found-never key (Some i) = never-gives i
found-never key None = never-refuse reason.Entry key

pub row-never : (t : Table) (key : ℕ) → Never 14 (row_of t key)
unfolding row_of
row-never t key = never-past _ _ (tests-never t) (found-never key (row_of_key t.rows t.counts.rows key))
