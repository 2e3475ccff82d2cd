use Rattle.tables.specs.Table.{table_of, table_rows}
use Rattle.tree.specs.Reach.{reach_end}
use Rattle.tree.proofs.Laws.Stack.{Passing}
use Rattle.tree.proofs.pass.list_rows.Given as goal

abbrev pub invariant-loop-j : goal.invariant-loop-j
invariant-loop-j l = Passing (reach_end (table_rows (table_of l.t))) l.t.counts.rows l.initial.room l.room l.stack l.ends l.h l.j
