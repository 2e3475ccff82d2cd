use Rattle.tables.specs.Table.{table_of, table_rows}
use Rattle.links.proofs.Laws.AnyChild.{GoingOver}
use Rattle.links.specs.Links.{sibling_row}
use Prim.Native.Nat.{◌-◌}
use Rattle.links.proofs.any_child.go_over.Given as goal

abbrev pub invariant-loop-c : goal.invariant-loop-c
invariant-loop-c l = GoingOver l.t.rows.now l.t.counts.rows (sibling_row (table_rows (table_of l.t))) l.end l.from l.c l.met l.turns

abbrev pub decreases-loop-c : goal.decreases-loop-c
decreases-loop-c l = l.t.counts.rows - l.turns
