use Rattle.tables.specs.Table.{table_of, table_rows}
use Rattle.links.proofs.Laws.Children.{Walking}
use Rattle.links.specs.Links.{sibling_row}
use Prim.Native.Nat.{◌-◌}
use Rattle.links.proofs.children.walk.Given as goal

abbrev pub invariant-loop-c : goal.invariant-loop-c
invariant-loop-c l = Walking l.t.rows.now l.t.counts.rows (sibling_row (table_rows (table_of l.t))) l.end l.from l.initial.room l.room l.c l.k l.turns

abbrev pub decreases-loop-c : goal.decreases-loop-c
decreases-loop-c l = l.t.counts.rows - l.turns
