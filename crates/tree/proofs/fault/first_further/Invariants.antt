use Rattle.tables.specs.Table.{table_of, table_rows}
use Rattle.tree.specs.Reach.{reach_end}
use Rattle.tree.specs.Inside.Fault.{Along}
use Prim.Native.Nat.{◌-◌}
use Rattle.tree.proofs.fault.first_further.Given as goal

abbrev pub invariant-loop-c : goal.invariant-loop-c
invariant-loop-c l = Along l.t.counts.rows (reach_end (table_rows (table_of l.t))) l.end l.b l.i l.c

abbrev pub decreases-loop-c : goal.decreases-loop-c
decreases-loop-c l = l.end - l.c
