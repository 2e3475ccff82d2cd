use Rattle.tables.specs.Table.{table_of, table_rows}
use Rattle.tree.specs.Inside.Passing.{fault_from}
use Rattle.tree.specs.Reach.{reach_end}
use Prim.Native.Nat.{◌-◌}
use mathlib.Core.Path.{◌≡◌}
use Rattle.tree.proofs.fault.first_fault.Given as goal

abbrev pub invariant-loop-i : goal.invariant-loop-i
invariant-loop-i l = l.b ≡ fault_from l.t.counts.rows (reach_end (table_rows (table_of l.t))) l.i (l.t.counts.rows - l.i)
