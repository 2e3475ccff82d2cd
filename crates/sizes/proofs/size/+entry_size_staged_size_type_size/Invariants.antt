use Rattle.tables.specs.Table.{table_of, table_rows}
use Rattle.sizes.specs.Size.{type_size}
use Rattle.sizes.specs.Inside.Lent.{over}
use Rattle.sizes.specs.Inside.Stage.{wait_turns}
use Rattle.std.specs.Prelude.{Ok}
use Rattle.sizes.proofs.Laws.Stage.{Waiting}
use Prim.Native.Nat.{◌+◌, ◌*◌}
use Rattle.sizes.proofs.size.+entry_size_staged_size_type_size.Given as goal

abbrev pub decreases-type_size : goal.decreases-type_size
decreases-type_size l = 3 * l.levels + 1

abbrev pub decreases-staged_size : goal.decreases-staged_size
decreases-staged_size l = 3 * l.levels + 2

abbrev pub decreases-entry_size : goal.decreases-entry_size
decreases-entry_size l = 3 * l.levels

abbrev pub invariant-staged_size-loop-wait : goal.invariant-staged_size-loop-wait
invariant-staged_size-loop-wait l = over Waiting l.t l.i (type_size l.t.settings l.t.sizes.now (table_rows (table_of l.t)) l.levels) (Ok l.wait)

abbrev pub decreases-staged_size-loop-wait : goal.decreases-staged_size-loop-wait
decreases-staged_size-loop-wait l = over wait_turns l.t l.i (Ok l.wait)
