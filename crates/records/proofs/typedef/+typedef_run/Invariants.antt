use Rattle.records.proofs.Laws.Typedef.{Loop}
use Prim.Native.Nat.{◌-◌}
use Rattle.records.proofs.typedef.+typedef_run.Given as goal

abbrev pub decreases-typedef_run : goal.decreases-typedef_run
decreases-typedef_run l = l.levels

abbrev pub invariant-loop-at : goal.invariant-loop-at
invariant-loop-at l = Loop l.t.settings l.t.section.now l.t.rows.now l.t.attrs.now l.t.counts.rows l.levels l.i l.run l.filling l.j

abbrev pub decreases-loop-at : goal.decreases-loop-at
decreases-loop-at l = l.run.count - l.j
