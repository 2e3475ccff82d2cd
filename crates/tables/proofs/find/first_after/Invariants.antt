use Rattle.tables.specs.Inside.Find.{Between}
use Prim.Native.Nat.{◌-◌}
use Rattle.tables.proofs.find.first_after.Given as goal

abbrev pub invariant-loop-step : goal.invariant-loop-step
invariant-loop-step l = Between l.rows l.n l.key l.from l.n

abbrev pub decreases-loop-step : goal.decreases-loop-step
decreases-loop-step l = l.n - l.from
