use Rattle.tables.specs.Inside.Find.{Between}
use Prim.Native.Nat.{◌-◌}
use Rattle.tables.proofs.find.first_between.Given as goal

abbrev pub invariant-loop-from : goal.invariant-loop-from
invariant-loop-from l = Between l.rows l.n l.key l.from l.to

abbrev pub decreases-loop-from : goal.decreases-loop-from
decreases-loop-from l = l.to - l.from
