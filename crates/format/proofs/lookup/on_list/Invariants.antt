use Rattle.format.proofs.Laws.Sixteen.{Sought}
use Prim.Native.Nat.{◌-◌}
use Rattle.format.proofs.lookup.on_list.Given as goal

abbrev pub invariant-loop-i : goal.invariant-loop-i
invariant-loop-i l = Sought l.list l.x l.last l.i l.found

abbrev pub decreases-loop-i : goal.decreases-loop-i
decreases-loop-i l = l.last - l.i
