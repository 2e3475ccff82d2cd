use Rattle.records.proofs.Laws.Enumeration.{ListsLoop}
use Prim.Native.Nat.{◌-◌}
use Rattle.records.proofs.enumeration.read_lists.Given as goal

abbrev pub invariant-loop-at : goal.invariant-loop-at
invariant-loop-at l = ListsLoop l.settings l.s l.attrs l.run l.slots l.initial.values l.values l.initial.names l.names l.from l.count

abbrev pub decreases-loop-at : goal.decreases-loop-at
decreases-loop-at l = l.run.count - l.from
