use Rattle.records.proofs.Laws.Elements.{Loop}
use Prim.Native.Nat.{◌-◌}
use lib.ListN.{length}
use Rattle.records.proofs.elements.read_list.Given as goal

abbrev pub invariant-loop-at : goal.invariant-loop-at
invariant-loop-at l = Loop l.width l.e l.base l.block l.slots l.k l.initial.values l.values l.initial.names l.names l.at l.count

abbrev pub decreases-loop-at : goal.decreases-loop-at
decreases-loop-at l = length l.block - l.at
