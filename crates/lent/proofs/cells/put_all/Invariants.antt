use Rattle.lent.proofs.Laws.Stores.{Storing}
use Rattle.lent.proofs.cells.put_all.Given as goal

abbrev pub invariant-loop-i : goal.invariant-loop-i
invariant-loop-i g l = Storing l.initial.t l.at l.elements l.t l.i
