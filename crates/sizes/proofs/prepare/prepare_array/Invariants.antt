use Rattle.sizes.proofs.Laws.Prepare.{Preparing}
use Rattle.sizes.proofs.prepare.prepare_array.Given as goal

abbrev pub invariant-loop-j : goal.invariant-loop-j
invariant-loop-j l = Preparing l.s l.attrs l.run l.j l.last
