use Rattle.layout.proofs.Laws.Levels.{Taking}
use Rattle.layout.proofs.levels.take_over.Given as goal

abbrev pub invariant-loop-k : goal.invariant-loop-k
invariant-loop-k l = Taking l.words l.initial.noted l.next l.noted l.same l.k
