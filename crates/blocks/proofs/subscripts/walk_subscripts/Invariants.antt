use Rattle.std.proofs.Common.{length}
use Rattle.blocks.proofs.Laws.Subscripts.{Left}
use Rattle.blocks.proofs.subscripts.walk_subscripts.Given as goal

abbrev pub invariant-loop-rest : goal.invariant-loop-rest
invariant-loop-rest l = Left l.e l.block l.initial.dims l.rest l.dimensions l.element l.dims

abbrev pub decreases-loop-rest : goal.decreases-loop-rest
decreases-loop-rest l = length l.rest
