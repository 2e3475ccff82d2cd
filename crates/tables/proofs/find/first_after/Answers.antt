use Rattle.tables.proofs.Laws.Find.{between-upper, between_lower}
use native.Mathlib.Omega.{arith}
use Rattle.tables.proofs.find.first_after.Goals as goal

pub loop-step-init : goal.loop-step-init
loop-step-init c = c.requires.1

pub first_between-requires : goal.first_between-requires
first_between-requires c = (c.requires.0, between_lower c.requires.0 c.loop-step.invariant _ (omega arith) (omega arith) c.get_or.ensures c.if-get_or-key.true)

pub loop-step-preserved : goal.loop-step-preserved
loop-step-preserved c = between-upper c.requires.0 c.loop-step.invariant _ (omega arith) (omega arith) c.get_or.ensures c.if-get_or-key.false
