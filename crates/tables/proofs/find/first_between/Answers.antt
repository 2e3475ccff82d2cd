use Rattle.tables.proofs.Laws.Find.{between-upper, between_lower, between-one}
use native.Mathlib.Omega.{arith}
use Rattle.tables.proofs.find.first_between.Goals as goal

pub loop-from-init : goal.loop-from-init
loop-from-init c = c.requires.1

pub loop-from-preserved-then-get_or-key : goal.loop-from-preserved-then-get_or-key
loop-from-preserved-then-get_or-key c = between-upper c.requires.0 c.loop-from.invariant _ (omega arith) (omega arith) c.get_or.ensures c.if-get_or-key.true

pub loop-from-preserved : goal.loop-from-preserved
loop-from-preserved c = between_lower c.requires.0 c.loop-from.invariant _ (omega arith) (omega arith) c.get_or.ensures c.if-get_or-key.false

pub returns : goal.returns
returns c = between-one c.loop-from.invariant c.loop-from-test.false
