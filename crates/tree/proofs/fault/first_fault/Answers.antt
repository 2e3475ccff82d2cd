use Rattle.tree.proofs.Laws.Chain.{fault-begin, fault-back}
use Rattle.tree.proofs.fault.first_fault.Goals as goal

pub loop-i-init : goal.loop-i-init
loop-i-init c = fault-begin _ _

pub loop-i-preserved : goal.loop-i-preserved
loop-i-preserved c = fault-back _ _ _ c.loop-i-test.true c.loop-i.auto.i c.loop-i.invariant c.fault_at-b.ensures
