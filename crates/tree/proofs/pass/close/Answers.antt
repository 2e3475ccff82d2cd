use Rattle.tree.proofs.Laws.Stack.{height-here, height-less, height-none}
use Rattle.tree.proofs.pass.close.Goals as goal

pub returns-then-j-end : goal.returns-then-j-end
returns-then-j-end c = height-here _ _ _ _ c.loop-k.invariant c.loop-k-test.true c.get_or-end.ensures c.if-j-end.true

pub loop-k-preserved : goal.loop-k-preserved
loop-k-preserved c = height-less _ _ _ _ c.loop-k.invariant c.loop-k-test.true c.get_or-end.ensures c.if-j-end.false

pub returns : goal.returns
returns c = height-none _ _ _ _ c.loop-k.invariant c.loop-k-test.false
