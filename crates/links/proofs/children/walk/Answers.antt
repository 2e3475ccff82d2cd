use Rattle.links.proofs.Laws.Children.{gathered-end, gathered-past, gathered-never, walking_on}
use Rattle.links.proofs.children.walk.Goals as goal

pub returns-then-t-c : goal.returns-then-t-c
returns-then-t-c c = gathered-past c.loop-c.invariant c.if-t-c.true

pub returns-then-t-turns : goal.returns-then-t-turns
returns-then-t-turns c = gathered-never c.loop-c.invariant c.loop-c-test.true c.if-t-c.false c.if-t-turns.true

pub loop-c-preserved : goal.loop-c-preserved
loop-c-preserved c = walking_on c.loop-c.invariant c.loop-c-test.true c.if-t-c.false c.if-t-turns.false c.take_child-k.ensures c.sibling_row-c.ensures

pub returns : goal.returns
returns c = gathered-end c.loop-c.invariant c.loop-c-test.false
