use Rattle.tree.proofs.Laws.Chain.{along-begin, along-blocked, along-bad, along-past, along-next, along-end}
use Rattle.tree.proofs.fault.first_further.Goals as goal

pub loop-c-init : goal.loop-c-init
loop-c-init c = along-begin c.requires.within

pub returns-then-b-c : goal.returns-then-b-c
returns-then-b-c c = along-blocked c.loop-c.invariant c.loop-c-test.true c.if-b-c.true

pub returns-then-next-c : goal.returns-then-next-c
returns-then-next-c c = along-bad c.loop-c.invariant c.loop-c-test.true
    c.end_of-next.ensures c.if-b-c.false c.if-next-c.true

pub returns-then-end-next : goal.returns-then-end-next
returns-then-end-next c = along-past c.loop-c.invariant c.loop-c-test.true
    c.end_of-next.ensures c.if-b-c.false c.if-next-c.false c.if-end-next.true

pub loop-c-preserved : goal.loop-c-preserved
loop-c-preserved c = along-next c.loop-c.invariant c.loop-c-test.true
    c.end_of-next.ensures c.if-b-c.false c.if-next-c.false c.if-end-next.false

pub returns : goal.returns
returns c = along-end c.loop-c.invariant c.loop-c-test.false
