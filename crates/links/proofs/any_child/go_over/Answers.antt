use Rattle.links.proofs.Laws.AnyChild.{over-end, over-past, over-never, over-on}
use Rattle.links.specs.Inside.EachChild.{walk_on}
use Rattle.links.proofs.any_child.go_over.Goals as goal

pub returns-then-t-c : goal.returns-then-t-c
unfolding walk_on
returns-then-t-c c = over-past c.loop-c.invariant c.if-t-c.true

pub returns-then-t-turns : goal.returns-then-t-turns
unfolding walk_on
returns-then-t-turns c = over-never c.loop-c.invariant c.loop-c-test.true c.if-t-c.false c.if-t-turns.true

pub loop-c-preserved : goal.loop-c-preserved
loop-c-preserved c = over-on c.loop-c.invariant c.loop-c-test.true c.if-t-c.false c.if-t-turns.false c.row_at-row.ensures c.sibling_row-c.ensures

pub returns : goal.returns
unfolding walk_on
returns c = over-end c.loop-c.invariant c.loop-c-test.false
