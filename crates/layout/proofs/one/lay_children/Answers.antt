use Rattle.sizes.proofs.Laws.Walking.{walking-ending, walking-less}
use Rattle.layout.proofs.Laws.Layout.{laying-begins, laying-on, laying_refused, laying-ends}
use Rattle.layout.proofs.one.lay_children.Goals as goal

pub loop-c-init : goal.loop-c-init
loop-c-init c = laying-begins _ _ _ _ _ _ _ _ _ c.kept_sibling-end.ensures c.next_row.ensures c.requires.0 c.child_from-c.ensures

pub child_from-c-requires-in-loop-c : goal.child_from-c-requires-in-loop-c
child_from-c-requires-in-loop-c c = walking-ending c.loop-c.invariant.walking c.loop-c-test.true c.kept_sibling.ensures

pub loop-c-smaller : goal.loop-c-smaller
loop-c-smaller c = walking-less c.loop-c.invariant.walking c.loop-c-test.true c.kept_sibling.ensures c.child_from-c-in-loop-c.ensures

pub loop-c-preserved : goal.loop-c-preserved
loop-c-preserved c = laying-on c.loop-c.invariant c.loop-c-test.true c.lay_child.ensures c.in_ok-laid.was c.kept_sibling.ensures c.child_from-c-in-loop-c.ensures

pub returns-in_err-laid : goal.returns-in_err-laid
returns-in_err-laid c = laying_refused c.loop-c.invariant c.loop-c-test.true c.lay_child.ensures c.in_err-laid.was _ c.from_residual.ensures.1

pub returns : goal.returns
returns c = laying-ends c.loop-c.invariant c.loop-c-test.false
