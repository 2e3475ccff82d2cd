use Rattle.links.proofs.Laws.EachChild.{seeking-end, seeking-past, seeking-found, seeking-on, seeking-less}
use Rattle.links.proofs.each_child.child_from.Goals as goal

pub returns-then-t-c : goal.returns-then-t-c
returns-then-t-c c = seeking-past _ _ _ _ _ _ c.loop-c.invariant c.if-t-c.true

pub returns-then-row-ne0 : goal.returns-then-row-ne0
returns-then-row-ne0 c = seeking-found _ _ _ _ _ _ c.loop-c.invariant c.loop-c-test.true c.if-t-c.false c.row_at-row.ensures c.if-row-ne0.true

pub loop-c-smaller : goal.loop-c-smaller
loop-c-smaller c = seeking-less _ _ _ _ _ _ c.loop-c.invariant c.loop-c-test.true c.if-t-c.false c.sibling_row-c.ensures

pub loop-c-preserved : goal.loop-c-preserved
loop-c-preserved c = seeking-on _ _ _ _ _ _ c.loop-c.invariant c.loop-c-test.true c.if-t-c.false c.row_at-row.ensures c.if-row-ne0.false c.sibling_row-c.ensures

pub returns : goal.returns
returns c = seeking-end _ _ _ _ _ _ c.loop-c.invariant c.loop-c-test.false
