use Rattle.layout.proofs.Laws.Layout.{child-other, child-sized, child-refused}
use Rattle.layout.proofs.one.lay_child.Goals as goal

pub returns-then-row-ne13 : goal.returns-then-row-ne13
returns-then-row-ne13 c = child-other _ _ _ _ _ _ _ _ _ c.row_at-row.ensures c.if-row-ne13.true

pub returns : goal.returns
returns c = child-sized _ _ _ _ _ _ _ _ _ c.row_at-row.ensures c.if-row-ne13.false c.member_added.ensures c.in_ok-added.was c.lay_sized.ensures

pub returns-in_err-added : goal.returns-in_err-added
returns-in_err-added c = child-refused _ _ _ _ _ _ _ _ _ c.row_at-row.ensures c.if-row-ne13.false c.member_added.ensures c.in_err-added.was _ c.from_residual.ensures.1
