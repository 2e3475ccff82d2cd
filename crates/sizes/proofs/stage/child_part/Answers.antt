use Rattle.sizes.proofs.Laws.Stage.{part-other, part-ends, part-big, part-typed, part-refused}
use Rattle.sizes.proofs.stage.child_part.Goals as goal

pub returns-then-row-ne13 : goal.returns-then-row-ne13
returns-then-row-ne13 c = part-other _ _ _ _ _ _ _ c.row_at-row.ensures c.if-row-ne13.true

pub returns-in_err-member : goal.returns-in_err-member
returns-in_err-member c =
    part-refused _ _ _ _ _ _ _ c.row_at-row.ensures c.if-row-ne13.false c.member_at.ensures c.in_err-member.was _ c.from_residual.ensures.1

pub returns-in_err-next-in-Some : goal.returns-in_err-next-in-Some
returns-in_err-next-in-Some c =
    part-big _ _ _ _ _ _ _ c.row_at-row.ensures c.if-row-ne13.false c.member_at.ensures c.in_ok-member.was c.in-Some.is c.grown.ensures
    c.in_err-next-in-Some.was _ c.from_residual-in_err-next-in-Some.ensures.1

pub returns-in_ok-next-in-Some : goal.returns-in_ok-next-in-Some
returns-in_ok-next-in-Some c =
    part-ends _ _ _ _ _ _ _ c.row_at-row.ensures c.if-row-ne13.false c.member_at.ensures c.in_ok-member.was c.in-Some.is c.grown.ensures
    c.in_ok-next-in-Some.was

pub returns-in-None : goal.returns-in-None
returns-in-None c = part-typed _ _ _ _ _ _ _ c.row_at-row.ensures c.if-row-ne13.false c.member_at.ensures c.in_ok-member.was c.in-None.is
