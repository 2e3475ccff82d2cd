use Rattle.format.proofs.Laws.Said.{refused-here}
use Rattle.records.proofs.Laws.Unions.{take-member, take-unread, take-type, take-other}
use Rattle.records.proofs.unions.take_child.Goals as goal

pub returns-in_ok-member_at : goal.returns-in_ok-member_at
returns-in_ok-member_at c = take-member _ _ _ _ _ _ _ _ _ c.row_at-row.ensures c.if-row-eq13.true c.member_at.ensures c.in_ok-member_at.was c.put_member.ensures

pub returns-in_err-member_at : goal.returns-in_err-member_at
returns-in_err-member_at c =
    take-unread _ _ _ _ _ _ _ _ _ c.row_at-row.ensures c.if-row-eq13.true c.member_at.ensures c.in_err-member_at.was
    (refused-here c.member_at.ensures c.in_err-member_at.was _ c.from_residual.ensures.1)

pub returns-then-is_ignored : goal.returns-then-is_ignored
returns-then-is_ignored c = take-type _ _ _ _ _ _ _ _ _ c.row_at-row.ensures c.if-row-eq13.false c.is_ignored.ensures c.if-is_ignored.true

pub returns-else-is_ignored : goal.returns-else-is_ignored
returns-else-is_ignored c = take-other _ _ _ _ _ _ _ _ _ c.row_at-row.ensures c.if-row-eq13.false c.is_ignored.ensures c.if-is_ignored.false c.refused.ensures
