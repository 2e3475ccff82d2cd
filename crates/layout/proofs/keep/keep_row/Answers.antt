use Rattle.layout.proofs.Laws.Keep.{row-member, row_other}
use Rattle.layout.proofs.keep.keep_row.Goals as goal

pub returns-then-row-eq13 : goal.returns-then-row-eq13
returns-then-row-eq13 c = row-member _ _ _ _ _ _ _ c.requires.0 c.sibling_row-sibling.ensures c.put_noted.ensures c.member_at.ensures c.keep_member.ensures

pub returns-else-row-eq13 : goal.returns-else-row-eq13
returns-else-row-eq13 c = row_other _ _ _ _ _ _ _ c.requires.0 c.sibling_row-sibling.ensures c.put_noted.ensures c.row_at-row.ensures c.if-row-eq13.false
