use Rattle.records.proofs.Laws.Record.{was-there, was-missing, missed-here}
use Rattle.records.proofs.Laws.Unions.{members-ending, members-walked, members-endless}
use Rattle.records.proofs.unions.union_members.Goals as goal

pub take_children-requires : goal.take_children-requires
take_children-requires c = members-ending _ _ _ _ _ _ c.any_child.ensures c.requires (was-there _ _ c.ok_or.ensures.value c.in_ok-ok_or.was)

pub returns : goal.returns
returns c = members-walked _ _ _ _ _ _ c.any_child.ensures (was-there _ _ c.ok_or.ensures.value c.in_ok-ok_or.was) c.take_children.ensures

pub returns-in_err-ok_or : goal.returns-in_err-ok_or
returns-in_err-ok_or c =
    members-endless _ _ _ _ _ _ c.any_child.ensures _ (was-missing _ _ c.ok_or.ensures.value c.in_err-ok_or.was) c.row_at-row.ensures c.refused.ensures
    (missed-here _ _ c.ok_or.ensures.value c.in_err-ok_or.was _ c.from_residual.ensures.1)
