use Rattle.sizes.proofs.Laws.Stage.{grown-next, grown-refused, staged-member}
use Rattle.sizes.proofs.stage.grown_on.Goals as goal

pub members_from-requires : goal.members_from-requires
members_from-requires c = staged-member _ _ _ _ _ _ _ c.requires c.sibling_row.ensures

pub returns : goal.returns
returns c = grown-next _ _ _ _ _ _ _ _ _ _ c.grown.ensures c.in_ok-next.was c.sibling_row.ensures c.members_from.ensures

pub returns-in_err-next : goal.returns-in_err-next
returns-in_err-next c = grown-refused _ _ _ _ _ _ _ _ _ _ c.grown.ensures c.in_err-next.was _ c.from_residual.ensures.1
