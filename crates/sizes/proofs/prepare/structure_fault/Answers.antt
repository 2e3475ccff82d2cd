use Rattle.format.specs.Said.{said}
use Rattle.sizes.proofs.Laws.Prepare.{structure-walked, structure-endless}
use Rattle.records.proofs.Laws.Unions.{members-ending}
use Rattle.sizes.proofs.prepare.structure_fault.Goals as goal

pub members_fault-requires : goal.members_fault-requires
members_fault-requires c = (members-ending _ _ _ _ _ _ c.any_child.ensures c.requires.0 c.in-Some.is, c.requires.1)

pub returns-in-Some : goal.returns-in-Some
returns-in-Some c = structure-walked _ _ _ _ _ _ c.any_child.ensures c.in-Some.is c.members_fault.ensures

pub returns-in-None : goal.returns-in-None
unfolding said
returns-in-None c = structure-endless _ _ _ _ _ _ c.any_child.ensures c.in-None.is c.row_at-row.ensures c.refused.ensures
