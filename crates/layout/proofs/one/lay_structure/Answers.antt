use Rattle.layout.proofs.Laws.Layout.{clear-asked, structure-laid, structure-faulty}
use Rattle.layout.proofs.one.lay_structure.Goals as goal

pub lay_children-requires : goal.lay_children-requires
lay_children-requires c = (clear-asked _ _ _ _ _ _ c.kept_fault.ensures c.in_ok-kept_fault.was c.requires.asked, c.requires.all_kept)

pub returns : goal.returns
returns c = structure-laid _ _ _ _ _ _ c.kept_fault.ensures _ _ c.in_ok-kept_fault.was c.lay_children.ensures

pub returns-in_err-kept_fault : goal.returns-in_err-kept_fault
returns-in_err-kept_fault c = structure-faulty _ _ _ _ _ _ c.kept_fault.ensures _ _ c.in_err-kept_fault.was _ c.from_residual.ensures.1
