use Rattle.sizes.proofs.Laws.Kept.{structure-fault-kept}
use Rattle.sizes.proofs.prepare.kept_fault.Goals as goal

pub structure_fault-requires : goal.structure_fault-requires
structure_fault-requires c = (c.requires.asked, c.requires.kept_rows.faults)

pub returns-then-kept-gt0 : goal.returns-then-kept-gt0
returns-then-kept-gt0 c = structure-fault-kept c.if-kept-gt0.true c.requires c.fault_kept.ensures
