use mathlib.Core.Path.{refl}
use Rattle.format.proofs.Laws.Said.{refused-here}
use Rattle.records.proofs.Laws.Scan.{plain-union}
use Rattle.records.proofs.Laws.Unions.{read-sized, read-refused, read-faulty}
use Rattle.records.proofs.unions.read_union.Goals as goal

pub head_fault-requires : goal.head_fault-requires
head_fault-requires c = plain-union

pub returns : goal.returns
returns c =
    read-sized _ _ _ _ _ _ c.head_fault.ensures c.in_ok-head_fault.was c.union_members.ensures c.in_ok-members.was c.run_of-run.ensures c.union_sized.ensures

pub returns-in_err-members : goal.returns-in_err-members
returns-in_err-members c =
    read-refused _ _ _ _ _ _ c.head_fault.ensures c.in_ok-head_fault.was c.union_members.ensures c.in_err-members.was
    (refused-here refl c.in_err-members.was _ c.from_residual-in_err-members.ensures.1)

pub returns-in_err-head_fault : goal.returns-in_err-head_fault
returns-in_err-head_fault c =
    read-faulty _ _ _ _ _ _ c.head_fault.ensures _ c.in_err-head_fault.was (refused-here c.head_fault.ensures c.in_err-head_fault.was _ c.from_residual.ensures.1)
