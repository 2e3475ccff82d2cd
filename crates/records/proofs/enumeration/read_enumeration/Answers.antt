use mathlib.Core.Path.{refl}
use Rattle.format.proofs.Laws.Said.{refused-here}
use Rattle.records.proofs.Laws.Enumeration.{whole-counted, whole-unread, whole-kind}
use Rattle.records.proofs.enumeration.read_enumeration.Goals as goal

pub returns : goal.returns
returns c = whole-counted _ _ _ _ _ _ c.kind_fault.ensures c.in_ok-kind_fault.was c.run_of-run.ensures _ c.read_lists.ensures c.in_ok-members.was c.enumeration_end.ensures

pub returns-in_err-members : goal.returns-in_err-members
returns-in_err-members c =
    whole-unread _ _ _ _ _ _ c.kind_fault.ensures c.in_ok-kind_fault.was c.run_of-run.ensures _ c.read_lists.ensures c.in_err-members.was
    (refused-here refl c.in_err-members.was _ c.from_residual-in_err-members.ensures.1)

pub returns-in_err-kind_fault : goal.returns-in_err-kind_fault
returns-in_err-kind_fault c =
    whole-kind _ _ _ _ _ _ c.kind_fault.ensures _ _ _ c.in_err-kind_fault.was (refused-here c.kind_fault.ensures c.in_err-kind_fault.was _ c.from_residual.ensures.1)
