use Rattle.format.specs.Said.{said}
use Rattle.format.proofs.Laws.Said.{refused-here}
use Rattle.sizes.proofs.Laws.Prepare.{member-clear, member-refused, member-other}
use Rattle.sizes.proofs.Laws.Kept.{member-fault-kept}
use mathlib.Core.Path.{◌∙◌}
use Rattle.sizes.proofs.prepare.member_fault.Goals as goal

pub returns-then-row-ne13 : goal.returns-then-row-ne13
unfolding said
returns-then-row-ne13 c = member-other _ _ _ _ _ _ c.row_at-row.ensures c.if-row-ne13.true

pub returns-then-kept-gt0 : goal.returns-then-kept-gt0
returns-then-kept-gt0 c = member-fault-kept c.if-kept-gt0.true c.requires.1 _ c.requires.0.there c.row_at-row.ensures c.if-row-ne13.false c.fault_kept.ensures

pub returns : goal.returns
unfolding said
returns c = member-clear _ _ _ _ _ _ c.row_at-row.ensures c.if-row-ne13.false c.member_at.ensures c.in_ok-member_at.was

pub returns-in_err-member_at : goal.returns-in_err-member_at
returns-in_err-member_at c =
    refused-here c.member_at.ensures c.in_err-member_at.was _ c.from_residual.ensures.1
    ∙ member-refused _ _ _ _ _ _ c.row_at-row.ensures c.if-row-ne13.false c.member_at.ensures c.in_err-member_at.was
