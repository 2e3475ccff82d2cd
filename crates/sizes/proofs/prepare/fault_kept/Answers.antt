use Rattle.format.proofs.Laws.Said.{comes-past, gone-past}
use Rattle.format.specs.Said.{said}
use Rattle.sizes.specs.Inside.Kept.{size_fault, fault_kept}
use mathlib.Core.Path.{refl}
use Rattle.sizes.proofs.prepare.fault_kept.Goals as goal

pub returns : goal.returns
unfolding said fault_kept size_fault
returns c = comes-past c.noted_at.ensures c.in_ok-noted_at.was _ refl

pub returns-in_err-noted_at : goal.returns-in_err-noted_at
unfolding fault_kept size_fault
returns-in_err-noted_at c = gone-past c.noted_at.ensures c.in_err-noted_at.was _ c.from_residual.ensures.1 _
