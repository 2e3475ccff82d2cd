use Rattle.format.specs.Said.{said}
use Rattle.format.proofs.Laws.Said.{comes-past, gone-past}
use Rattle.sizes.specs.Inside.Kept.{fault_size}
use mathlib.Core.Path.{refl}
use Rattle.layout.proofs.keep.fault_size.Goals as goal

pub returns : goal.returns
unfolding said fault_size
returns c = comes-past refl c.in_ok-fault.was _ refl

pub returns-in_err-fault : goal.returns-in_err-fault
unfolding said fault_size
returns-in_err-fault c = gone-past refl c.in_err-fault.was _ c.from_residual.ensures.1 _
