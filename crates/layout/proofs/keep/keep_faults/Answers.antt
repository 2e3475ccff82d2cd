use Rattle.layout.proofs.Laws.Keep.{faulting-on}
use mathlib.Core.Path.{◌∙◌}
use Rattle.layout.proofs.keep.keep_faults.Goals as goal

pub loop-i-preserved : goal.loop-i-preserved
loop-i-preserved c = (faulting-on _ _ _ _ _ _ c.loop-i.invariant.0 c.keep_fault.ensures, (c.keep_fault.ensures.same_long ∙ c.loop-i.invariant.1))
