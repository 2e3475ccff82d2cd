use Rattle.sizes.proofs.Laws.Prepare.{structure-size, structure-ends}
use Rattle.sizes.proofs.Laws.Exit.{gone-past_by}
use mathlib.Core.Path.{refl}
use Rattle.sizes.specs.Inside.Prepare.{said_prepared, prepared_structure}
use Rattle.sizes.proofs.prepare.prepare_structure.Goals as goal

pub returns-in-Some : goal.returns-in-Some
unfolding said_prepared
returns-in-Some c = structure-size _ _ _ _ _ _ c.kept_fault.ensures c.in_ok-kept_fault.was c.run_of-run.ensures c.last_word.ensures c.in-Some.is

pub returns-in-None : goal.returns-in-None
unfolding said_prepared
returns-in-None c = structure-ends _ _ _ _ _ _ c.kept_fault.ensures c.in_ok-kept_fault.was c.run_of-run.ensures c.last_word.ensures c.in-None.is

pub returns-in_err-kept_fault : goal.returns-in_err-kept_fault
unfolding said_prepared prepared_structure
returns-in_err-kept_fault c = gone-past_by said_prepared (λ e. refl) c.kept_fault.ensures c.in_err-kept_fault.was _ c.from_residual.ensures.1 _
