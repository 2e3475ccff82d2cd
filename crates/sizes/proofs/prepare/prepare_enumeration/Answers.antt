use Rattle.format.proofs.Laws.Said.{comes_on}
use Rattle.sizes.proofs.Laws.Exit.{gone_by}
use Rattle.sizes.specs.Inside.Prepare.{said_prepared, prepared_enumeration}
use mathlib.Core.Path.{refl}
use Rattle.sizes.proofs.prepare.prepare_enumeration.Goals as goal

pub returns : goal.returns
unfolding said_prepared prepared_enumeration
returns c = comes_on c.enumeration_at.ensures c.in_ok-found.was _ refl

pub returns-in_err-found : goal.returns-in_err-found
unfolding said_prepared prepared_enumeration
returns-in_err-found c = gone_by said_prepared (λ e. refl) c.enumeration_at.ensures c.in_err-found.was _ c.from_residual.ensures.1 _
