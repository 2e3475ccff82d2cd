use Rattle.format.proofs.Laws.Said.{comes_on}
use Rattle.sizes.proofs.Laws.Exit.{gone_by}
use Rattle.sizes.specs.Inside.Size.{said_added, with_size}
use mathlib.Core.Path.{refl}
use Rattle.sizes.proofs.kept.with_size.Goals as goal

pub returns : goal.returns
unfolding said_added with_size
returns c = comes_on refl c.in_ok-size.was _ refl

pub returns-in_err-size : goal.returns-in_err-size
unfolding said_added with_size
returns-in_err-size c = gone_by said_added (λ e. refl) refl c.in_err-size.was _ c.from_residual.ensures.1 _
