use Rattle.format.specs.Said.{said}
use Rattle.format.proofs.Laws.Said.{comes_on, gone_on}
use Rattle.layout.specs.Inside.All.{whole_told}
use mathlib.Core.Path.{refl}
use Rattle.layout.proofs.all.size_told.Goals as goal

pub returns : goal.returns
unfolding said whole_told
returns c = comes_on refl c.in_ok-found.was _ refl

pub returns-in_err-found : goal.returns-in_err-found
unfolding said whole_told
returns-in_err-found c = gone_on refl c.in_err-found.was _ c.from_residual.ensures.1 _
