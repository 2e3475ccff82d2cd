use Rattle.format.specs.Said.{said, gives}
use Rattle.format.proofs.Laws.Said.{comes_on, gone_on}
use Rattle.links.specs.Typed.{extent_of_key, extent_of_place}
use borrow.Author.Rules.{rules}
use mathlib.Core.Path.{ap}
use Rattle.links.proofs.typed.part_place.Goals as goal

pub returns-in_err-place : goal.returns-in_err-place
unfolding extent_of_key
returns-in_err-place c = gone_on c.place_of.ensures c.in_err-place.was _ c.from_residual.ensures.1 _

pub returns : goal.returns
unfolding extent_of_key extent_of_place said
returns c = comes_on c.place_of.ensures c.in_ok-place.was _ (ap gives (search rules))
