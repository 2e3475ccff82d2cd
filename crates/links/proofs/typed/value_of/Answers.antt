use Rattle.format.specs.Said.{said, gives}
use Rattle.format.proofs.Laws.Said.{comes_on, gone_on}
use Rattle.links.specs.Typed.{value_of_key, word_of_place}
use borrow.Author.Rules.{rules}
use mathlib.Core.Path.{ap}
use Rattle.links.proofs.typed.value_of.Goals as goal

pub returns-in_err-spot : goal.returns-in_err-spot
unfolding value_of_key
returns-in_err-spot c = gone_on c.place_of.ensures c.in_err-spot.was _ c.from_residual.ensures.1 _

pub returns : goal.returns
unfolding value_of_key word_of_place said
returns c = comes_on c.place_of.ensures c.in_ok-spot.was _ (ap gives (search rules))
