use Rattle.format.specs.Said.{said, gives}
use Rattle.format.proofs.Laws.Said.{comes_on, gone_on}
use Rattle.links.specs.Typed.{attribute_of_key}
use mathlib.Core.Path.{ap}
use Rattle.links.proofs.typed.look.Goals as goal

pub returns-in_err-i : goal.returns-in_err-i
unfolding attribute_of_key
returns-in_err-i c = gone_on c.row_of.ensures c.in_err-i.was _ c.from_residual.ensures.1 _

pub returns : goal.returns
unfolding attribute_of_key said
returns c = comes_on c.row_of.ensures c.in_ok-i.was _ (ap gives c.look_in.ensures)
