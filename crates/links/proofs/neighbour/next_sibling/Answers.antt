use Rattle.format.specs.Said.{said}
use Rattle.format.proofs.Laws.Said.{comes_on, gone_on}
use Rattle.links.specs.Neighbour.{next_sibling}
use Rattle.links.proofs.Laws.Neighbour.{answered}
use Rattle.links.proofs.Laws.Typed.{keyed-at}
use Rattle.links.proofs.neighbour.next_sibling.Goals as goal

pub returns-in_err-i : goal.returns-in_err-i
unfolding next_sibling
returns-in_err-i c = gone_on c.row_of.ensures c.in_err-i.was _ c.from_residual.ensures.1 _

pub sibling_row-requires : goal.sibling_row-requires
sibling_row-requires c = keyed-at _ _ _ _ _ _ _ _ c.row_of.ensures c.in_ok-i.was

pub returns : goal.returns
unfolding next_sibling said
returns c = comes_on c.row_of.ensures c.in_ok-i.was _ (answered _ c.row_or_none.ensures c.sibling_row.ensures)
