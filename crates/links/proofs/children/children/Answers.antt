use Rattle.format.proofs.Laws.Said.{comes_in, gone_in}
use Rattle.links.proofs.Laws.Children.{children-keyed}
use Rattle.links.proofs.Laws.Typed.{keyed-asked}
use mathlib.Core.Path.{refl}
use Rattle.links.proofs.children.children.Goals as goal

pub returns-in_err-i : goal.returns-in_err-i
returns-in_err-i c = children-keyed _ _ _ (gone_in c.row_of.ensures c.in_err-i.was _ c.from_residual.ensures.1 _ refl)

pub give-requires : goal.give-requires
give-requires c = keyed-asked _ _ _ _ _ _ _ _ c.row_of.ensures c.in_ok-i.was

pub returns : goal.returns
returns c = children-keyed _ _ _ (comes_in c.row_of.ensures c.in_ok-i.was _ _ c.give.ensures)
