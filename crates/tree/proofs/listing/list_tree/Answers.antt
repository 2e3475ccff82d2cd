use Rattle.format.proofs.Laws.Said.{comes_in, gone_in}
use Rattle.links.proofs.Laws.Children.{tested-rows}
use Rattle.tree.specs.Tree.{list_tree}
use mathlib.Core.Path.{refl}
use Rattle.tree.proofs.listing.list_tree.Goals as goal

pub returns-in_err-test_table : goal.returns-in_err-test_table
unfolding list_tree
returns-in_err-test_table c = gone_in c.test_table.ensures.told c.in_err-test_table.was _ c.from_residual.ensures.1 _ refl

pub list-requires : goal.list-requires
list-requires c = tested-rows c.test_table.ensures c.in_ok-test_table.was

pub returns : goal.returns
unfolding list_tree
returns c = comes_in c.test_table.ensures.told c.in_ok-test_table.was _ _ c.list.ensures
