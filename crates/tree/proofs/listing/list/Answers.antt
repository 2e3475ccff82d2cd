use Rattle.format.specs.Said.{said_counted}
use Rattle.format.proofs.Laws.Said.{given-there, comes_in, gone_in, fills, wants}
use Rattle.tree.specs.Tree.{listing_of}
use Rattle.tree.proofs.Laws.Reach.{reaching}
use Rattle.tree.proofs.Laws.Tree.{tests-passed, all-listed}
use borrow.Author.Tests.{le-leb, lt-leb}
use mathlib.Core.Path.{refl}
use Rattle.tree.proofs.listing.list.Goals as goal

pub returns-in_err-tree_tests : goal.returns-in_err-tree_tests
unfolding listing_of
returns-in_err-tree_tests c = gone_in c.tree_tests.ensures c.in_err-tree_tests.was _ c.from_residual.ensures.1 _ refl

pub returns-then-t-room : goal.returns-then-t-room
unfolding listing_of said_counted
returns-then-t-room c =
    let passed = tests-passed _ _ _ (reaching _ _ _ _ _) (given-there c.tree_tests.ensures c.in_ok-tree_tests.was) in
    comes_in c.tree_tests.ensures c.in_ok-tree_tests.was _ _
    (fills _ _ _ _ (le-leb _ _ c.if-t-room.true) refl (all-listed passed c.list_rows.ensures))

pub returns-else-t-room : goal.returns-else-t-room
unfolding listing_of said_counted
returns-else-t-room c = comes_in c.tree_tests.ensures c.in_ok-tree_tests.was _ _ (wants _ _ _ _ (lt-leb _ _ c.if-t-room.false) refl refl)
