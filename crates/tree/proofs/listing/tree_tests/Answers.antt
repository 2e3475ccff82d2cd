use Rattle.format.proofs.Laws.Said.{given-there, comes-past, gone-past}
use Rattle.tree.specs.Tree.{tree_tests}
use Rattle.tree.proofs.Laws.Reach.{reaching}
use Rattle.tree.proofs.Laws.Tree.{erased-tested, fault-tested, deep-tested}
use mathlib.Core.Path.{◌∙◌}
use Rattle.tree.proofs.listing.tree_tests.Goals as goal

pub returns-in_err-none_of : goal.returns-in_err-none_of
unfolding tree_tests
returns-in_err-none_of c =
    gone-past (c.none_of.ensures ∙ erased-tested _ _ c.first_erased-erased.ensures _) c.in_err-none_of.was _ c.from_residual.ensures.1 _

pub returns-in_err-none_of-2 : goal.returns-in_err-none_of-2
unfolding tree_tests
returns-in_err-none_of-2 c =
    comes-past (c.none_of.ensures ∙ erased-tested _ _ c.first_erased-erased.ensures _) c.in_ok-none_of.was _
    (gone-past (c.none_of-2.ensures ∙ fault-tested _ _ _ (reaching _ _ _ _ _) c.first_fault-fault.ensures _) c.in_err-none_of-2.was _
    c.from_residual-in_err-none_of-2.ensures.1 _)

pub returns : goal.returns
unfolding tree_tests
returns c =
    let sound = c.none_of-2.ensures ∙ fault-tested _ _ _ (reaching _ _ _ _ _) c.first_fault-fault.ensures _ in
    comes-past (c.none_of.ensures ∙ erased-tested _ _ c.first_erased-erased.ensures _) c.in_ok-none_of.was _
    (comes-past sound c.in_ok-none_of-2.was _
    (c.none_of-3.ensures ∙ deep-tested _ _ _ (reaching _ _ _ _ _) (given-there sound c.in_ok-none_of-2.was) c.first_deep-deep.ensures _))
