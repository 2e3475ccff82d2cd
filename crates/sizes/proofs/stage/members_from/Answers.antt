use Rattle.sizes.proofs.Laws.Stage.{any_size, members-begin, members-done, members-go, members-refused, members-typed}
use Rattle.sizes.proofs.Laws.Walking.{walking-ending, walking-less}
use Rattle.std.specs.Prelude.{Ok}
use mathlib.Core.Path.{ap, ◌∙◌}
use Rattle.sizes.proofs.stage.members_from.Goals as goal

pub loop-c-init : goal.loop-c-init
loop-c-init c = members-begin _ _ _ _ _ _ _ _ _ c.requires c.sibling_row-end.ensures c.child_from-c.ensures

pub returns-in_err-next : goal.returns-in_err-next
returns-in_err-next c =
    members-refused c.loop-c.invariant c.loop-c-test.true c.child_part.ensures c.in_err-next.was _ c.from_residual.ensures.1

pub child_from-c-requires-in-Ends : goal.child_from-c-requires-in-Ends
child_from-c-requires-in-Ends c = walking-ending (c.loop-c.invariant.walks any_size) c.loop-c-test.true c.sibling_row.ensures

pub loop-c-smaller : goal.loop-c-smaller
loop-c-smaller c = walking-less (c.loop-c.invariant.walks any_size) c.loop-c-test.true c.sibling_row.ensures c.child_from-c-in-Ends.ensures

pub loop-c-preserved : goal.loop-c-preserved
loop-c-preserved c =
    members-go c.loop-c.invariant c.loop-c-test.true c.child_part.ensures (c.in_ok-next.was ∙ ap Ok c.in-Ends.is) c.sibling_row.ensures
    c.child_from-c-in-Ends.ensures

pub returns-in-Typed : goal.returns-in-Typed
returns-in-Typed c =
    members-typed c.loop-c.invariant c.loop-c-test.true c.child_part.ensures c.requires.row (c.in_ok-next.was ∙ ap Ok c.in-Typed.is)

pub returns : goal.returns
returns c = members-done c.loop-c.invariant c.loop-c-test.false
