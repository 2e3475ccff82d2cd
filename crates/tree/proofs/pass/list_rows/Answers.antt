use Rattle.tree.proofs.Laws.Reach.{reach-within}
use Rattle.tree.proofs.Laws.Stack.{pass-begin, pass-done, pass-deep, pass-next}
use native.Mathlib.Omega.{arith}
use mathlib.Core.Path.{refl}
use Rattle.tree.proofs.pass.list_rows.Goals as goal

pub loop-j-init : goal.loop-j-init
loop-j-init c = pass-begin _ _ _ _ _ refl refl

pub returns-then-h-gt-DEPTH_LIMIT : goal.returns-then-h-gt-DEPTH_LIMIT
returns-then-h-gt-DEPTH_LIMIT c = pass-deep c.loop-j.invariant c.close-h.ensures c.if-h-gt-DEPTH_LIMIT.true c.loop-j-test.true

pub overflow_cast-end : goal.overflow_cast-end
overflow_cast-end c = omega (arith, c.requires.few, reach-within _ _ _ _ _ _ c.loop-j-test.true c.end_of-end.ensures)

pub loop-j-preserved : goal.loop-j-preserved
loop-j-preserved c =
    pass-next c.loop-j.invariant c.close-h.ensures c.if-h-gt-DEPTH_LIMIT.false c.loop-j-test.true c.nearest_of-parent.ensures c.put_place.ensures
    c.put.ensures c.end_of-end.ensures c.put-in-loop-j.ensures

pub returns : goal.returns
returns c = pass-done c.loop-j.invariant c.loop-j-test.false
