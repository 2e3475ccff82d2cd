use Rattle.format.proofs.Laws.Sixteen.{sought-first, sought-next, sought-end}
use native.Mathlib.Omega.{arith}
use Rattle.format.proofs.lookup.on_list.Goals as goal

pub returns-then-list-lt16 : goal.returns-then-list-lt16
returns-then-list-lt16 c = c.among_few.ensures

pub loop-i-init : goal.loop-i-init
loop-i-init c = sought-first (omega arith) c.among_sixteen-found.ensures

pub loop-i-preserved : goal.loop-i-preserved
loop-i-preserved c = sought-next c.loop-i.invariant (omega arith) c.among_sixteen-found-in-loop-i.ensures

pub returns : goal.returns
returns c = sought-end c.loop-i.invariant c.loop-i-test.false
