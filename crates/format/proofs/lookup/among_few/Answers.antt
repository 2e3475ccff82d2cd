use Rattle.format.proofs.Laws.Lookup.{scan-next, scan-end}
use mathlib.Core.Path.{refl}
use Rattle.format.proofs.lookup.among_few.Goals as goal

pub loop-n-init : goal.loop-n-init
loop-n-init c = refl

pub loop-n-preserved : goal.loop-n-preserved
loop-n-preserved c = scan-next c.args.list.now c.loop-n.n-index c.args.x c.loop-n.found c.loop-n.invariant c.loop-n-test.true

pub returns : goal.returns
returns c = scan-end c.args.list.now c.loop-n.n-index c.args.x c.loop-n.found c.loop-n.invariant c.loop-n-test.false
