use Rattle.sizes.proofs.Laws.Walking.{Walking}
use Rattle.sizes.specs.Inside.Lent.{over, over_rows}
use Rattle.sizes.specs.Inside.Prepare.{members_fault}
use Rattle.links.specs.Inside.EachChild.{children_from, children_at}
use lib.ListN.{length}
use Rattle.sizes.proofs.prepare.members_fault.Given as goal

abbrev pub invariant-loop-c : goal.invariant-loop-c
invariant-loop-c l = over_rows Walking l.t l.end (over members_fault l.t) (over members_fault l.t (over_rows children_at l.t l.i)) l.c

abbrev pub decreases-loop-c : goal.decreases-loop-c
decreases-loop-c l = length (over_rows children_from l.t l.end l.c)
