use Rattle.sizes.proofs.Laws.Stage.{MembersOn}
use Rattle.sizes.specs.Inside.Lent.{over, over_rows}
use Rattle.links.specs.Inside.EachChild.{children_from}
use lib.ListN.{length}
use Rattle.sizes.proofs.stage.members_from.Given as goal

abbrev pub invariant-loop-c : goal.invariant-loop-c
invariant-loop-c l = over MembersOn l.t l.i l.from l.most l.end l.c l.largest

abbrev pub decreases-loop-c : goal.decreases-loop-c
decreases-loop-c l = length (over_rows children_from l.t l.end l.c)
