use Rattle.links.proofs.Laws.EachChild.{Seeking}
use Rattle.links.specs.Inside.EachChild.{rows_met, walk_on}
use lib.ListN.{length}
use Rattle.links.proofs.each_child.child_from.Given as goal

abbrev pub invariant-loop-c : goal.invariant-loop-c
invariant-loop-c l = Seeking l.t.settings.endian l.t.section.now l.t.rows.now l.t.attrs.now l.t.counts.rows l.end l.from l.c

abbrev pub decreases-loop-c : goal.decreases-loop-c
decreases-loop-c l = length (rows_met (walk_on l.t.settings.endian l.t.section.now l.t.rows.now l.t.attrs.now l.t.counts.rows l.end l.c))
