use Rattle.sizes.proofs.Laws.Walking.{Walking}
use Rattle.sizes.specs.Inside.Lent.{over, over_sizes, over_rows}
use Rattle.sizes.specs.Inside.Size.{ends_over, type_size_from}
use Rattle.links.specs.Inside.EachChild.{children_from, children_at}
use lib.ListN.{length}
use Rattle.sizes.proofs.many.ends_size.Given as goal

abbrev pub invariant-loop-c : goal.invariant-loop-c
invariant-loop-c l =
    over_rows Walking l.t l.end (over ends_over l.t (over_sizes type_size_from l.t l.noted l.levels) l.largest)
    (over ends_over l.t (over_sizes type_size_from l.t l.noted l.levels) 0 (over_rows children_at l.t l.i)) l.c

abbrev pub decreases-loop-c : goal.decreases-loop-c
decreases-loop-c l = length (over_rows children_from l.t l.end l.c)
