use Rattle.links.specs.Inside.EachChild.{children_from, children_at}
use Rattle.layout.proofs.Laws.Layout.{Laying'}
use Rattle.layout.specs.Inside.Layout.{children_laid}
use Rattle.sizes.specs.Inside.Size.{type_size_from}
use lib.ListN.{length}
use Rattle.layout.proofs.one.lay_children.Given as goal

abbrev pub invariant-loop-c : goal.invariant-loop-c
invariant-loop-c l = Laying' l.t.settings l.t.section.now l.t.rows.now l.t.attrs.now l.t.counts.rows l.end (type_size_from l.t.settings l.t.sizes.now l.t.section.now l.t.rows.now l.t.attrs.now l.t.counts.rows l.noted l.levels) l.bounded
    (children_laid l.t.settings l.t.section.now l.t.rows.now l.t.attrs.now l.t.counts.rows (type_size_from l.t.settings l.t.sizes.now l.t.section.now l.t.rows.now l.t.attrs.now l.t.counts.rows l.noted l.levels) l.bounded 0 (children_at l.t.settings.endian l.t.section.now l.t.rows.now l.t.attrs.now l.t.counts.rows l.i)) l.initial.room l.room l.c l.laid.count l.laid.largest

abbrev pub decreases-loop-c : goal.decreases-loop-c
decreases-loop-c l = length (children_from l.t.settings.endian l.t.section.now l.t.rows.now l.t.attrs.now l.t.counts.rows l.end l.c)
