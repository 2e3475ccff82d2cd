use Rattle.sizes.specs.Inside.Size.{type_size_from}
use Rattle.layout.proofs.Laws.All.{Putting}
use Rattle.layout.proofs.all.put_layouts.Given as goal

abbrev pub invariant-loop-i : goal.invariant-loop-i
invariant-loop-i l = Putting l.t.settings l.t.section.now l.t.rows.now l.t.attrs.now l.t.counts.rows (type_size_from l.t.settings l.t.sizes.now l.t.section.now l.t.rows.now l.t.attrs.now l.t.counts.rows l.noted 0) l.initial.structures l.initial.members l.structures l.members l.counts l.i
