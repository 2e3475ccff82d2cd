use Rattle.sizes.specs.Inside.Size.{type_size_from}
use Rattle.layout.specs.Inside.All.{WholesTold}
use Rattle.layout.proofs.Laws.All.{Counting}
use mathlib.Core.Path.{◌≡◌}
use lib.ListN.{length}
use Rattle.layout.proofs.all.count_layouts.Given as goal

abbrev pub invariant-loop-i : goal.invariant-loop-i
invariant-loop-i l = Counting l.t.settings l.t.section.now l.t.rows.now l.t.attrs.now l.t.counts.rows (type_size_from l.t.settings l.t.sizes.now l.t.section.now l.t.rows.now l.t.attrs.now l.t.counts.rows l.noted 0) l.counts l.i
    × (WholesTold l.t.settings l.t.section.now l.t.rows.now l.t.attrs.now l.t.counts.rows (type_size_from l.t.settings l.t.sizes.now l.t.section.now l.t.rows.now l.t.attrs.now l.t.counts.rows l.noted 0) l.i l.told × (length l.told ≡ length l.initial.told))
