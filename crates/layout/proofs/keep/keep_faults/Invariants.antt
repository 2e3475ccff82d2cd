use Rattle.layout.proofs.Laws.Keep.{Faulting}
use mathlib.Core.Path.{◌≡◌}
use lib.ListN.{length}
use Rattle.layout.proofs.keep.keep_faults.Given as goal

abbrev pub invariant-loop-i : goal.invariant-loop-i
invariant-loop-i l = Faulting l.t.settings l.t.sizes.now l.t.section.now l.t.rows.now l.t.attrs.now l.t.counts.rows l.kept l.i × (length l.kept ≡ length l.initial.kept)
