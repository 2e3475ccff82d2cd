use Rattle.layout.proofs.Laws.Keep.{Keeping}
use mathlib.Core.Path.{◌≡◌}
use lib.ListN.{length}
use Rattle.layout.proofs.keep.keep_members.Given as goal

abbrev pub invariant-loop-c : goal.invariant-loop-c
invariant-loop-c l = Keeping l.t.settings l.t.sizes.now l.t.section.now l.t.rows.now l.t.attrs.now l.t.counts.rows l.kept l.c × (length l.kept ≡ length l.initial.kept)
