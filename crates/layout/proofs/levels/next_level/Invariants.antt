use Rattle.layout.specs.Inside.Levels.{next_level, LevelFilled}
use mathlib.Core.Path.{◌≡◌}
use lib.ListN.{length}
use Rattle.layout.proofs.levels.next_level.Given as goal

abbrev pub invariant-loop-i : goal.invariant-loop-i
invariant-loop-i l = LevelFilled (next_level l.t.settings l.t.sizes.now l.t.section.now l.t.rows.now l.t.attrs.now l.t.counts.rows l.noted) l.t.counts.rows l.i l.next l.all × (length l.next ≡ length l.initial.next)
