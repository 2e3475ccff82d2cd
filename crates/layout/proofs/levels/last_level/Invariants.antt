use Rattle.layout.specs.Inside.Levels.{last_level, NotedUpTo}
use mathlib.Core.Path.{◌≡◌}
use lib.ListN.{length}
use Rattle.layout.proofs.levels.last_level.Given as goal

abbrev pub invariant-loop-i : goal.invariant-loop-i
invariant-loop-i l = NotedUpTo (last_level l.rows) l.n l.i l.noted × (length l.noted ≡ length l.initial.noted)
