use Rattle.links.specs.Links.{next_from}
use Prim.Native.Nat.{◌-◌}
use mathlib.Core.Path.{◌≡◌}
use Rattle.links.proofs.link.next_from.Given as goal

abbrev pub invariant-loop-j : goal.invariant-loop-j
invariant-loop-j l = next_from l.rows l.asking l.j (l.n - l.j) ≡ next_from l.rows l.asking l.i (l.n - l.i)
