use Rattle.tree.specs.Inside.Stack.{height_at}
use mathlib.Core.Path.{◌≡◌}
use Rattle.tree.proofs.pass.close.Given as goal

abbrev pub invariant-loop-k : goal.invariant-loop-k
invariant-loop-k l = height_at l.j l.ends l.k ≡ height_at l.j l.ends l.h
