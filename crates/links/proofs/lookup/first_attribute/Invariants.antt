use Rattle.links.specs.Attribute.{attr_from}
use Prim.Native.Nat.{◌+◌, ◌-◌}
use mathlib.Core.Path.{◌≡◌}
use Rattle.links.proofs.lookup.first_attribute.Given as goal

abbrev pub invariant-loop-k : goal.invariant-loop-k
invariant-loop-k l = attr_from l.wanted l.attrs (l.first + l.k) (l.n - l.k) ≡ attr_from l.wanted l.attrs l.first l.n
