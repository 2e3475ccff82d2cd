use Rattle.tables.specs.Holds.{run_holds}
use Prim.Native.Nat.{◌+◌, ◌-◌}
use mathlib.Core.Path.{◌≡◌}
use Rattle.tables.proofs.holds.run_holds.Given as goal

abbrev pub invariant-loop-k : goal.invariant-loop-k
invariant-loop-k l = run_holds l.s l.vendors l.e l.attrs (l.first + l.k) (l.n - l.k) ≡ run_holds l.s l.vendors l.e l.attrs l.first l.n
