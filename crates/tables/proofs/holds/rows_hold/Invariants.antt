use Rattle.tables.specs.Holds.{rows_hold}
use Prim.Native.Nat.{◌-◌}
use mathlib.Core.Path.{◌≡◌}
use Rattle.tables.proofs.holds.rows_hold.Given as goal

abbrev pub invariant-loop-i : goal.invariant-loop-i
invariant-loop-i l = rows_hold l.s l.vendors l.rows l.attrs l.total l.i (l.n - l.i) l.least l.run ≡ rows_hold l.s l.vendors l.rows l.attrs l.total 0 l.n 0 0
