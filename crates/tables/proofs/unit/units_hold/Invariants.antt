use Rattle.tables.specs.Unit.{no_unit, units_hold}
use Prim.Native.Nat.{◌-◌}
use mathlib.Core.Path.{◌≡◌}
use Rattle.tables.proofs.unit.units_hold.Given as goal

abbrev pub invariant-loop-i : goal.invariant-loop-i
invariant-loop-i l = units_hold l.rows l.i (l.n - l.i) l.unit ≡ units_hold l.rows 0 l.n no_unit
