use Rattle.tables.specs.Unit.{no_unit}
use Rattle.tables.proofs.Laws.Unit.{units_put}
use Prim.Native.Nat.{◌-◌}
use mathlib.Core.Path.{◌≡◌}
use lib.ListN.{length}
use Rattle.tables.proofs.unit.put_units.Given as goal

abbrev pub invariant-loop-i : goal.invariant-loop-i
invariant-loop-i l = (length l.rows ≡ length l.initial.rows) × (units_put l.rows l.i (l.n - l.i) l.unit ≡ units_put l.initial.rows 0 l.n no_unit)
