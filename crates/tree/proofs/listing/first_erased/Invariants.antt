use Rattle.tree.specs.Tree.{first_erased}
use Rattle.tree.specs.Pick.{first_from}
use Rattle.tables.specs.Row.{row_at, erased_row}
use Prim.Native.Nat.{◌-◌}
use mathlib.Core.Path.{◌≡◌}
use Rattle.tree.proofs.listing.first_erased.Given as goal

abbrev pub invariant-loop-i : goal.invariant-loop-i
invariant-loop-i l = first_from (λ j. erased_row (row_at l.rows j).flags) l.i (l.n - l.i) ≡ first_erased l.rows l.n
