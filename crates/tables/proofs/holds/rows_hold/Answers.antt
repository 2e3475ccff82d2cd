use Rattle.tables.proofs.Laws.Holds.{row-passed}
use native.Mathlib.Omega.{arith}
use Prim.Native.Nat.{◌+◌, ◌≤◌}
use mathlib.Core.Path.{sym, ◌∙◌}
use Rattle.tables.proofs.holds.rows_hold.Goals as goal

pub overflow_add-run : goal.overflow_add-run
overflow_add-run c =
    let h : c.loop-i.run + c.row_at-row.result.count ≤ c.args.total =
    (row-passed _ _ _ _ _ _ _ (sym c.row_holds.ensures ∙ c.if-not-row_holds.false)).run_inside
    in
    omega arith
