use Rattle.attributes.proofs.Laws.Read.{unknown_place, numbered_told}
use native.Mathlib.Omega.{arith}
use Rattle.attributes.proofs.read.numbered_at.Goals as goal

pub overflow_sub-result : goal.overflow_sub-result
overflow_sub-result c = omega (arith, unknown_place _ _ _ _ _ (rw c.in-Err-Unknown.field-0-is at c.in-Err-Unknown.ensures))

pub returns-in-Ok : goal.returns-in-Ok
returns-in-Ok c = numbered_told _ _ _ _ _ c.in-Ok.ensures

pub returns-in-Err-Short : goal.returns-in-Err-Short
returns-in-Err-Short c = numbered_told _ _ _ _ _ (rw c.in-Err-Short.field-0-is at c.in-Err-Short.ensures)

pub returns-in-Err-Unknown : goal.returns-in-Err-Unknown
returns-in-Err-Unknown c = numbered_told _ _ _ _ _ (rw c.in-Err-Unknown.field-0-is at c.in-Err-Unknown.ensures)
