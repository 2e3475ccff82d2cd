use Rattle.std.specs.Prelude.{Some}
use Rattle.records.proofs.Laws.Elements.{loop-begin, loop-done, loop-missing, name-less, name-again, element-less, element_place, element-again}
use Rattle.records.proofs.Laws.Record.{was-there, was-missing, missed-here}
use native.Mathlib.Omega.{arith}
use borrow.Author.Rules.{rules}
use mathlib.Core.Path.{◌≡◌, ◌∙◌, ap}
use mir.Syntax.{w32}
use mir.Val.{to_z, of_z}
use Rattle.records.proofs.elements.read_list.Goals as goal

pub loop-at-init : goal.loop-at-init
loop-at-init c = loop-begin _ _ _ _ _ _ _ _

pub returns-in_err-value : goal.returns-in_err-value
returns-in_err-value c =
    loop-missing _ _ _ _ _ _ c.loop-at.invariant c.loop-at-test.true c.element_at.ensures _ (was-missing _ _ c.ok_or.ensures.value c.in_err-value.was)
    (missed-here _ _ c.ok_or.ensures.value c.in_err-value.was _ c.from_residual.ensures.1) c.refused.ensures

pub overflow_add-base : goal.overflow_add-base
overflow_add-base c =
    omega (
      arith,
      c.requires.place_small,
      element_place _ _ _ _ _ _ c.loop-at.invariant c.loop-at-test.true c.element_at.ensures
          (was-there _ _ c.ok_or.ensures.value c.in_ok-value.was ∙ ap Some c.in-Is.is),
    )

pub loop-at-smaller-in-Is : goal.loop-at-smaller-in-Is
loop-at-smaller-in-Is c =
    element-less _ _ _ _ _ _ c.loop-at.invariant c.loop-at-test.true c.element_at.ensures (was-there _ _ c.ok_or.ensures.value c.in_ok-value.was ∙ ap Some c.in-Is.is)

pub loop-at-preserved-in-Is : goal.loop-at-preserved-in-Is
loop-at-preserved-in-Is c =
    let back : to_z w32 (of_z w32 c.in-Is.value) ≡ c.in-Is.value = search rules in
    element-again _ _ _ _ _ _ c.loop-at.invariant c.loop-at-test.true c.element_at.ensures (was-there _ _ c.ok_or.ensures.value c.in_ok-value.was ∙ ap Some c.in-Is.is)
    c.slot_of-slot.ensures back c.put_element.ensures

pub loop-at-smaller : goal.loop-at-smaller
loop-at-smaller c =
    name-less _ _ _ _ _ _ c.loop-at.invariant c.loop-at-test.true c.element_at.ensures (was-there _ _ c.ok_or.ensures.value c.in_ok-value.was ∙ ap Some c.in-Name.is)

pub loop-at-preserved : goal.loop-at-preserved
loop-at-preserved c =
    name-again _ _ _ _ _ _ c.loop-at.invariant c.loop-at-test.true c.element_at.ensures (was-there _ _ c.ok_or.ensures.value c.in_ok-value.was ∙ ap Some c.in-Name.is)

pub returns : goal.returns
returns c = loop-done _ _ _ _ _ _ c.loop-at.invariant _ c.loop-at-test.false
