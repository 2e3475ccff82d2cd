use Rattle.sizes.proofs.Laws.Prepare.{Preparing, preparing-begins, preparing-past, preparing-on, preparing-refused, preparing-ends}
use mathlib.Core.Path.{sym, subst}
use Rattle.sizes.proofs.prepare.prepare_array.Goals.{then-attribute-eq-SUBSCR_DATA+in_ok-array, else-attribute-eq-SUBSCR_DATA}
use Rattle.sizes.proofs.prepare.prepare_array.Goals as goal

pub loop-j-init : goal.loop-j-init
loop-j-init c = preparing-begins _ _ _

pub returns-in_err-array : goal.returns-in_err-array
returns-in_err-array c =
    preparing-refused c.loop-j.invariant c.loop-j-test.true c.attribute_at-attribute.ensures c.if-attribute-eq-SUBSCR_DATA.true
    c.subscripts_at.ensures c.in_err-array.was _ c.from_residual.ensures.1

pub loop-j-preserved : goal.loop-j-preserved
loop-j-preserved c =
    elim c.if-attribute-eq-SUBSCR_DATA.branch [
      | then-attribute-eq-SUBSCR_DATA+in_ok-array w ↦ subst (Preparing c.args.s.now c.args.attrs.now c.args.run _) (sym w.last-is)
          (preparing-on c.loop-j.invariant c.loop-j-test.true c.attribute_at-attribute.ensures w.if-attribute-eq-SUBSCR_DATA.true
          w.subscripts_at.ensures w.in_ok-array.was)
      | else-attribute-eq-SUBSCR_DATA w ↦ subst (Preparing c.args.s.now c.args.attrs.now c.args.run _) (sym w.last-is)
          (preparing-past c.loop-j.invariant c.loop-j-test.true c.attribute_at-attribute.ensures w.if-attribute-eq-SUBSCR_DATA.false)
    ]

pub returns : goal.returns
returns c = preparing-ends c.loop-j.invariant c.loop-j-test.false c.refused.ensures c.ok_or.ensures.value
