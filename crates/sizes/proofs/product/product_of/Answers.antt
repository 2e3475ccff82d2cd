use Rattle.sizes.proofs.Laws.Exit.{exit-said}
use Rattle.format.specs.Said.{said}
use Rattle.sizes.proofs.Laws.Product.{begin, product-done, dimension-inside, dimension-less, again-dimension, product-big, element-inside, element-less, again-element, product-refused}
use mathlib.Core.Path.{◌∙◌}
use Rattle.sizes.proofs.product.product_of.Goals as goal

pub loop-rest-init : goal.loop-rest-init
loop-rest-init c = begin _ _ _ _

pub returns-in_err-many : goal.returns-in_err-many
returns-in_err-many c =
    exit-said _ _ c.from_residual.ensures.1 ∙ product-refused c.loop-rest.invariant c.loop-rest-test.true c.subscript_of.ensures c.in_err-many.was

pub returns-in_err-size-in-Dimension : goal.returns-in_err-size-in-Dimension
returns-in_err-size-in-Dimension c =
    exit-said _ _ c.from_residual-in_err-size-in-Dimension.ensures.1
    ∙ product-big c.loop-rest.invariant c.loop-rest-test.true c.subscript_of.ensures c.in_ok-many.was c.in-Dimension.is c.times.ensures c.in_err-size-in-Dimension.was

pub slice_bounds-rest-count : goal.slice_bounds-rest-count
slice_bounds-rest-count c = dimension-inside c.loop-rest.invariant c.loop-rest-test.true c.subscript_of.ensures c.in_ok-many.was c.in-Dimension.is

pub slice_bounds-rest-start : goal.slice_bounds-rest-start
slice_bounds-rest-start c = dimension-inside c.loop-rest.invariant c.loop-rest-test.true c.subscript_of.ensures c.in_ok-many.was c.in-Dimension.is

pub loop-rest-smaller-in-Dimension : goal.loop-rest-smaller-in-Dimension
loop-rest-smaller-in-Dimension c = dimension-less c.loop-rest.invariant c.loop-rest-test.true c.subscript_of.ensures c.in_ok-many.was c.in-Dimension.is

pub loop-rest-preserved-in-Dimension : goal.loop-rest-preserved-in-Dimension
loop-rest-preserved-in-Dimension c =
    again-dimension c.loop-rest.invariant c.loop-rest-test.true c.subscript_of.ensures c.in_ok-many.was c.in-Dimension.is c.times.ensures
    c.in_ok-size-in-Dimension.was

pub slice_bounds-rest-count-in-Element : goal.slice_bounds-rest-count-in-Element
slice_bounds-rest-count-in-Element c = element-inside c.loop-rest.invariant c.loop-rest-test.true c.subscript_of.ensures c.in_ok-many.was c.in-Element.is

pub slice_bounds-rest-start-in-Element : goal.slice_bounds-rest-start-in-Element
slice_bounds-rest-start-in-Element c = element-inside c.loop-rest.invariant c.loop-rest-test.true c.subscript_of.ensures c.in_ok-many.was c.in-Element.is

pub loop-rest-smaller : goal.loop-rest-smaller
loop-rest-smaller c = element-less c.loop-rest.invariant c.loop-rest-test.true c.subscript_of.ensures c.in_ok-many.was c.in-Element.is

pub loop-rest-preserved : goal.loop-rest-preserved
loop-rest-preserved c = again-element c.loop-rest.invariant c.loop-rest-test.true c.subscript_of.ensures c.in_ok-many.was c.in-Element.is

pub returns : goal.returns
unfolding said
returns c = product-done c.loop-rest.invariant c.loop-rest-test.false
