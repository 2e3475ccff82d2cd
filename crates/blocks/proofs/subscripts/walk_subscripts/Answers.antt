use Rattle.std.proofs.Common.{rules}
use Rattle.blocks.proofs.Laws.Subscripts.{begin, walk-done, dimension-inside, element-inside, element_place, dimension-less, element-less, again-dimension, again-element, walk_refused}
use Rattle.blocks.proofs.subscripts.walk_subscripts.Goals as goal

pub loop-rest-init : goal.loop-rest-init
loop-rest-init c = begin _ _ _

pub returns-in_err-index : goal.returns-in_err-index
returns-in_err-index c = walk_refused c.loop-rest.invariant c.loop-rest-test.ensures _ _ c.in_err-index.ensures c.from_residual.ensures.1

pub slice_bounds-rest-count : goal.slice_bounds-rest-count
slice_bounds-rest-count c = dimension-inside c.loop-rest.invariant c.loop-rest-test.ensures c.in_ok-index.ensures c.in-Dimension.is

pub slice_bounds-rest-start : goal.slice_bounds-rest-start
slice_bounds-rest-start c = dimension-inside c.loop-rest.invariant c.loop-rest-test.ensures c.in_ok-index.ensures c.in-Dimension.is

pub loop-rest-smaller-in-Dimension : goal.loop-rest-smaller-in-Dimension
loop-rest-smaller-in-Dimension c = dimension-less c.loop-rest.invariant c.loop-rest-test.ensures c.in_ok-index.ensures c.in-Dimension.is

pub loop-rest-preserved-in-Dimension : goal.loop-rest-preserved-in-Dimension
loop-rest-preserved-in-Dimension c =
    again-dimension c.loop-rest.invariant c.loop-rest-test.ensures c.in_ok-index.ensures c.in-Dimension.is c.put_dimension.ensures

pub raised-requires : goal.raised-requires
raised-requires c = let h = element_place c.loop-rest.invariant c.loop-rest-test.ensures c.in_ok-index.ensures c.in-Element.is in search (rules, h)

pub slice_bounds-rest-count-in-Element : goal.slice_bounds-rest-count-in-Element
slice_bounds-rest-count-in-Element c = element-inside c.loop-rest.invariant c.loop-rest-test.ensures c.in_ok-index.ensures c.in-Element.is

pub slice_bounds-rest-start-in-Element : goal.slice_bounds-rest-start-in-Element
slice_bounds-rest-start-in-Element c = element-inside c.loop-rest.invariant c.loop-rest-test.ensures c.in_ok-index.ensures c.in-Element.is

pub loop-rest-smaller : goal.loop-rest-smaller
loop-rest-smaller c = element-less c.loop-rest.invariant c.loop-rest-test.ensures c.in_ok-index.ensures c.in-Element.is

pub loop-rest-preserved : goal.loop-rest-preserved
loop-rest-preserved c = again-element c.loop-rest.invariant c.loop-rest-test.ensures c.in_ok-index.ensures c.in-Element.is c.raised.ensures

pub returns : goal.returns
returns c = walk-done c.loop-rest.invariant c.loop-rest-test.ensures c.element_or.ensures
