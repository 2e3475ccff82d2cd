use Rattle.format.proofs.Laws.Said.{refused-here}
use Rattle.records.proofs.Laws.Enumeration.{list-is, list-addable, list-clear, list-refused}
use borrow.Author.Rules.{rules}
use mir.Syntax.{w32}
use mir.Val.{Fits}
use Rattle.records.proofs.enumeration.list_at.Goals as goal

pub read_list-requires : goal.read_list-requires
read_list-requires c =
    let small : Fits w32 c.attr_at-at.result.value = search rules in
    list-addable _ _ _ _ c.size_before.ensures c.list_width-width.ensures c.attr_at-at.ensures c.block4-block.ensures _ c.requires c.ranges.j.fits small.fits

pub returns : goal.returns
returns c =
    list-clear _ _ _ _ _ c.attribute_at-attribute.ensures c.attribute_fault.ensures _ _ _ c.in_ok-attribute_fault.was
    (list-is _ _ _ _ c.size_before.ensures c.list_width-width.ensures c.attr_at-at.ensures c.block4-block.ensures) c.read_list.ensures

pub returns-in_err-attribute_fault : goal.returns-in_err-attribute_fault
returns-in_err-attribute_fault c =
    list-refused c.args.settings _ _ c.args.run _ c.attribute_at-attribute.ensures c.attribute_fault.ensures _ _ _ _ c.in_err-attribute_fault.was
    (refused-here c.attribute_fault.ensures c.in_err-attribute_fault.was _ c.from_residual.ensures.1)
