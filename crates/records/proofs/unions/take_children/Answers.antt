use mathlib.Core.Path.{refl}
use Rattle.format.proofs.Laws.Said.{refused-here}
use Rattle.links.proofs.Laws.EachChild.{ends_at}
use Rattle.records.proofs.Laws.Unions.{taking-begins, taking-ends, taking-asked, taking-at, taking-ending, taking-less, taking-on, taking-refused}
use Rattle.records.proofs.unions.take_children.Goals as goal

pub sibling_row-end-requires : goal.sibling_row-end-requires
sibling_row-end-requires c = record { rising = c.requires.asked.table.rising; there = c.requires.asked.there }

pub next_row-requires : goal.next_row-requires
next_row-requires c = record { rising = c.requires.asked.table.rising; there = c.requires.asked.there }

pub child_from-c-requires : goal.child_from-c-requires
child_from-c-requires c = ends_at _ _ _ _ _ _ c.sibling_row-end.ensures c.next_row.ensures c.requires.ending

pub loop-c-init : goal.loop-c-init
loop-c-init c = taking-begins _ _ _ _ _ _ _ c.row_at-row.ensures c.sibling_row-end.ensures c.next_row.ensures c.requires c.child_from-c.ensures

pub take_child-requires : goal.take_child-requires
take_child-requires c = taking-asked c.loop-c.invariant c.loop-c-test.true

pub sibling_row-requires : goal.sibling_row-requires
sibling_row-requires c = taking-at c.loop-c.invariant c.loop-c-test.true

pub child_from-c-requires-in-loop-c : goal.child_from-c-requires-in-loop-c
child_from-c-requires-in-loop-c c = taking-ending c.loop-c.invariant c.loop-c-test.true c.sibling_row.ensures

pub loop-c-smaller : goal.loop-c-smaller
loop-c-smaller c = taking-less c.loop-c.invariant c.loop-c-test.true c.sibling_row.ensures c.child_from-c-in-loop-c.ensures

pub loop-c-preserved : goal.loop-c-preserved
loop-c-preserved c = taking-on c.loop-c.invariant c.loop-c-test.true c.sibling_row.ensures c.child_from-c-in-loop-c.ensures c.take_child.ensures c.in_ok-k.was

pub returns-in_err-k : goal.returns-in_err-k
returns-in_err-k c =
    taking-refused c.loop-c.invariant c.loop-c-test.true c.take_child.ensures c.in_err-k.was (refused-here refl c.in_err-k.was _ c.from_residual.ensures.1)

pub returns : goal.returns
returns c = taking-ends c.loop-c.invariant c.loop-c-test.false
