use Rattle.format.specs.Said.{said}
use Rattle.format.proofs.Laws.Said.{refused-here}
use Rattle.sizes.proofs.Laws.Prepare.{members_on, members-refused, members-none}
use Rattle.sizes.proofs.Laws.Walking.{walking-begins, walking-ends, walking-asked, walking-stops, walking-ending, walking-less, walking_on}
use Rattle.links.proofs.Laws.EachChild.{ends_at}
use mathlib.Core.Path.{◌∙◌}
use Rattle.sizes.proofs.prepare.members_fault.Goals as goal

pub kept_sibling-end-requires : goal.kept_sibling-end-requires
kept_sibling-end-requires c = (c.requires.0.asked, c.requires.1.siblings)

pub next_row-requires : goal.next_row-requires
next_row-requires c = record { rising = c.requires.0.asked.table.rising; there = c.requires.0.asked.there }

pub child_from-c-requires : goal.child_from-c-requires
child_from-c-requires c = ends_at _ _ _ _ _ _ c.kept_sibling-end.ensures c.next_row.ensures c.requires.0.ending

pub loop-c-init : goal.loop-c-init
loop-c-init c = walking-begins _ _ _ _ _ _ _ c.kept_sibling-end.ensures c.next_row.ensures c.requires.0 c.child_from-c.ensures

pub member_fault-requires : goal.member_fault-requires
member_fault-requires c = (walking-asked c.loop-c.invariant c.loop-c-test.true, c.requires.1)

pub kept_sibling-requires : goal.kept_sibling-requires
kept_sibling-requires c = (walking-asked c.loop-c.invariant c.loop-c-test.true, c.requires.1.siblings)

pub child_from-c-requires-in-loop-c : goal.child_from-c-requires-in-loop-c
child_from-c-requires-in-loop-c c = walking-ending c.loop-c.invariant c.loop-c-test.true c.kept_sibling.ensures

pub loop-c-smaller : goal.loop-c-smaller
loop-c-smaller c = walking-less c.loop-c.invariant c.loop-c-test.true c.kept_sibling.ensures c.child_from-c-in-loop-c.ensures

pub loop-c-preserved : goal.loop-c-preserved
loop-c-preserved c =
    walking_on c.loop-c.invariant c.loop-c-test.true c.kept_sibling.ensures c.child_from-c-in-loop-c.ensures
    (members_on _ _ _ _ _ _ c.member_fault.ensures c.in_ok-member_fault.was)

pub returns-in_err-member_fault : goal.returns-in_err-member_fault
returns-in_err-member_fault c =
    refused-here c.member_fault.ensures c.in_err-member_fault.was _ c.from_residual.ensures.1
    ∙ walking-stops c.loop-c.invariant c.loop-c-test.true (members-refused _ _ _ _ _ _ c.member_fault.ensures c.in_err-member_fault.was)

pub returns : goal.returns
unfolding said
returns c = members-none _ _ _ _ _ ∙ walking-ends c.loop-c.invariant c.loop-c-test.false
