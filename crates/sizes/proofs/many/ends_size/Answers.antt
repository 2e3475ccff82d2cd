use Rattle.format.proofs.Laws.Said.{refused-here}
use Rattle.format.specs.Said.{said}
use Rattle.sizes.proofs.Laws.Walking.{walking-begins, walking-ends, walking-asked, walking-stops, walking-ending, walking-less, walking_on}
use Rattle.sizes.proofs.Laws.Size.{ends-done, ends_next, ends-refused}
use Rattle.links.proofs.Laws.EachChild.{ends_at}
use mathlib.Core.Path.{◌∙◌}
use Rattle.sizes.proofs.many.ends_size.Goals as goal

pub kept_sibling-end-requires : goal.kept_sibling-end-requires
kept_sibling-end-requires c = (c.requires.0.ends_at.asked, c.requires.1.parts.rows_kept.faults.siblings)

pub next_row-requires : goal.next_row-requires
next_row-requires c = record { rising = c.requires.0.ends_at.asked.table.rising; there = c.requires.0.ends_at.asked.there }

pub child_from-c-requires : goal.child_from-c-requires
child_from-c-requires c = ends_at _ _ _ _ _ _ c.kept_sibling-end.ensures c.next_row.ensures c.requires.0.ends_at.ending

pub loop-c-init : goal.loop-c-init
loop-c-init c = walking-begins _ _ _ _ _ _ _ c.kept_sibling-end.ensures c.next_row.ensures c.requires.0.ends_at c.child_from-c.ensures

pub child_end-requires : goal.child_end-requires
child_end-requires c = (record { asked = walking-asked c.loop-c.invariant c.loop-c-test.true; short = c.requires.0.short }, c.requires.1)

pub kept_sibling-requires : goal.kept_sibling-requires
kept_sibling-requires c = (walking-asked c.loop-c.invariant c.loop-c-test.true, c.requires.1.parts.rows_kept.faults.siblings)

pub child_from-c-requires-in-loop-c : goal.child_from-c-requires-in-loop-c
child_from-c-requires-in-loop-c c = walking-ending c.loop-c.invariant c.loop-c-test.true c.kept_sibling.ensures

pub loop-c-smaller : goal.loop-c-smaller
loop-c-smaller c = walking-less c.loop-c.invariant c.loop-c-test.true c.kept_sibling.ensures c.child_from-c-in-loop-c.ensures

pub loop-c-preserved : goal.loop-c-preserved
loop-c-preserved c =
    walking_on c.loop-c.invariant c.loop-c-test.true c.kept_sibling.ensures c.child_from-c-in-loop-c.ensures
    (λ cs. ends_next _ _ _ _ _ _ _ _ c.child_end.ensures cs c.in_ok-largest.was)

pub returns-in_err-largest : goal.returns-in_err-largest
unfolding said
returns-in_err-largest c =
    refused-here c.child_end.ensures c.in_err-largest.was _ c.from_residual.ensures.1
    ∙ walking-stops c.loop-c.invariant c.loop-c-test.true (λ cs. ends-refused _ _ _ _ _ _ _ _ c.child_end.ensures cs c.in_err-largest.was)

pub returns : goal.returns
returns c = ends-done _ _ _ _ _ _ _ (walking-ends c.loop-c.invariant c.loop-c-test.false)
