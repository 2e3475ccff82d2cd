use Rattle.entries.proofs.Laws.Walk.{begin, done, again, falls as forward, refused-here, inside-ready, inside-near, level_left}
use Rattle.entries.proofs.Laws.Walk.{again-inside, falls-inside, refused-inside}
use Rattle.entries.proofs.Laws.Run.{exit-is}
use Rattle.std.specs.Prelude.{Ok}
use mathlib.Core.Path.{ap, ◌∙◌}
use native.Mathlib.Omega.{arith}
use Prim.Native.Nat.{◌<◌}
use Rattle.entries.proofs.walk.+read_tags.Goals as goal

pub loop-state-init : goal.loop-state-init
loop-state-init t c = begin _ _ _ _ _ _ _ _ _ _ c.requires.0

pub loop-state-smaller-in-Next : goal.loop-state-smaller-in-Next
loop-state-smaller-in-Next t c = let next = c.in_ok-next.was ∙ ap Ok c.in-Next.is in
    forward _ _ _ _ _ _ _ _ c.loop-state.invariant c.loop-state-test.true c.read_entry.ensures next

pub loop-state-preserved-in-Next : goal.loop-state-preserved-in-Next
loop-state-preserved-in-Next t c = let next = c.in_ok-next.was ∙ ap Ok c.in-Next.is in
    again _ _ _ _ _ _ _ _ c.loop-state.invariant c.loop-state-test.true c.read_entry.ensures next

pub overflow_sub-levels : goal.overflow_sub-levels
overflow_sub-levels t c = let root = c.in_ok-next.was ∙ ap Ok c.in-Inside.is in
    level_left _ _ _ _ _ _ _ _ c.loop-state.invariant c.loop-state-test.true c.read_entry.ensures root

pub read_tags-requires : goal.read_tags-requires
read_tags-requires t c = let root = c.in_ok-next.was ∙ ap Ok c.in-Inside.is in
    let left : 0 < c.args.levels = level_left _ _ _ _ _ _ _ _ c.loop-state.invariant c.loop-state-test.true c.read_entry.ensures root in (
      omega (arith, c.decreases),
      (
        inside-ready _ _ _ _ _ _ _ _ c.loop-state.invariant c.loop-state-test.true c.read_entry.ensures root,
        inside-near _ _ _ _ _ _ _ _ c.loop-state.invariant c.loop-state-test.true c.read_entry.ensures root,
      ),
    )

pub loop-state-smaller : goal.loop-state-smaller
loop-state-smaller t c = let root = c.in_ok-next.was ∙ ap Ok c.in-Inside.is in
    falls-inside _ _ _ _ _ _ _ _ c.loop-state.invariant c.loop-state-test.true c.read_entry.ensures root c.read_tags.ensures c.in_ok-state-in-Inside.was

pub loop-state-preserved : goal.loop-state-preserved
loop-state-preserved t c = let root = c.in_ok-next.was ∙ ap Ok c.in-Inside.is in
    again-inside _ _ _ _ _ _ _ _ c.loop-state.invariant c.loop-state-test.true c.read_entry.ensures root
    c.read_tags.ensures c.in_ok-state-in-Inside.was

pub returns-in_err-state-in-Inside : goal.returns-in_err-state-in-Inside
returns-in_err-state-in-Inside t c = let root = c.in_ok-next.was ∙ ap Ok c.in-Inside.is in
    refused-inside _ _ _ _ _ _ _ _ c.loop-state.invariant c.loop-state-test.true c.read_entry.ensures root
    c.read_tags.ensures c.in_err-state-in-Inside.was (exit-is _ c.from_residual-in_err-state-in-Inside.ensures.1)

pub returns-in_err-next : goal.returns-in_err-next
returns-in_err-next t c = refused-here _ _ _ _ _ _ _ _ c.loop-state.invariant c.loop-state-test.true c.read_entry.ensures c.in_err-next.was
    (exit-is _ c.from_residual.ensures.1)

pub returns : goal.returns
returns t c = done _ _ _ _ _ _ _ _ c.loop-state.invariant c.loop-state-test.false
