use Rattle.std.specs.Prelude.{Ok}
use Rattle.format.proofs.Laws.Said.{refused-here}
use Rattle.records.proofs.Laws.Typedef.{begin, done, ended, stopped, level_left, row-asked, place-there, forward, again, stopped-below}
use borrow.Author.Rules.{rules}
use mathlib.Core.Path.{refl, ap, ◌∙◌}
use native.Mathlib.Omega.{arith}
use Prim.Native.Nat.{◌<◌}
use Rattle.records.proofs.typedef.+typedef_run.Goals as goal

pub loop-at-init : goal.loop-at-init
loop-at-init t c = begin _ _ _ _ _ _ _ _ c.run_of-run.ensures

pub returns-in_err-at : goal.returns-in_err-at
returns-in_err-at t c =
    refused-here refl c.in_err-at.was _ c.from_residual.ensures.1 ∙ stopped _ _ _ _ _ _ _ _ c.loop-at.invariant c.pause_from.ensures c.in_err-at.was

pub overflow_sub-levels : goal.overflow_sub-levels
overflow_sub-levels t c = level_left _ _ _ _ _ _ _ _ c.loop-at.invariant c.pause_from.ensures (c.in_ok-at.was ∙ ap Ok c.in-Some.is)

pub typedef_run-requires : goal.typedef_run-requires
typedef_run-requires t c =
    let more : 0 < c.args.levels = level_left _ _ _ _ _ _ _ _ c.loop-at.invariant c.pause_from.ensures (c.in_ok-at.was ∙ ap Ok c.in-Some.is) in
    (omega (arith, c.decreases), row-asked _ _ _ _ _ _ _ _ c.loop-at.invariant c.pause_from.ensures (c.in_ok-at.was ∙ ap Ok c.in-Some.is) c.requires.table)

pub returns-in_err-next : goal.returns-in_err-next
returns-in_err-next t c =
    refused-here refl c.in_err-next.was _ c.from_residual-in_err-next.ensures.1
    ∙ stopped-below _ _ _ _ _ _ _ _ c.loop-at.invariant c.pause_from.ensures (c.in_ok-at.was ∙ ap Ok c.in-Some.is) c.typedef_run.ensures c.in_err-next.was

pub overflow_add-j : goal.overflow_add-j
overflow_add-j t c =
    let less : c.in-Some.field-0.at < c.run_of-run.result.count =
    place-there _ _ _ _ _ _ _ _ c.loop-at.invariant c.pause_from.ensures (c.in_ok-at.was ∙ ap Ok c.in-Some.is)
    in
    search rules

pub loop-at-smaller : goal.loop-at-smaller
loop-at-smaller t c = forward _ _ _ _ _ _ _ _ c.loop-at.invariant c.pause_from.ensures (c.in_ok-at.was ∙ ap Ok c.in-Some.is)

pub loop-at-preserved : goal.loop-at-preserved
loop-at-preserved t c =
    again _ _ _ _ _ _ _ _ c.loop-at.invariant c.pause_from.ensures (c.in_ok-at.was ∙ ap Ok c.in-Some.is) c.typedef_run.ensures c.in_ok-next.was
    c.first_filling-filling.ensures

pub returns : goal.returns
returns t c =
    done _ _ _ _ _ _ _ _ (ended _ _ _ _ _ _ _ _ c.loop-at.invariant c.pause_from.ensures (c.in_ok-at.was ∙ ap Ok c.in_default.is)) c.run_of-run.ensures
    (omega arith) c.typedef_end.ensures
