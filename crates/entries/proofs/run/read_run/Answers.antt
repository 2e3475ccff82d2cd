use Rattle.entries.proofs.Laws.Run.{begin, again, done, ends, failed, value-small, falls, exit-is}
use mathlib.Core.Path.{sym, ◌∙◌}
use Rattle.entries.proofs.run.read_run.Goals as goal

pub loop-place-init : goal.loop-place-init
loop-place-init c = begin _ _ _ _ _ _ _ c.requires

pub returns-else-not-run_ends : goal.returns-else-not-run_ends
returns-else-not-run_ends c = ends _ _ _ _ _ _ c.loop-place.invariant (sym c.if-not-run_ends.ensures)

pub overflow_cast-attr-in-loop-place : goal.overflow_cast-attr-in-loop-place
overflow_cast-attr-in-loop-place c = record { fits = value-small _ _ _ _ _ _ c.loop-place.invariant (sym c.read_attribute.ensures ∙ c.in_ok-read.was) }

pub loop-place-smaller : goal.loop-place-smaller
loop-place-smaller c = falls _ _ _ _ _ _ c.loop-place.invariant c.loop-place-test.true (sym c.read_attribute.ensures ∙ c.in_ok-read.was)

pub loop-place-preserved : goal.loop-place-preserved
loop-place-preserved c = again _ _ _ _ _ _ c.loop-place.invariant c.loop-place-test.true (sym c.if-not-run_ends.ensures)
    (sym c.read_attribute.ensures ∙ c.in_ok-read.was) c.put_attr.ensures

pub returns-in_err-read : goal.returns-in_err-read
returns-in_err-read c = failed _ _ _ _ _ _ c.loop-place.invariant c.loop-place-test.true (sym c.if-not-run_ends.ensures)
    (sym c.read_attribute.ensures ∙ c.in_err-read.was) (exit-is _ c.from_residual.ensures.1)

pub returns-after-loop-place : goal.returns-after-loop-place
returns-after-loop-place c = done _ _ _ _ _ _ c.loop-place.invariant c.loop-place-test.false
