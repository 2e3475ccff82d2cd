use Rattle.entries.specs.Entry.{attributes}
use Rattle.entries.proofs.Laws.Entry.{body-read, body_refused, run-few}
use Rattle.entries.proofs.Laws.Run.{exit-is, mapped-ok, mapped-err}
use Rattle.std.proofs.Common.{rules}
use Rattle.std.specs.Prelude.{Err}
use mathlib.Core.Path.{ap, ◌∙◌}
use native.Mathlib.Omega.{arith}
use Rattle.entries.proofs.entry.read_body.Goals as goal

pub overflow_sub-row : goal.overflow_sub-row
overflow_sub-row c = (run-few _ _ _ _ c.requires.ready.small c.read_run.ensures (mapped-ok _ _ c.map_err.ensures.cases c.in_ok-run.was)).0

pub overflow_cast-row-4 : goal.overflow_cast-row-4
overflow_cast-row-4 c = omega (arith, (run-few _ _ _ _ c.requires.ready.small c.read_run.ensures (mapped-ok _ _ c.map_err.ensures.cases c.in_ok-run.was)).1)

pub returns : goal.returns
unfolding attributes
returns c =
    body-read _ c.args.from c.requires c.args.shape _ c.read_run.ensures (mapped-ok _ _ c.map_err.ensures.cases c.in_ok-run.was)
    c.kind_of.ensures c.flags_of.ensures
    c.put_row.ensures

pub returns-in_err-run : goal.returns-in_err-run
unfolding attributes
returns-in_err-run c = let why = mapped-err _ _ c.map_err.ensures.cases c.in_err-run.was in
    body_refused _ c.args.from c.requires c.args.shape _ why.0 c.read_run.ensures why.1 (exit-is _ c.from_residual.ensures.1 ∙ ap Err (search rules))
