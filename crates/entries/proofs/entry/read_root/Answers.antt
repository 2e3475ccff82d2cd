use Rattle.entries.proofs.Laws.Entry.{rooted-read, body-stops, stopped, renamed, nested, root_is, root-stops}
use Rattle.entries.proofs.Laws.Run.{exit-is}
use mathlib.Core.Path.{refl}
use Rattle.entries.proofs.entry.read_root.Goals as goal

pub returns-then-levels-eq0 : goal.returns-then-levels-eq0
returns-then-levels-eq0 c = stopped _ _ _ (nested _ _ _ _ _ _ _ _ _ c.if-levels-eq0.true) refl

pub returns : goal.returns
returns c = renamed _ _ (root_is _ _ _ _ _ _ _ _ _ c.if-levels-eq0.false c.root_endian.ensures c.in_ok-e.was)
    (rooted-read _ _ _ _ _ c.requires.1 c.read_body.ensures c.in_ok-state.was)

pub returns-in_err-state : goal.returns-in_err-state
returns-in_err-state c = renamed _ _ (root_is _ _ _ _ _ _ _ _ _ c.if-levels-eq0.false c.root_endian.ensures c.in_ok-e.was)
    (body-stops _ _ _ _ _ c.read_body.ensures c.in_err-state.was (exit-is _ c.from_residual-in_err-state.ensures.1))

pub returns-in_err-e : goal.returns-in_err-e
returns-in_err-e c = stopped _ _ _ (root-stops _ _ _ _ _ _ _ _ _ c.if-levels-eq0.false c.root_endian.ensures c.in_err-e.was)
    (exit-is _ c.from_residual.ensures.1)
