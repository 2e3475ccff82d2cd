use Rattle.entries.proofs.Laws.Entry.{ordinary-read, body-stops}
use Rattle.entries.proofs.Laws.Run.{exit-is}
use Rattle.entries.specs.Entry.{entry_from}
use Rattle.entries.proofs.entry.read_ordinary.Goals as goal

pub returns : goal.returns
unfolding entry_from
returns c = ordinary-read _ _ _ _ _ _ _ c.read_body.ensures c.in_ok-state.was

pub returns-in_err-state : goal.returns-in_err-state
unfolding entry_from
returns-in_err-state c = body-stops _ _ _ _ _ c.read_body.ensures c.in_err-state.was (exit-is _ c.from_residual.ensures.1)
