use Rattle.attributes.proofs.Laws.Read.{ended-well}
use mathlib.Core.Path.{sym, ◌∙◌}
use Rattle.attributes.proofs.read.known_end.Goals as goal

pub returns-in-Some : goal.returns-in-Some
returns-in-Some c = ended-well _ (sym c.in-Some.is ∙ c.end_if_known.ensures)
