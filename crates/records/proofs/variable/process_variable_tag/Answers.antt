use Rattle.links.proofs.Laws.Typed.{keyed-asked}
use Rattle.records.proofs.variable.process_variable_tag.Goals as goal

pub variable_at-requires : goal.variable_at-requires
variable_at-requires c = keyed-asked _ _ _ _ _ _ _ _ c.row_of.ensures c.in_ok-i.was
