use Rattle.links.proofs.Laws.Typed.{keyed-asked}
use Rattle.records.proofs.label.process_subroutine_label_tag.Goals as goal

pub label_at-requires : goal.label_at-requires
label_at-requires c = keyed-asked _ _ _ _ _ _ _ _ c.row_of.ensures c.in_ok-i.was
