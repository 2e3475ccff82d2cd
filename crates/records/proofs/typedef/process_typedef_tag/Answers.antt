use Rattle.links.proofs.Laws.Typed.{keyed-asked}
use Rattle.records.proofs.typedef.process_typedef_tag.Goals as goal

pub typedef_at-requires : goal.typedef_at-requires
typedef_at-requires c = keyed-asked _ _ _ _ _ _ _ _ c.row_of.ensures c.in_ok-i.was
