use Rattle.links.proofs.Laws.Typed.{keyed-asked}
use Rattle.records.proofs.unions.process_union_tag.Goals as goal

pub give_union-requires : goal.give_union-requires
give_union-requires c = keyed-asked _ _ _ _ _ _ _ _ c.row_of.ensures c.in_ok-i.was
