use Rattle.records.proofs.Laws.Enumeration.{tag-asked}
use Rattle.records.proofs.enumeration.process_enumeration_tag.Goals as goal

pub give_enumeration-requires : goal.give_enumeration-requires
give_enumeration-requires c = tag-asked _ _ _ _ _ _ _ _ c.row_of.ensures c.in_ok-i.was
