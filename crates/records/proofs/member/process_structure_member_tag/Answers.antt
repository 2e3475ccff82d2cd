use Rattle.links.proofs.Laws.Typed.{keyed-asked}
use Rattle.records.proofs.member.process_structure_member_tag.Goals as goal

pub member_at-requires : goal.member_at-requires
member_at-requires c = keyed-asked _ _ _ _ _ _ _ _ c.row_of.ensures c.in_ok-i.was
