use Rattle.links.proofs.Laws.Typed.{keyed-asked}
use Rattle.records.proofs.ptr_to_member.process_ptr_to_member_tag.Goals as goal

pub ptr_to_member_at-requires : goal.ptr_to_member_at-requires
ptr_to_member_at-requires c = keyed-asked _ _ _ _ _ _ _ _ c.row_of.ensures c.in_ok-i.was
