use Rattle.sizes.proofs.Laws.Kept.{member-kept}
use Rattle.sizes.proofs.many.member_added.Goals as goal

pub returns-then-kept-gt0 : goal.returns-then-kept-gt0
returns-then-kept-gt0 c = member-kept c.requires c.if-kept-gt0.true _ c.added_kept.ensures
