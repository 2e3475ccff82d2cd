use Rattle.layout.proofs.Laws.Keep.{member-put, refused-put}
use Rattle.layout.proofs.keep.keep_member.Goals as goal

pub returns-in-Ok : goal.returns-in-Ok
returns-in-Ok c = member-put _ _ _ _ c.in-Ok.is c.size_named.ensures c.keep_two.ensures

pub returns-in-Err : goal.returns-in-Err
returns-in-Err c = refused-put _ _ _ _ c.in-Err.is c.keep_two-in-Err.ensures
