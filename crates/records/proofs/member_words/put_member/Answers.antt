use Rattle.records.specs.MemberWords.{member_words}
use Rattle.records.proofs.Laws.MemberWords.{member-out}
use Rattle.records.proofs.member_words.put_member.Goals as goal

pub returns-then-k-room : goal.returns-then-k-room
unfolding member_words
returns-then-k-room c = cc

pub returns-else-k-room : goal.returns-else-k-room
returns-else-k-room c = member-out c.args.room.now _ _ _ c.if-k-room.false
