use Rattle.sizes.proofs.Laws.Exit.{gone_by}
use Rattle.sizes.proofs.Laws.Size.{added-own, added-typed}
use Rattle.sizes.specs.Inside.Size.{said_added, member_added}
use mathlib.Core.Path.{refl}
use Rattle.sizes.proofs.many.read_added.Goals as goal

pub returns-in-Some : goal.returns-in-Some
returns-in-Some c = added-own _ _ _ _ _ _ _ c.member_at.ensures c.in_ok-member.was c.in-Some.is

pub returns-in-None : goal.returns-in-None
returns-in-None c = added-typed _ _ _ _ _ _ _ c.member_at.ensures c.in_ok-member.was c.in-None.is c.type_size_from-size.ensures c.with_size.ensures

pub returns-in_err-member : goal.returns-in_err-member
unfolding member_added said_added
returns-in_err-member c = gone_by said_added (λ e. refl) c.member_at.ensures c.in_err-member.was _ c.from_residual.ensures.1 _
