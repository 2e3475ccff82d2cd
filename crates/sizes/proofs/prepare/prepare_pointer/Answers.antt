use Rattle.format.proofs.Laws.Said.{comes-past}
use Rattle.sizes.proofs.Laws.Exit.{gone-past_by}
use Rattle.sizes.specs.Inside.Prepare.{said_prepared, prepared_pointer}
use mathlib.Core.Path.{refl}
use Rattle.sizes.proofs.prepare.prepare_pointer.Goals as goal

pub returns : goal.returns
unfolding said_prepared prepared_pointer
returns c = comes-past c.ptr_to_member_at.ensures c.in_ok-ptr_to_member_at.was _ refl

pub returns-in_err-ptr_to_member_at : goal.returns-in_err-ptr_to_member_at
unfolding said_prepared prepared_pointer
returns-in_err-ptr_to_member_at c = gone-past_by said_prepared (λ e. refl) c.ptr_to_member_at.ensures c.in_err-ptr_to_member_at.was _ c.from_residual.ensures.1 _
