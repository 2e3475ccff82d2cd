use Rattle.sizes.proofs.Laws.Exit.{gone_by}
use Rattle.sizes.specs.Inside.Size.{said_added}
use Rattle.sizes.specs.Inside.Kept.{added_by, added_kept}
use Rattle.sizes.proofs.Laws.Kept.{kept-offset}
use mathlib.Core.Path.{refl}
use Rattle.sizes.proofs.kept.added_kept.Goals as goal

pub returns : goal.returns
returns c = kept-offset _ _ _ c.noted_at.ensures c.in_ok-offset.was c.noted_at-size.ensures c.size_kept.ensures c.with_size.ensures

pub returns-in_err-offset : goal.returns-in_err-offset
unfolding added_kept added_by said_added
returns-in_err-offset c = gone_by said_added (λ e. refl) c.noted_at.ensures c.in_err-offset.was _ c.from_residual.ensures.1 _
