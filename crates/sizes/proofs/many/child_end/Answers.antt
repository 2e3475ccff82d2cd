use Rattle.format.specs.Said.{◌>>=◌}
use Rattle.sizes.proofs.Laws.Exit.{exit-said}
use Rattle.sizes.proofs.Laws.Size.{child-other, child-added}
use Rattle.sizes.proofs.Laws.Kept.{kind_is}
use Rattle.sizes.specs.Inside.Size.{said_added}
use mathlib.Core.Path.{refl, ◌∙◌}
use Rattle.sizes.proofs.many.child_end.Goals as goal

pub returns-then-row-ne13 : goal.returns-then-row-ne13
returns-then-row-ne13 c = child-other _ _ _ _ _ _ _ _ c.row_at-row.ensures c.if-row-ne13.true

pub member_added-requires : goal.member_added-requires
member_added-requires c = record { asked = c.requires.0; is_member = kind_is _ _ c.row_at-row.ensures c.if-row-ne13.false; all_kept = c.requires.1 }

pub returns : goal.returns
unfolding said_added ◌>>=◌
returns c = child-added _ _ _ _ _ _ _ _ c.row_at-row.ensures c.if-row-ne13.false c.member_added.ensures c.in_ok-offset.was c.grown.ensures

pub returns-in_err-offset : goal.returns-in_err-offset
unfolding said_added ◌>>=◌
returns-in_err-offset c =
    exit-said _ _ c.from_residual.ensures.1
    ∙ child-added _ _ _ _ _ _ _ _ c.row_at-row.ensures c.if-row-ne13.false c.member_added.ensures c.in_err-offset.was refl
