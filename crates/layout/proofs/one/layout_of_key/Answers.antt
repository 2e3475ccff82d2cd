use Rattle.format.proofs.Laws.Said.{gone_in}
use Rattle.tables.proofs.Laws.Keyed.{keyed-short}
use Rattle.links.proofs.Laws.Typed.{keyed-asked}
use Rattle.sizes.proofs.Laws.Kept.{none_kept}
use Rattle.layout.specs.Layout.{layout_of_key}
use Rattle.layout.proofs.Laws.Layout.{layout-there}
use mathlib.Core.Path.{refl}
use Rattle.layout.proofs.one.layout_of_key.Goals as goal

pub give_layout-requires : goal.give_layout-requires
give_layout-requires c = (
  record {
    asked = keyed-asked _ _ _ _ _ _ _ _ c.row_of.ensures c.in_ok-i.was;
    short = keyed-short _ _ _ _ _ _ _ _ c.row_of.ensures c.in_ok-i.was;
  },
  none_kept _ _ _ _ _ _ _,
)

pub returns : goal.returns
returns c = layout-there _ _ _ _ _ _ _ _ _ c.row_of.ensures c.in_ok-i.was c.give_layout.ensures

pub returns-in_err-i : goal.returns-in_err-i
unfolding layout_of_key
returns-in_err-i c = gone_in c.row_of.ensures c.in_err-i.was _ c.from_residual.ensures.1 _ refl
