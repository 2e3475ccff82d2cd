use Rattle.sizes.proofs.Laws.Stage.{begun-size, begun-element, begun-from, begun-ends, begun-refused}
use Rattle.sizes.proofs.Laws.Kept.{none_kept}
use Rattle.std.specs.Prelude.{Ok}
use mathlib.Core.Path.{ap, ◌∙◌}
use mathlib.Core.List.{[]}
use Rattle.sizes.proofs.stage.begun.Goals as goal

pub prepare_row-requires : goal.prepare_row-requires
prepare_row-requires c = (c.requires, (none_kept _ [] _ _ _ _ []).parts.rows_kept)

pub members_from-requires : goal.members_from-requires
members_from-requires c = begun-from _ _ _ _ _ _ c.prepare_row.ensures (c.in_ok-size.was ∙ ap Ok c.in-Ends.is) c.requires c.next_row.ensures

pub returns-in_err-size : goal.returns-in_err-size
returns-in_err-size c = begun-refused _ _ _ _ _ _ c.prepare_row.ensures c.in_err-size.was _ c.from_residual.ensures.1

pub returns-in-Size : goal.returns-in-Size
returns-in-Size c = begun-size _ _ _ _ _ _ c.prepare_row.ensures (c.in_ok-size.was ∙ ap Ok c.in-Size.is)

pub returns-in-Element : goal.returns-in-Element
returns-in-Element c = begun-element _ _ _ _ _ _ c.prepare_row.ensures c.requires (c.in_ok-size.was ∙ ap Ok c.in-Element.is)

pub returns-in-Ends : goal.returns-in-Ends
returns-in-Ends c =
    begun-ends _ _ _ _ _ _ c.prepare_row.ensures (c.in_ok-size.was ∙ ap Ok c.in-Ends.is) c.next_row.ensures c.members_from.ensures
