use Rattle.format.specs.Said.{said, ◌>>=◌}
use Rattle.sizes.proofs.Laws.Exit.{exit-said}
use Rattle.sizes.proofs.Laws.Size.{row_is, row-element, row_ends, ends_asked}
use Rattle.sizes.specs.Inside.Prepare.{said_prepared, finished}
use Rattle.std.specs.Prelude.{Ok}
use mathlib.Core.Path.{refl, ap, ◌∙◌}
use Rattle.sizes.proofs.many.row_size.Goals as goal

pub prepare_row-requires : goal.prepare_row-requires
prepare_row-requires c = (c.requires.0, c.requires.1.parts.rows_kept)

pub type_size_from-requires : goal.type_size_from-requires
type_size_from-requires c = record { table = c.requires.0.asked.table; short = c.requires.0.short }

pub ends_size-requires : goal.ends_size-requires
ends_size-requires c = (ends_asked _ _ _ _ _ _ c.prepare_row.ensures (c.in_ok-size.was ∙ ap Ok c.in-Ends.is) c.requires.0, c.requires.1)

pub returns-in-Size : goal.returns-in-Size
unfolding finished said_prepared said ◌>>=◌
returns-in-Size c = row_is _ _ _ _ _ _ c.prepare_row.ensures _ (c.in_ok-size.was ∙ ap Ok c.in-Size.is) refl

pub returns-in_ok-size-in-Element : goal.returns-in_ok-size-in-Element
unfolding said ◌>>=◌
returns-in_ok-size-in-Element c =
    row-element _ _ _ _ _ _ c.prepare_row.ensures _ (c.in_ok-size.was ∙ ap Ok c.in-Element.is) c.type_size_from.ensures c.in_ok-size-in-Element.was
    c.array_product.ensures

pub returns-in_err-size-in-Element : goal.returns-in_err-size-in-Element
unfolding said ◌>>=◌
returns-in_err-size-in-Element c =
    exit-said _ _ c.from_residual-in_err-size-in-Element.ensures.1
    ∙ row-element _ _ _ _ _ _ c.prepare_row.ensures _ (c.in_ok-size.was ∙ ap Ok c.in-Element.is) c.type_size_from.ensures c.in_err-size-in-Element.was refl

pub returns-in-Ends : goal.returns-in-Ends
returns-in-Ends c = row_ends _ _ _ _ _ _ c.prepare_row.ensures _ (c.in_ok-size.was ∙ ap Ok c.in-Ends.is) c.ends_size.ensures

pub returns-in_err-size : goal.returns-in_err-size
unfolding finished said_prepared ◌>>=◌
returns-in_err-size c = exit-said _ _ c.from_residual.ensures.1 ∙ row_is _ _ _ _ _ _ c.prepare_row.ensures _ c.in_err-size.was refl
