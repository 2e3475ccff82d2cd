use Rattle.entries.specs.Entry.{entry_from}
use Rattle.entries.proofs.Laws.Entry.{entry-null, entry-skipped, at_head, head-bounds, renamed, stopped}
use Rattle.entries.specs.Inside.Promise.{said_read}
use Rattle.entries.specs.declared.entry.EntryError.TheVariants as error
use Rattle.entries.proofs.Laws.Run.{exit-is, mapped-ok, mapped-err}
use Rattle.std.specs.Prelude.{Ok, Err}
use Rattle.std.proofs.Common.{rules}
use mathlib.Core.Path.{ap, ◌∙◌}
use Rattle.entries.proofs.entry.read_entry.Goals as goal

pub returns-in-Null : goal.returns-in-Null
returns-in-Null c = let here = mapped-ok _ _ c.map_err.ensures.cases c.in_ok-head.was ∙ ap Ok c.in-Null.is in
    renamed _ _ (at_head _ _ _ _ _ _ _ _ _ c.head_at.ensures.answer here)
    (entry-null _ _ _ _ _ _ _ c.requires _ (head-bounds _ _ c.head_at.ensures here) c.read_null.ensures)

pub returns-in-Skipped : goal.returns-in-Skipped
returns-in-Skipped c = let here = mapped-ok _ _ c.map_err.ensures.cases c.in_ok-head.was ∙ ap Ok c.in-Skipped.is in
    renamed _ _ (at_head _ _ _ _ _ _ _ _ _ c.head_at.ensures.answer here)
    (entry-skipped _ _ _ _ _ _ _ c.requires _ (head-bounds _ _ c.head_at.ensures here))

pub returns-in-Root : goal.returns-in-Root
returns-in-Root c = let here = mapped-ok _ _ c.map_err.ensures.cases c.in_ok-head.was ∙ ap Ok c.in-Root.is in
    renamed _ _ (at_head _ _ _ _ _ _ _ _ _ c.head_at.ensures.answer here) c.read_root.ensures

pub returns-in-Ordinary : goal.returns-in-Ordinary
unfolding entry_from
returns-in-Ordinary c = let here = mapped-ok _ _ c.map_err.ensures.cases c.in_ok-head.was ∙ ap Ok c.in-Ordinary.is in
    renamed _ _ (at_head _ _ _ _ _ _ _ _ _ c.head_at.ensures.answer here) c.read_ordinary.ensures

pub returns-in_err-head : goal.returns-in_err-head
unfolding entry_from said_read
returns-in_err-head c = let field = mapped-err _ _ c.map_err.ensures.cases c.in_err-head.was in
    stopped _ _ (error.Unread field.0.why c.args.from.at field.0.byte) (at_head _ _ _ _ _ _ _ _ _ c.head_at.ensures.answer field.1)
    (exit-is _ c.from_residual.ensures.1 ∙ ap Err (search rules))
