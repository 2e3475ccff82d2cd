use Rattle.entries.proofs.Laws.Section.{countable, countable-short, read_done, units-fit, read-room, read-stopped}
use Rattle.entries.proofs.Laws.Run.{exit-is}
use Rattle.entries.specs.Section.{said_section}
use mathlib.Core.Path.{sym, ◌∙◌}
use Rattle.entries.proofs.section.read_debug_section.Goals as goal

pub read_whole-requires : goal.read_whole-requires
read_whole-requires c = let counted = countable _ _ _ _ c.count_debug_section.ensures c.in_ok-counts.was in
    countable-short _ _ _ _ counted

pub put_units-requires : goal.put_units-requires
put_units-requires c = let counted = countable _ _ _ _ c.count_debug_section.ensures c.in_ok-counts.was in
    units-fit _ _ _ _ _ _ counted (sym c.fits_tables.ensures ∙ c.if-fits_tables.true) c.read_whole.ensures

pub returns-then-fits_tables : goal.returns-then-fits_tables
unfolding said_section
returns-then-fits_tables c = let counted = countable _ _ _ _ c.count_debug_section.ensures c.in_ok-counts.was in
    read_done _ _ _ _ _ _ counted (sym c.fits_tables.ensures ∙ c.if-fits_tables.true) c.read_whole.ensures c.put_units.ensures

pub returns-else-fits_tables : goal.returns-else-fits_tables
unfolding said_section
returns-else-fits_tables c = let counted = countable _ _ _ _ c.count_debug_section.ensures c.in_ok-counts.was in
    read-room _ _ _ _ _ _ counted (sym c.fits_tables.ensures ∙ c.if-fits_tables.false)

pub returns-in_err-counts : goal.returns-in_err-counts
returns-in_err-counts c = read-stopped _ _ _ _ _ _ c.count_debug_section.ensures c.in_err-counts.was (exit-is _ c.from_residual.ensures.1)
