use Rattle.listing.proofs.Laws.Text.{row_put, entry_place, unit-place}
use borrow.Author.Rules.{rules}
use native.Mathlib.Omega.{arith}
use Rattle.listing.proofs.line.write_row.Goals as goal

pub put_text-last-requires : goal.put_text-last-requires
put_text-last-requires c = omega (arith, entry_place _ _ _ (search rules) c.put_entry-entry_end.ensures)

pub put_unit-end-requires : goal.put_unit-end-requires
put_unit-end-requires c = omega (arith, entry_place _ _ _ (search rules) c.put_entry-entry_end.ensures)

pub put_text-requires : goal.put_text-requires
put_text-requires c = omega (arith, entry_place _ _ _ (search rules) c.put_entry-entry_end.ensures, unit-place _ c.put_unit-end.ensures)

pub returns : goal.returns
returns c = row_put _ _ _ _ c.put_entry-entry_end.ensures c.put_text-last.ensures c.put_unit-end.ensures c.put_text.ensures
