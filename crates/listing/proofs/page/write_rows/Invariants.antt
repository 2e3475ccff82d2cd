use Rattle.listing.proofs.Laws.Page.{RowsLeft}
use Rattle.listing.proofs.page.write_rows.Given as goal

abbrev pub invariant-loop-i : goal.invariant-loop-i
invariant-loop-i l = RowsLeft l.rows l.room l.n l.at l.initial.page l.page l.next l.i
