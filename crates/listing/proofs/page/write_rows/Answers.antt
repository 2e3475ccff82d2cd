use Rattle.listing.proofs.Laws.Page.{rows-again, rows-done}
use borrow.Author.Rules.{rules}
use native.Mathlib.Omega.{arith}
use Rattle.listing.proofs.page.write_rows.Goals as goal

pub loop-i-preserved : goal.loop-i-preserved
loop-i-preserved c =
    rows-again _ _ _ _ _ _ _ c.loop-i.invariant c.loop-i-test.true c.row_at-row.ensures c.get_or-depth.ensures (search rules) c.write_row-next.ensures

pub returns : goal.returns
returns c = (rows-done _ _ _ _ _ c.loop-i.invariant c.loop-i-test.false, omega arith)
