use Rattle.listing.proofs.Laws.Page.{listing-printed}
use Rattle.listing.proofs.Laws.Text.{header-length}
use borrow.Author.Rules.{rules}
use native.Mathlib.Omega.{arith}
use Rattle.listing.proofs.page.write_listing.Goals as goal

pub write_rows-requires : goal.write_rows-requires
write_rows-requires c = omega (arith, header-length c.args.n (search rules), c.write_header-at.ensures.place_is)

pub returns : goal.returns
returns c = listing-printed _ _ _ c.requires c.write_header-at.ensures c.write_rows.ensures
