use Rattle.digits.proofs.Laws.Digits.{decimal-place}
use Rattle.listing.proofs.Laws.Text.{header-put}
use borrow.Author.Rules.{rules}
use native.Mathlib.Omega.{arith}
use Rattle.listing.proofs.line.write_header.Goals as goal

pub put_text-requires : goal.put_text-requires
put_text-requires c = omega (arith, decimal-place c.args.n (search rules) c.put_decimal-end.ensures)

pub returns : goal.returns
returns c = header-put _ c.put_text-number.ensures c.put_decimal-end.ensures c.put_text.ensures
