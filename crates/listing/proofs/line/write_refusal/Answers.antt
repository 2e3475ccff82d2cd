use Rattle.digits.proofs.Laws.Digits.{short-place, hex-place}
use Rattle.listing.proofs.Laws.Text.{refusal-put}
use borrow.Author.Rules.{rules}
use native.Mathlib.Omega.{arith}
use Rattle.listing.proofs.line.write_refusal.Goals as goal

pub put_text-second-requires : goal.put_text-second-requires
put_text-second-requires c = omega (arith, short-place c.args.number (search rules) c.put_decimal-number_end.ensures)

pub put_hex-end-requires : goal.put_hex-end-requires
put_hex-end-requires c = omega (arith, short-place c.args.number (search rules) c.put_decimal-number_end.ensures)

pub put_text-requires : goal.put_text-requires
put_text-requires c = omega (arith, short-place c.args.number (search rules) c.put_decimal-number_end.ensures, hex-place 8 _ c.put_hex-end.ensures)

pub returns : goal.returns
returns c = refusal-put _ _ c.put_text-first.ensures c.put_decimal-number_end.ensures c.put_text-second.ensures c.put_hex-end.ensures c.put_text.ensures
