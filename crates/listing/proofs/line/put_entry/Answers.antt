use Rattle.digits.proofs.Laws.Digits.{short-place, hex-place}
use Rattle.listing.proofs.Laws.Text.{entry-put}
use borrow.Author.Rules.{rules}
use native.Mathlib.Omega.{arith}
use Rattle.listing.proofs.line.put_entry.Goals as goal

pub put_text-second-requires : goal.put_text-second-requires
put_text-second-requires c = omega (arith, hex-place 8 _ c.put_hex-key_end.ensures)

pub put_decimal-depth_end-requires : goal.put_decimal-depth_end-requires
put_decimal-depth_end-requires c = omega (arith, hex-place 8 _ c.put_hex-key_end.ensures)

pub put_text-third-requires : goal.put_text-third-requires
put_text-third-requires c = omega (arith, hex-place 8 _ c.put_hex-key_end.ensures, short-place c.args.depth (search rules) c.put_decimal-depth_end.ensures)

pub put_hex-requires : goal.put_hex-requires
put_hex-requires c = omega (arith, hex-place 8 _ c.put_hex-key_end.ensures, short-place c.args.depth (search rules) c.put_decimal-depth_end.ensures)

pub returns : goal.returns
returns c = entry-put _ _ _ c.put_hex-key_end.ensures c.put_text-second.ensures c.put_decimal-depth_end.ensures c.put_text-third.ensures c.put_hex.ensures
