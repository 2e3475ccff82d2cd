use Rattle.digits.proofs.Laws.Digits.{decimal-length}
use Rattle.digits.proofs.Laws.Put.{put_rest}
use borrow.Author.Rules.{rules}
use native.Mathlib.Omega.{arith}
use Rattle.listing.proofs.line.put_decimal.Goals as goal

pub overflow_add-result : goal.overflow_add-result
overflow_add-result c = omega (arith, c.write_decimal.ensures.place_is, decimal-length c.args.v (search rules))

pub returns : goal.returns
returns c = put_rest _ _ _ c.rest_at-from.ensures c.write_decimal.ensures
