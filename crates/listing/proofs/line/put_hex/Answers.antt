use Rattle.digits.proofs.Laws.Digits.{digits-length}
use Rattle.digits.proofs.Laws.Put.{put_rest}
use native.Mathlib.Omega.{arith}
use Rattle.listing.proofs.line.put_hex.Goals as goal

pub overflow_add-result : goal.overflow_add-result
overflow_add-result c = omega (arith, c.write_hex.ensures.place_is, digits-length 16 c.args.w c.args.v)

pub returns : goal.returns
returns c = put_rest _ _ _ c.rest_at-from.ensures c.write_hex.ensures
