use Rattle.digits.proofs.Laws.Put.{put_rest}
use Rattle.listing.proofs.line.put_text.Goals as goal

pub returns : goal.returns
returns c = put_rest _ _ _ c.rest_at-from.ensures c.write_text.ensures
