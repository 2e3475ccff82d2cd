use Rattle.sizes.proofs.Laws.Noted.{put-refusal}
use Rattle.sizes.proofs.noted.put_refusal.Goals as goal

pub returns : goal.returns
returns c = put-refusal c.args.noted.now c.args.i _ c.args.why c.requires c.number_of.ensures c.put_three.ensures
