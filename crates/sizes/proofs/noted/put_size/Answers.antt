use Rattle.sizes.proofs.Laws.Noted.{put-size}
use borrow.Author.Rules.{rules}
use Rattle.sizes.proofs.noted.put_size.Goals as goal

pub returns : goal.returns
returns c = put-size c.args.noted.now c.args.i c.args.size c.requires (search rules) c.put_three.ensures
