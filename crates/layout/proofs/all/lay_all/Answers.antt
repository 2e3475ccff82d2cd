use Rattle.layout.proofs.Laws.All.{all_noted}
use borrow.Author.Rules.{rules}
use Rattle.layout.proofs.all.lay_all.Goals as goal

pub returns : goal.returns
returns c = all_noted _ _ _ _ _ _ c.requires _ c.fill_noted.ensures (search rules) _ _ c.give_layouts.ensures
