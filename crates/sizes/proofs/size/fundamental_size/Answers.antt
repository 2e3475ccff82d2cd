use Rattle.sizes.proofs.Laws.Size.{line-there, line-none}
use Rattle.sizes.proofs.size.fundamental_size.Goals as goal

pub returns-then-k-sizes : goal.returns-then-k-sizes
returns-then-k-sizes c = line-there _ _ c.order_of-k.ensures c.if-k-sizes.true

pub returns-else-k-sizes : goal.returns-else-k-sizes
returns-else-k-sizes c = line-none _ _ c.order_of-k.ensures c.if-k-sizes.false c.refused.ensures
