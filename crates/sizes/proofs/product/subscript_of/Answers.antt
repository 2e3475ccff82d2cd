use Rattle.std.proofs.Common.{rules}
use Rattle.sizes.proofs.Laws.Product.{subscript-placed}
use Rattle.sizes.proofs.product.subscript_of.Goals as goal

pub returns : goal.returns
returns c = subscript-placed _ _ _ c.next_subscript.ensures _ c.map_err.ensures.cases (λ e w k. search rules)
