use Rattle.sizes.proofs.Laws.Size.{product-here}
use Rattle.sizes.proofs.size.array_product.Goals as goal

pub returns : goal.returns
returns c = product-here _ _ _ _ _ _ _ c.run_of-run.ensures c.subscript_block-block.ensures c.product_of.ensures
