use Rattle.sizes.proofs.Laws.Stage.{multiplied-is, multiplied-refused}
use Rattle.sizes.proofs.stage.multiplied.Goals as goal

pub returns : goal.returns
returns c = multiplied-is _ _ _ _ _ _ _ _ c.array_product.ensures c.in_ok-product.was

pub returns-in_err-product : goal.returns-in_err-product
returns-in_err-product c = multiplied-refused _ _ _ _ _ _ _ _ c.array_product.ensures c.in_err-product.was _ c.from_residual.ensures.1
