use Rattle.format.specs.Said.{said}
use Rattle.sizes.proofs.Laws.Product.{product-fits, times-is, times-big}
use borrow.Author.Rules.{rules}
use Rattle.sizes.proofs.product.times.Goals as goal

pub overflow_mul-product : goal.overflow_mul-product
overflow_mul-product c = record { fits = product-fits (search rules) (search rules) }

pub returns-then-product-le4294967295 : goal.returns-then-product-le4294967295
unfolding said
returns-then-product-le4294967295 c = times-is _ _ _ c.if-product-le4294967295.true

pub returns-else-product-le4294967295 : goal.returns-else-product-le4294967295
unfolding said
returns-else-product-le4294967295 c = times-big _ _ _ c.if-product-le4294967295.false c.refused.ensures
