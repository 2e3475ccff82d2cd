use Rattle.sizes.proofs.Laws.Product.{Left}
use lib.ListN.{length}
use Rattle.sizes.proofs.product.product_of.Given as goal

abbrev pub invariant-loop-rest : goal.invariant-loop-rest
invariant-loop-rest l = Left l.e l.key l.block l.element l.rest l.size

abbrev pub decreases-loop-rest : goal.decreases-loop-rest
decreases-loop-rest l = length l.rest
