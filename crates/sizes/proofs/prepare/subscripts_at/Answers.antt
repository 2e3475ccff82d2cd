use Rattle.std.proofs.Common.{rules}
use Rattle.sizes.proofs.Laws.Prepare.{subscripts-is}
use Rattle.sizes.proofs.prepare.subscripts_at.Goals as goal

pub returns : goal.returns
returns c = subscripts-is _ _ _ _ c.subscript_block-block.ensures _ _ c.count_subscripts.ensures _ c.map_err.ensures.cases (λ e w k. search rules)
