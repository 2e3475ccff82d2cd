use Rattle.format.specs.Said.{said, refusal}
use Rattle.std.proofs.Common.{ap}
use Rattle.blocks.proofs.Laws.Types.{past_end}
use Rattle.blocks.proofs.types.process_type.Goals as goal

pub returns-then-s-at : goal.returns-then-s-at
unfolding said
returns-then-s-at c = past_end _ _ _ _ c.if-s-at.true (ap refusal c.refused_block.ensures)
