use Rattle.tree.proofs.Laws.Tree.{erased-here, erased-not, erased-none}
use mathlib.Core.Path.{◌∙◌}
use Rattle.tree.proofs.listing.first_erased.Goals as goal

pub returns-then-is_erased : goal.returns-then-is_erased
returns-then-is_erased c = erased-here _ _ _ c.loop-i-test.true c.row_at-row.ensures c.is_erased.ensures c.if-is_erased.true ∙ c.loop-i.invariant

pub loop-i-preserved : goal.loop-i-preserved
loop-i-preserved c = erased-not _ _ _ c.loop-i-test.true c.row_at-row.ensures c.is_erased.ensures c.if-is_erased.false ∙ c.loop-i.invariant

pub returns : goal.returns
returns c = erased-none _ _ _ c.loop-i-test.false c.loop-i.auto.i-end ∙ c.loop-i.invariant
