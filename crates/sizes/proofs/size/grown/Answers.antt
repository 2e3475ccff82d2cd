use Rattle.sizes.proofs.Laws.Size.{grown-past, grown-more, grown-same}
use Rattle.sizes.proofs.size.grown.Goals as goal

pub returns-then-end-gt4294967295 : goal.returns-then-end-gt4294967295
returns-then-end-gt4294967295 c = grown-past _ _ _ _ _ c.if-end-gt4294967295.true c.row_at-row.ensures c.refused.ensures

pub returns-then-largest-end : goal.returns-then-largest-end
returns-then-largest-end c = grown-more _ _ _ _ _ c.if-end-gt4294967295.false c.if-largest-end.true

pub returns-else-largest-end : goal.returns-else-largest-end
returns-else-largest-end c = grown-same _ _ _ _ _ c.if-end-gt4294967295.false c.if-largest-end.false
