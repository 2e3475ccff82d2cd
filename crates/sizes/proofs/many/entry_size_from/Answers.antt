use Rattle.sizes.proofs.Laws.Size.{entry-left, entry-noted, entry-unnoted}
use Rattle.sizes.proofs.many.entry_size_from.Goals as goal

pub returns-then-noted-eq0 : goal.returns-then-noted-eq0
returns-then-noted-eq0 c = entry-left _ _ _ _ _ _ _ _ _ c.if-noted-eq0.true c.entry_size.ensures

pub returns-in-Some : goal.returns-in-Some
returns-in-Some c = entry-noted _ _ _ _ _ _ _ _ _ c.if-noted-eq0.false c.find_row.ensures c.in-Some.is c.noted_at.ensures

pub returns-in-None : goal.returns-in-None
returns-in-None c = entry-unnoted _ _ _ _ _ _ _ _ _ c.if-noted-eq0.false c.find_row.ensures c.in-None.is c.refused.ensures
