use Rattle.links.proofs.Laws.Link.{next-asked, next_here, next-passed, next-none}
use mathlib.Core.Path.{◌∙◌}
use Rattle.links.proofs.link.next_from.Goals as goal

pub returns-then-asking : goal.returns-then-asking
returns-then-asking c = next-asked _ _ _ _ c.loop-j-test.true c.if-asking.true ∙ c.loop-j.invariant

pub returns-then-not-is_erased : goal.returns-then-not-is_erased
returns-then-not-is_erased c =
    next_here _ _ _ _ c.loop-j-test.true c.if-asking.false c.row_at-row.ensures c.is_erased.ensures c.if-not-is_erased.true ∙ c.loop-j.invariant

pub loop-j-preserved : goal.loop-j-preserved
loop-j-preserved c =
    next-passed _ _ _ _ c.loop-j-test.true c.if-asking.false c.row_at-row.ensures c.is_erased.ensures c.if-not-is_erased.false ∙ c.loop-j.invariant

pub returns : goal.returns
returns c = next-none _ _ _ _ c.loop-j-test.false (c.loop-j.auto.j-end c.requires) ∙ c.loop-j.invariant
