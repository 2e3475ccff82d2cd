use Rattle.links.proofs.Laws.Attribute.{attr-wanted, attr-unwanted, attr-none}
use mathlib.Core.Path.{◌∙◌}
use Rattle.links.proofs.lookup.first_attribute.Goals as goal

pub returns-then-is_wanted : goal.returns-then-is_wanted
returns-then-is_wanted c = attr-wanted _ _ _ _ _ c.loop-k-test.true c.attr_at-attr.ensures c.is_wanted.ensures c.if-is_wanted.true ∙ c.loop-k.invariant

pub loop-k-preserved : goal.loop-k-preserved
loop-k-preserved c = attr-unwanted _ _ _ _ _ c.loop-k-test.true c.attr_at-attr.ensures c.is_wanted.ensures c.if-is_wanted.false ∙ c.loop-k.invariant

pub returns : goal.returns
returns c = attr-none _ _ _ _ _ c.loop-k-test.false ∙ c.loop-k.invariant
