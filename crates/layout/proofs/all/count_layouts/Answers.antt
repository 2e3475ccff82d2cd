use Rattle.layout.proofs.Laws.All.{counting-begins, counting-on, counting-ends, told_none, told_more, told-all}
use mathlib.Core.Path.{refl, ◌∙◌}
use Rattle.layout.proofs.all.count_layouts.Goals as goal

pub loop-i-init : goal.loop-i-init
loop-i-init c = (counting-begins c.requires.0.ready _, (told_none _ _ _ _ _ _ c.requires.0.fits, refl))

pub loop-i-preserved : goal.loop-i-preserved
loop-i-preserved c = (
  counting-on c.loop-i.invariant.0 c.loop-i-test.true c.count_row-counts.ensures.counts_are,
  (told_more _ _ _ _ _ _ c.loop-i.invariant.1.0 c.count_row-counts.ensures, c.count_row-counts.ensures.same_long ∙ c.loop-i.invariant.1.1),
)

pub returns : goal.returns
returns c = record { counts_are = counting-ends c.loop-i.invariant.0 c.loop-i-test.false; all_told = told-all _ _ _ _ _ _ c.loop-i.invariant.1.0 c.loop-i-test.false }
