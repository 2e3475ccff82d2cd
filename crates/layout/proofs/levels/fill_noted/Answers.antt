use Rattle.layout.proofs.Laws.Levels.{levelling-begins, levelling-on, levelling-settled, levelling-all}
use borrow.Author.Rules.{rules}
use mathlib.Core.Path.{refl}
use Rattle.layout.proofs.levels.fill_noted.Goals as goal

pub loop-level-init : goal.loop-level-init
loop-level-init c = levelling-begins _ _ _ _ _ _ c.requires.0.ready c.requires.1.0.fits c.last_level.ensures refl

pub returns-then-take_over : goal.returns-then-take_over
returns-then-take_over c = levelling-settled c.loop-level.invariant c.next_level-all.ensures c.take_over.ensures c.if-take_over.true

pub returns-then-all : goal.returns-then-all
returns-then-all c = levelling-all c.loop-level.invariant c.next_level-all.ensures c.take_over.ensures c.loop-level-test.true c.if-all.true

pub loop-level-preserved : goal.loop-level-preserved
loop-level-preserved c = levelling-on c.loop-level.invariant c.next_level-all.ensures c.take_over.ensures c.loop-level-test.true (search rules)
