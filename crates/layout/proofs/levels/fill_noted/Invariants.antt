use Rattle.layout.specs.Inside.Levels.{deepest}
use Rattle.layout.proofs.Laws.Levels.{Levelling}
use Rattle.layout.proofs.levels.fill_noted.Given as goal

abbrev pub invariant-loop-level : goal.invariant-loop-level
invariant-loop-level l = Levelling l.t.settings l.t.sizes.now l.t.section.now l.t.rows.now l.t.attrs.now l.t.counts.rows l.initial.noted l.initial.next l.noted l.next l._level
