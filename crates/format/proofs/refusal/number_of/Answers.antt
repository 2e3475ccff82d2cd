use Rattle.format.specs.Refusal.{number_of}
use mathlib.Core.Path.{sym, ap}
use Rattle.format.proofs.refusal.number_of.Goals as goal

pub returns-in-Nested : goal.returns-in-Nested
unfolding number_of
returns-in-Nested c = sym (ap (number_of) c.in-Nested.is)

pub returns-in-Missing : goal.returns-in-Missing
unfolding number_of
returns-in-Missing c = sym (ap (number_of) c.in-Missing.is)
