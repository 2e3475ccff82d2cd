-- A question ends behind its place.
use Rattle.std.proofs.Common.{length, ◌-◌}
use Rattle.examples.proofs.questions.ask_all.Given as goal

abbrev pub decreases-loop-at : goal.decreases-loop-at
decreases-loop-at g l = length l.packet - l.at
