use Rattle.blocks.proofs.Laws.Modifiers.{modifiers_from}
use Rattle.blocks.specs.Modifiers.{process_modifiers}
use Rattle.std.proofs.Common.{◌≡◌, drop}
use Rattle.blocks.proofs.modifiers.process_modifiers.Given as goal

abbrev pub invariant-loop-byte : goal.invariant-loop-byte
invariant-loop-byte l = modifiers_from l.pointer (drop l.byte-index l.block) ≡ process_modifiers l.block
