use Rattle.std.proofs.Common.{sym, ℕ}
use Rattle.std.proofs.Math.ListN.{length-replicate}
use Rattle.layouts.proofs.rooms.section_room.Goals as goal

pub returns : goal.returns
returns c = sym (length-replicate {A = ℕ} 1048576 0)
