use Rattle.sizes.proofs.Laws.Kept.{sibling-kept, sibling-there}
use native.Mathlib.Omega.{arith}
use Rattle.sizes.proofs.kept.kept_sibling.Goals as goal

pub sibling_row-requires : goal.sibling_row-requires
sibling_row-requires c = record { rising = c.requires.0.table.rising; there = c.requires.0.there }

pub returns-in-Ok : goal.returns-in-Ok
returns-in-Ok c = sibling-kept c.requires.1 _ c.requires.0.there (omega arith) c.noted_at.ensures c.in-Ok.is

pub returns-in-Err : goal.returns-in-Err
returns-in-Err c = sibling-there c.requires.1 _ c.requires.0.there (omega arith) c.noted_at.ensures c.in-Err.is
