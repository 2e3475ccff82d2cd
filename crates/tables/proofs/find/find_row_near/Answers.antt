use Rattle.tables.proofs.Laws.Find.{between-all, between-upper, between_lower, row_near}
use native.Mathlib.Omega.{arith}
use Rattle.tables.proofs.find.find_row_near.Goals as goal

pub returns-then-there-key : goal.returns-then-there-key
returns-then-there-key c = row_near c.requires.0 c.if-next-n.false c.get_or-there.ensures c.if-there-key.true

pub first_after-after-requires : goal.first_after-after-requires
first_after-after-requires c =
    (c.requires.0, between-upper c.requires.0 (between-all _ _ _) _ (omega arith) (omega arith) c.get_or-there.ensures c.if-there-key-2.true)

pub first_between-before-requires : goal.first_between-before-requires
first_between-before-requires c =
    (c.requires.0, between_lower c.requires.0 (between-all _ _ _) _ (omega arith) (omega arith) c.get_or-there.ensures c.if-there-key-2.false)
