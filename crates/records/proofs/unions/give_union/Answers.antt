use Rattle.records.proofs.Laws.Unions.{give-filled, give-unfit}
use Rattle.records.proofs.unions.give_union.Goals as goal

pub returns : goal.returns
returns c = give-filled _ _ _ _ _ _ _ c.union_at.ensures c.in_ok-found.was c.if-found-room.false c.read_union.ensures

pub returns-then-found-room : goal.returns-then-found-room
returns-then-found-room c = give-unfit _ _ _ _ _ _ _ c.union_at.ensures c.in_ok-found.was c.if-found-room.true
