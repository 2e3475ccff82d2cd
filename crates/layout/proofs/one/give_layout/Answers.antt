use Rattle.layout.proofs.Laws.Layout.{give-laid, give-unfit, give-unlaid}
use Rattle.layout.proofs.one.give_layout.Goals as goal

pub returns-then-found-room : goal.returns-then-found-room
returns-then-found-room c = give-laid _ _ _ _ _ _ _ _ c.read_layout.ensures.answer_is c.in_ok-found.was c.if-found-room.true c.read_layout-then-found-room.ensures

pub returns-else-found-room : goal.returns-else-found-room
returns-else-found-room c = give-unfit _ _ _ _ _ _ _ _ c.read_layout.ensures.answer_is c.in_ok-found.was c.if-found-room.false

pub returns-in_err-found : goal.returns-in_err-found
returns-in_err-found c = give-unlaid _ _ _ _ _ _ _ _ c.read_layout.ensures.answer_is c.in_err-found.was _ c.from_residual.ensures.1
