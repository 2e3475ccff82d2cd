use Rattle.links.proofs.Laws.Children.{given-listed, given-unfit, given-never}
use Rattle.links.proofs.children.give.Goals as goal

pub returns-in_default : goal.returns-in_default
returns-in_default c = given-never _ _ _ _ c.count_children.ensures c.in_default.is

pub returns-then-k-room : goal.returns-then-k-room
returns-then-k-room c = given-listed _ _ _ _ c.count_children.ensures c.in-Some.is c.if-k-room.true c.gather.ensures

pub returns-else-k-room : goal.returns-else-k-room
returns-else-k-room c = given-unfit _ _ _ _ c.count_children.ensures c.in-Some.is c.if-k-room.false
