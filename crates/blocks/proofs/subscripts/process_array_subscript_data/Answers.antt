use Rattle.blocks.proofs.Laws.Subscripts.{all_read, no_room, read-refused}
use Rattle.blocks.proofs.subscripts.process_array_subscript_data.Goals as goal

pub returns-in_err-array : goal.returns-in_err-array
returns-in_err-array c = read-refused _ _ _ c.count_subscripts.ensures _ c.in_err-array.was c.from_residual.ensures.1

pub returns-then-array-dims : goal.returns-then-array-dims
returns-then-array-dims c = no_room _ _ _ c.count_subscripts.ensures c.in_ok-array.was c.if-array-dims.true

pub returns : goal.returns
returns c = all_read _ _ _ c.count_subscripts.ensures c.in_ok-array.was c.if-array-dims.false c.walk_subscripts.ensures
