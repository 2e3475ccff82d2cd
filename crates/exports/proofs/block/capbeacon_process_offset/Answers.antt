use Rattle.exports.proofs.Laws.Crossing.{offset-crosses}
use Rattle.exports.proofs.block.capbeacon_process_offset.Goals as goal

pub returns : goal.returns
returns c = offset-crosses _ c.endian_from.ensures _ c.process_offset.ensures c.offset_told-told.ensures
