use Rattle.exports.proofs.Laws.Crossing.{size-crosses}
use Rattle.exports.proofs.size.capbeacon_size_of_key.Goals as goal

pub returns : goal.returns
returns c = size-crosses _ c.settings_from-settings.ensures _ _ _ _ _ c.counts_from.ensures _ c.size_of_key.ensures c.size_told-told.ensures
