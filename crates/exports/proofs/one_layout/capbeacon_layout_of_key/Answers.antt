use Rattle.exports.proofs.Laws.Crossing.{layout-crosses}
use Rattle.exports.proofs.one_layout.capbeacon_layout_of_key.Goals as goal

pub returns : goal.returns
returns c = layout-crosses _ c.settings_from-settings.ensures _ _ _ _ _ c.counts_from.ensures _ _ c.layout_of_key.ensures c.layout_told-told.ensures
