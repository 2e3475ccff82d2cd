use Rattle.exports.proofs.Laws.Crossing.{layouts-cross}
use Rattle.exports.proofs.all_layouts.capbeacon_all_layouts.Goals as goal

pub returns : goal.returns
returns c = layouts-cross _ c.settings_from-settings.ensures _ _ _ _ _ c.counts_from.ensures _ _ c.all_layouts.ensures c.layouts_told-told.ensures
