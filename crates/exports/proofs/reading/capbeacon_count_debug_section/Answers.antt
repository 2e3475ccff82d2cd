use Rattle.exports.proofs.Laws.Crossing.{count-crosses}
use Rattle.exports.proofs.reading.capbeacon_count_debug_section.Goals as goal

pub returns : goal.returns
returns c = count-crosses _ c.settings_from-settings.ensures _ _ _ c.count_debug_section.ensures c.count_told-counted.ensures
