use Rattle.exports.proofs.Laws.Crossing.{read-crosses}
use Rattle.exports.proofs.reading.capbeacon_read_debug_section.Goals as goal

pub returns : goal.returns
returns c = read-crosses _ c.settings_from-settings.ensures _ _ _ _ _ c.read_debug_section.ensures c.section_told-told.ensures
