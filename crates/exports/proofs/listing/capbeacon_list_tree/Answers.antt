use Rattle.exports.proofs.Laws.Crossing.{tree-crosses}
use Rattle.exports.proofs.listing.capbeacon_list_tree.Goals as goal

pub returns : goal.returns
returns c = tree-crosses _ c.settings_from-settings.ensures _ _ _ _ _ c.counts_from.ensures _ c.list_tree.ensures c.tree_told-told.ensures
