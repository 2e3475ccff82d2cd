use Rattle.listing.specs.Report.{place_room}
use Rattle.listing.proofs.Laws.Report.{few-listed, tree-printed}
use Rattle.listing.proofs.report.report_tree.Goals as goal

pub report_places-requires : goal.report_places-requires
report_places-requires c = few-listed _ _ _ _ _ _ c.requires c.read_places-answer.ensures

pub returns : goal.returns
unfolding place_room
returns c = tree-printed _ _ _ _ c.read_places-answer.ensures c.report_places.ensures
