use Rattle.format.specs.Said.{said_counted}
use Rattle.listing.proofs.Laws.Report.{case-printed, error-printed}
use Rattle.listing.specs.Report.{answer_text}
use mathlib.Core.Path.{ap}
use Rattle.listing.proofs.report.report_places.Goals as goal

pub write_listing-requires : goal.write_listing-requires
unfolding said_counted
write_listing-requires c = c.requires.few _ (ap said_counted c.in-Ok.is)

pub returns-in-Ok : goal.returns-in-Ok
unfolding said_counted answer_text
returns-in-Ok c = case-printed said_counted _ c.in-Ok.is c.write_listing.ensures

pub returns-in-Err-Refused : goal.returns-in-Err-Refused
unfolding said_counted answer_text
returns-in-Err-Refused c = error-printed said_counted _ c.in-Err-Refused.is (rw c.in-Err-Refused.is at c.in-Err-Refused.field-0-is) c.report_refusal.ensures

pub returns-in-Err-Room : goal.returns-in-Err-Room
unfolding said_counted answer_text
returns-in-Err-Room c = error-printed said_counted _ c.in-Err-Room.is (rw c.in-Err-Room.is at c.in-Err-Room.field-0-is) c.report_room.ensures
