use Rattle.listing.proofs.Laws.Report.{case-printed, error-printed}
use Rattle.listing.specs.Report.{answer_text}
use Rattle.entries.specs.Section.{said_section}
use mathlib.Core.Path.{ap}
use Rattle.listing.proofs.report.report_answer.Goals as goal

pub report_tree-requires : goal.report_tree-requires
unfolding said_section
report_tree-requires c = c.requires.few _ (ap said_section c.in-Ok.is)

pub returns-in-Ok : goal.returns-in-Ok
unfolding said_section answer_text
returns-in-Ok c = case-printed said_section _ c.in-Ok.is c.report_tree.ensures

pub returns-in-Err-Refused : goal.returns-in-Err-Refused
unfolding said_section answer_text
returns-in-Err-Refused c = error-printed said_section _ c.in-Err-Refused.is (rw c.in-Err-Refused.is at c.in-Err-Refused.field-0-is) c.report_refusal.ensures

pub returns-in-Err-Unread : goal.returns-in-Err-Unread
unfolding said_section answer_text
returns-in-Err-Unread c =
    error-printed said_section _ c.in-Err-Unread.is (rw c.in-Err-Unread.is at c.in-Err-Unread.field-0-is) c.report_refusal-in-Err-Unread.ensures

pub returns-in-Err-Room : goal.returns-in-Err-Room
unfolding said_section answer_text
returns-in-Err-Room c = error-printed said_section _ c.in-Err-Room.is (rw c.in-Err-Room.is at c.in-Err-Room.field-0-is) c.report_room.ensures
