use Rattle.listing.specs.Report.{row_room, attr_room}
use Rattle.listing.proofs.Laws.Report.{few-read, section-reported}
use borrow.Author.Rules.{rules}
use Rattle.listing.proofs.report.report.Goals as goal

pub report_answer-requires : goal.report_answer-requires
report_answer-requires c = few-read _ _ _ _ _ (search rules) c.read_tables-answer.ensures

pub returns : goal.returns
unfolding row_room attr_room
returns c = section-reported _ c.read_tables-answer.ensures c.report_answer.ensures
