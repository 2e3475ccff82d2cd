use Rattle.listing.proofs.Laws.Report.{refusal-reported}
use borrow.Author.Rules.{rules}
use Rattle.listing.proofs.report.report_refusal.Goals as goal

pub returns : goal.returns
returns c = refusal-reported c.args.why c.number_of.ensures (search rules) c.write_refusal.ensures
