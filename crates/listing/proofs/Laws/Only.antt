-- No second answer fits: of any two results that meet a public function's contract for the same arguments, and what they leave in lent memory, the one is the
-- other. Written and held against the source by .ci/promises.
use Rattle.lent.specs.OneAnswer.{OneAnswer, OneRoom}
use Rattle.listing.proofs.report as report

-- `report::report_input`
pub only-report-input : OneAnswer report.report_input.Kinds.ps report.report_input.Kinds.r report.report_input.Reads.Post
only-report-input κs a z z' e e' p q = cc

pub only-report-input-page : OneRoom report.report_input.Kinds.ps report.report_input.Kinds.r (λ κs e. e.1.1.0.now) report.report_input.Reads.Post
only-report-input-page κs a z z' e e' p q = cc
