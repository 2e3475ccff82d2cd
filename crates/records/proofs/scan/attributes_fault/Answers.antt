use Rattle.format.specs.Said.{said}
use mathlib.Core.Path.{◌∙◌}
use Rattle.format.proofs.Laws.Said.{refused-here}
use Rattle.records.proofs.Laws.Scan.{all-clear, all-refused}
use Rattle.records.proofs.scan.attributes_fault.Goals as goal

pub returns : goal.returns
unfolding said
returns c = all-clear _ _ _ _ _ c.requires c.scan_from.ensures c.in_ok-scan_from.was

pub returns-in_err-scan_from : goal.returns-in_err-scan_from
unfolding said
returns-in_err-scan_from c = refused-here c.scan_from.ensures c.in_err-scan_from.was _ c.from_residual.ensures.1 ∙ all-refused _ _ _ _ _ c.requires c.scan_from.ensures c.in_err-scan_from.was
