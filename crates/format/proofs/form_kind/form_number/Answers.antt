use Rattle.format.specs.FormKind.{form_number}
use mathlib.Core.Path.{sym, ap}
use Rattle.format.proofs.form_kind.form_number.Goals as goal

pub returns-in-Data2 : goal.returns-in-Data2
unfolding form_number
returns-in-Data2 c = ap form_number (sym c.in-Data2.is)
