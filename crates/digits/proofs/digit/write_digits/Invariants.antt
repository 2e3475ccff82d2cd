use lib.Seq.{sets}
use Rattle.digits.specs.Digits.{digits}
use mathlib.Core.Path.{◌≡◌}
use Rattle.digits.proofs.digit.write_digits.Given as goal

abbrev pub invariant-loop-i : goal.invariant-loop-i
invariant-loop-i l = sets l.rest 0 (digits l.base l.i l.left) ≡ sets l.initial.rest 0 (digits l.base l.w l.v)
