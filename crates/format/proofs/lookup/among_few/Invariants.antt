use Rattle.format.specs.Lookup.{is_on}
use mathlib.Core.Bool.{◌||◌}
use mathlib.Core.Path.{◌≡◌}
use lib.ListN.{drop}
use Rattle.format.proofs.lookup.among_few.Given as goal

abbrev pub invariant-loop-n : goal.invariant-loop-n
invariant-loop-n l = (l.found || is_on l.x (drop l.n-index l.list)) ≡ is_on l.x l.list
