use Rattle.format.specs.Settings.{vendors_hold}
use Prim.Native.Nat.{◌≤◌}
use mathlib.Core.Path.{◌≡◌}
use lib.ListN.{drop}
use Rattle.format.proofs.settings.vendors_hold.Given as goal

abbrev pub invariant-loop-n : goal.invariant-loop-n
invariant-loop-n l = (l.least ≤ 65536) × (vendors_hold l.least (drop l.n-index l.vendors) ≡ vendors_hold 0 l.vendors)
