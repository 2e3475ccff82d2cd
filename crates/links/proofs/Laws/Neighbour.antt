-- For each way that the code comes to a neighbour.
use Rattle.std.specs.Prelude.{Option}
use Rattle.format.specs.Said.{gives}
use Prim.Native.Nat.{ℕ}
use mathlib.Core.Path.{◌≡◌, ap, ◌∙◌}
use Rattle.links.specs.Neighbour.{row_or_none}

-- the row is the one that was asked for
pub answered : (n : ℕ) {j k : ℕ} {r : Option ℕ} → r ≡ row_or_none n j → j ≡ k → gives r ≡ gives (row_or_none n k)
answered n h p = ap gives h ∙ ap (λ (x : ℕ). gives (row_or_none n x)) p
