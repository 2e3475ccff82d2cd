-- A child walk that would never end.
use Rattle.std.specs.Prelude.{ℕ, ◌<◌, ◌≡◌}
use Rattle.tables.specs.Table.{Rows}
use Rattle.links.specs.Walk.{walked}
use Rattle.links.specs.Links.{next_row, sibling_row}

-- after any number of turns the child walk of row i stands at a row, and not at row i's sibling, where it would stop
abbrev pub NeverEnds : Rows → ℕ → Type 0
NeverEnds t i =
    (k : ℕ) → let here : ℕ = walked (sibling_row t) (next_row t.rows t.count i) k in (here < t.count) × (here ≡ sibling_row t i → ⊥)
