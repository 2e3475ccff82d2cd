-- What the rows of a table that was read keep to.
use Rattle.std.specs.Prelude.{ℕ, ◌+◌, ◌≤◌, ◌≡◌, true, List, [], ◌∷◌, length}
use Rattle.std.proofs.lemmas.List.Edits.{sets}
use Rattle.lent.specs.Outcome.{Outcomes}
use Rattle.format.specs.Said.{Said, gives}
use Rattle.format.specs.declared.settings.Settings.{Settings}
use Rattle.tables.specs.Row.{rows_words, attrs_words, rows_from, attrs_from}
use Rattle.tables.specs.Unit.{with_units}
use Rattle.tables.specs.Holds.{fitting}
use Rattle.tables.specs.declared.row.Row.{Row}
use Rattle.tables.specs.declared.row.Attr.{Attr}
use Rattle.tables.specs.declared.row.Counts.{Counts}
use Rattle.entries.specs.Walk.{entries}
use Rattle.entries.specs.Section.{whole_walk, counts}

-- ---- keys

-- keys from `least` on, each 4 or more above the one before, and each with four bytes before `top`
abbrev pub KeysRise : ℕ → ℕ → List Row → Type 0
KeysRise top least [] = Unit
KeysRise top least (r ∷ rs) = (least ≤ r.key) × (r.key + 4 ≤ top) × KeysRise top (r.key + 4) rs

-- ---- the answer

-- the tables were filled with what the walk gave: it is counted, stored from the first word on, its rows with their units, and read back
pub record TableFilled (settings : Settings) (vendors s rows attrs : List ℕ) (c : Counts) (o : Outcomes (Said Counts) ℕ ℕ) : Type 0 where
  pub rs : List Row
  pub xs : List Attr
  pub place : ℕ
  pub whole : whole_walk settings vendors s ≡ gives (entries rs xs place)
  pub counted : c ≡ counts (length rs) (length xs)
  pub fits : fitting c (length rows) (length attrs) ≡ true
  pub rows_stored : o.first ≡ sets rows 0 (rows_words (with_units rs))
  pub attrs_stored : o.second ≡ sets attrs 0 (attrs_words xs)
  pub rows_held : rows_from o.first 0 (length rs) ≡ with_units rs
  pub attrs_held : attrs_from o.second 0 (length xs) ≡ xs
