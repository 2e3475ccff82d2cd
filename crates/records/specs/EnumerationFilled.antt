-- What the two rooms of an enumeration hold.
use Rattle.std.specs.Prelude.{ℕ, ◌*◌, ◌≡◌, List, length, ℤ}
use Rattle.tables.specs.Table.{Table, lent_rows}
use Rattle.lent.specs.Filled.{Filled}
use Rattle.tables.specs.Keyed.{row_of}
use Rattle.format.specs.Said.{gives}
use Rattle.records.specs.Elements.{Listed, values_of, names_of}
use Rattle.records.specs.Enumeration.{in_order, row_lists}
use Rattle.records.specs.declared.enumeration.Enumeration.{Enumeration}

module _ (t : Table) (key : ℕ) (values : List ℤ) (names : List ℕ) where
  -- the key's row i lists xs, e's members; they stand at the beginning of the rooms, in the producer's order
  pub record EnumerationFilled (e : Enumeration) (values' : List ℤ) (names' : List ℕ) (i : ℕ) (xs : List Listed) : Type 0 where
    pub row : row_of t key ≡ gives i
    pub lists : row_lists t.settings (lent_rows t.settings.endian t.section t.rows t.attrs t.counts.rows) i ≡ gives xs
    pub many : length xs ≡ e.members
    pub values_filled : Filled (values_of (in_order t.settings.producer xs)) e.members values values'
    pub names_filled : Filled (names_of (in_order t.settings.producer xs)) (e.members * 2) names names'
