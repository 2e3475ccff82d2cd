-- Which unit a row belongs to (document 02, K7): the nearest row of kind CompileUnit at or before it, by the order of rows, erased ones too.
use Rattle.std.specs.Prelude.{ℕ, zero, suc, ◌≤◌, ◌<◌, ◌≡◌, Bool, true, cond, ◌&&◌, List, [], ◌∷◌, eqb}
use Rattle.format.specs.TagKind as tag
use Rattle.tables.specs.Row.{row_at}
use Rattle.tables.specs.declared.row.Row.{Row}

-- the mark for none
abbrev pub no_unit : ℕ
no_unit = 0xffffffff

-- ---- what the field shall hold

-- a row of kind CompileUnit
abbrev pub UnitRow : List ℕ → ℕ → Type 0
UnitRow rows i = (row_at rows i).kind ≡ tag.compile_unit

-- the unit of row i: the key of the last row of kind CompileUnit among rows 0 to i; the mark where none of them is such a row
pub data UnitIs (rows : List ℕ) (i : ℕ) : ℕ → Type 0 where
  last : (j : ℕ) → j ≤ i → UnitRow rows j → ((k : ℕ) → j < k → k ≤ i → UnitRow rows k → ⊥) → UnitIs rows i (row_at rows j).key
  none : ((k : ℕ) → k ≤ i → UnitRow rows k → ⊥) → UnitIs rows i no_unit

-- ---- units, row by row

-- a row's unit, given that of the row before it: a row of kind CompileUnit is its own
unfoldable pub unit_of : ℕ → Row → ℕ
unit_of before r = cond (eqb r.kind tag.compile_unit) r.key before

-- a row with its unit
unfoldable pub in_unit : ℕ → Row → Row
in_unit unit r = record { key = r.key; kind = r.kind; flags = r.flags; first = r.first; count = r.count; unit = unit }

-- rows with their units, given that of the row before them
unfoldable pub units_from : ℕ → List Row → List Row
units_from before [] = []
units_from before (r ∷ rs) = in_unit (unit_of before r) r ∷ units_from (unit_of before r) rs

-- the rows of a table with their units
abbrev pub with_units : List Row → List Row
with_units rs = units_from no_unit rs

-- n rows of a table from i on have their units, given that of the row before them
unfoldable pub units_hold : List ℕ → ℕ → ℕ → ℕ → Bool
units_hold rows i zero before = true
units_hold rows i (suc n) before =
    eqb (row_at rows i).unit (unit_of before (row_at rows i)) && units_hold rows (suc i) n (unit_of before (row_at rows i))
