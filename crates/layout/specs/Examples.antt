-- Document 01's input A, computed from its bytes and the table that reading fills: the size and the layout of its structure.
use Rattle.std.specs.Prelude.{ℕ, List, [], ◌∷◌}
use Rattle.tables.specs.Unit.{no_unit}
use Rattle.tables.specs.declared.row.Counts.{Counts}

-- its rows, in no unit, and its attributes as the words of a table
abbrev pub rows_a : List ℕ
rows_a =
    0x00 ∷ 0x13 ∷ 0 ∷ 0 ∷ 2 ∷ no_unit ∷ 0x12 ∷ 0x0D ∷ 0 ∷ 2 ∷ 2 ∷ no_unit ∷ 0x26 ∷ 0 ∷ 0 ∷ 4 ∷ 0 ∷ no_unit ∷ []

-- its attributes
abbrev pub attrs_a : List ℕ
attrs_a = 0x12 ∷ 8 ∷ 0xB6 ∷ 14 ∷ 0x55 ∷ 26 ∷ 0x23 ∷ 30 ∷ []

-- the sizes of the fundamental types, in their order
abbrev pub sizes_a : List ℕ
sizes_a =
    2 ∷ 1 ∷ 1 ∷ 1 ∷ 2 ∷ 2 ∷ 2 ∷ 4 ∷ 4 ∷ 4 ∷ 4 ∷ 4 ∷ 4 ∷ 4 ∷ 4 ∷ 8 ∷ 0 ∷ 0 ∷ 0 ∷ 0 ∷ 1 ∷ 0 ∷ 0 ∷ 8 ∷ 8 ∷ 8 ∷ 16 ∷ 8 ∷ []

-- how many of each
abbrev pub counts_a : Counts
counts_a = record { rows = 3; attrs = 4 }
