-- The end of a row's reach: everything about ends goes through this one definition.
use Rattle.std.specs.Prelude.{Option, Some, None, ℕ, suc, cond, List, length, ltb, eqb}
use Rattle.tables.specs.Table.{Rows}
use Rattle.tables.specs.Find.{row_of_key}
use Rattle.links.specs.Attribute.{sibling_number, reference_of}

-- a later row, or 0
unfoldable pub later_row : ℕ → Option ℕ → ℕ
later_row i (Some j) = cond (ltb i j) j 0
later_row i None = 0

-- row i's reach ends after it without a reference, after the last row where the reference names the section's end, else at the row it names, which
-- must be a later one: 0 is a bad reference
unfoldable pub reach_by : List ℕ → List ℕ → ℕ → ℕ → Option ℕ → ℕ
reach_by s rows n i (Some key) = cond (eqb key (length s)) n (later_row i (row_of_key rows n key))
reach_by s rows n i None = suc i

-- the end of row i's reach, by its sibling reference
unfoldable pub reach_end : Rows → ℕ → ℕ
reach_end t i = reach_by t.section t.rows t.count i (reference_of t.endian t.section t.rows t.attrs i sibling_number)
