-- Next row, sibling, children (document 01, 'Links'). A row is its number in the table; a row that is not there is the count of rows.
use Rattle.std.specs.Prelude.{Option, Some, None, ℕ, zero, suc, ◌-◌, Bool, cond, not, ◌||◌, List, [], ◌∷◌, eqb}
use Rattle.format.specs.TagKind as tag
use Rattle.tables.specs.Table.{Rows}
use Rattle.tables.specs.Row.{row_at, erased_row}
use Rattle.tables.specs.Find.{row_of_key}
use Rattle.links.specs.Attribute.{sibling_number, reference_of}
use Rattle.links.specs.Walk.{Walk, walk_from}

-- the first of k rows from i on that is not passed over: an erased row is, unless the asking row is erased; i + k where there is none
unfoldable pub next_from : List ℕ → Bool → ℕ → ℕ → ℕ
next_from rows asking i zero = i
next_from rows asking i (suc k) = cond (asking || not (erased_row (row_at rows i).flags)) i (next_from rows asking (suc i) k)

-- the row after row i
unfoldable pub next_row : List ℕ → ℕ → ℕ → ℕ
next_row rows n i = next_from rows (erased_row (row_at rows i).flags) (suc i) (n - suc i)

-- a row that was looked for, n where there is none
unfoldable pub row_number : ℕ → Option ℕ → ℕ
row_number n (Some j) = j
row_number n None = n

-- the row that a reference names; without a reference, the row after row i
unfoldable pub sibling_by : List ℕ → ℕ → ℕ → Option ℕ → ℕ
sibling_by rows n i (Some key) = row_number n (row_of_key rows n key)
sibling_by rows n i None = next_row rows n i

-- row i's sibling
unfoldable pub sibling_row : Rows → ℕ → ℕ
sibling_row t i = sibling_by t.rows t.count i (reference_of t.endian t.section t.rows t.attrs i sibling_number)

-- the rows that the child walk of row i meets: from the row after it, sibling by sibling, up to its own sibling
unfoldable pub child_walk : Rows → ℕ → Walk
child_walk t i = walk_from t.count (λ c. sibling_row t c) (sibling_row t i) t.count (next_row t.rows t.count i)

-- row c is a null entry
unfoldable pub null_row : List ℕ → ℕ → Bool
null_row rows c = eqb (row_at rows c).kind tag.padding

-- null entries are left out
unfoldable pub non_null : List ℕ → List ℕ → List ℕ
non_null rows [] = []
non_null rows (c ∷ cs) = cond (null_row rows c) (non_null rows cs) (c ∷ non_null rows cs)
