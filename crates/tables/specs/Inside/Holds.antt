-- A row's own words, which the code tests before its attributes.
use Rattle.std.specs.Prelude.{ℕ, Bool, ◌&&◌, List, length, leb, ltb}
use Rattle.format.specs.Lookup.{is_on}
use Rattle.format.specs.TagKind.{tags}
use Rattle.tables.specs.declared.row.Row.{Row}

-- ---- one row

-- the first tests of a row, which look at no attribute
unfoldable pub head_holds : List ℕ → ℕ → Row → Bool
head_holds s least r = leb least r.key && ltb r.key (length s) && is_on r.kind tags && leb r.flags 7
