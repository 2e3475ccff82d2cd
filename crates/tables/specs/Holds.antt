-- The table test, refusal 3 (document 01's refusal numbers): exactly what makes a table that a caller lends one that can be read.
use Rattle.attributes.specs.declared.value.Unread.{Unread}
use Rattle.std.specs.Prelude.{Err, Result, Ok, ℕ, zero, suc, ◌+◌, ◌*◌, ◌≡◌, Bool, true, false, ◌&&◌, List, length, leb, ltb, eqb}
use Rattle.numbers.specs.declared.Endian.{Endian}
use Rattle.format.specs.Lookup.{is_on}
use Rattle.format.specs.TagKind.{tags}
use Rattle.format.specs.Known.{known}
use Rattle.format.specs.FormKind.{form_of}
use Rattle.format.specs.Limits.{entry_limit, attribute_limit}
use Rattle.attributes.specs.End.{value_end}
use Rattle.tables.specs.Row.{row_width, attr_width, row_at, attr_at, endian_of}
use Rattle.tables.specs.Unit.{no_unit, units_hold}
use Rattle.tables.specs.declared.row.Row.{Row}
use Rattle.tables.specs.declared.row.Attr.{Attr}
use Rattle.tables.specs.declared.row.Counts.{Counts}

-- the value ends in the section
unfoldable pub is_at : Result ℕ Unread → Bool
is_at (Ok next) = true
is_at (Err why) = false

-- so many rows and attributes are allowed, and fit tables of so many words
unfoldable pub fitting : Counts → ℕ → ℕ → Bool
fitting c lent_rows lent_attrs =
    leb c.rows entry_limit && leb (c.rows * row_width) lent_rows && leb c.attrs attribute_limit && leb (c.attrs * attr_width) lent_attrs

module _ (s vendors : List ℕ) where
  -- a known number, and a value wholly inside the section, in the row's data endianness
  unfoldable pub attr_holds : Endian → Attr → Bool
  unfolding is_at
  attr_holds e a = known vendors a.number && is_at (value_end (form_of a.number) e s a.value)

  -- n attributes of the table from `first` on
  unfoldable pub run_holds : Endian → List ℕ → ℕ → ℕ → Bool
  run_holds e attrs first zero = true
  run_holds e attrs first (suc n) = attr_holds e (attr_at attrs first) && run_holds e attrs (suc first) n

  -- a row whose key may be no lower than `least`, and whose run must begin at `run`: known kind and flags, a run inside the table
  unfoldable pub row_holds : List ℕ → ℕ → ℕ → ℕ → Row → Bool
  row_holds attrs total least run r =
      leb least r.key && ltb r.key (length s) && is_on r.kind tags && leb r.flags 7 && eqb r.first run && leb (run + r.count) total
      && run_holds (endian_of r.flags) attrs run r.count

  -- n rows of the table from i on: keys rise by 4 or more, runs are consecutive up to the last attribute
  unfoldable pub rows_hold : List ℕ → List ℕ → ℕ → ℕ → ℕ → ℕ → ℕ → Bool
  rows_hold rows attrs total i zero least run = eqb run total
  rows_hold rows attrs total i (suc n) least run =
      row_holds attrs total least run (row_at rows i) && rows_hold rows attrs total (suc i) n ((row_at rows i).key + 4) (run + (row_at rows i).count)

  -- no more rows and attributes than allowed and lent, each row holds, and each has its unit
  unfoldable pub table_holds : List ℕ → List ℕ → Counts → Bool
  table_holds rows attrs counts =
      fitting counts (length rows) (length attrs) && rows_hold rows attrs counts.attrs 0 counts.rows 0 0
      && units_hold rows 0 counts.rows no_unit

  -- what passes: the crates above take this as what they require
  pub record TableHolds (rows attrs : List ℕ) (counts : Counts) : Type 0 where
    pub holds : table_holds rows attrs counts ≡ true
