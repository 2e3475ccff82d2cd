-- Attribute lookup, and where a row's references lead (document 01, 'Links'; the Rust's `impl Tag`). The first attribute of a kind counts.
use Rattle.std.specs.Prelude.{Option, Some, None, ℕ, zero, suc, Bool, cond, ◌||◌, List, eqb}
use Rattle.format.specs.AttributeKind as attribute
use Rattle.numbers.specs.Value.{read_at}
use Rattle.numbers.specs.declared.Endian.{Endian}
use Rattle.tables.specs.Row.{row_at, attr_at}
use Rattle.links.specs.declared.lookup.Wanted.{Wanted}
use Rattle.links.specs.declared.lookup.Wanted.TheVariants as wanted

-- the number of the attribute that refers to a row's sibling
abbrev pub sibling_number : ℕ
sibling_number = attribute.sibling

-- an attribute of this number is wanted: a given one, or any of the four type attributes
unfoldable pub wants : Wanted → ℕ → Bool
wants (wanted.Number number) m = eqb m number
wants wanted.Type m = ((eqb m attribute.fund_type || eqb m attribute.mod_fund_type) || eqb m attribute.user_def_type) || eqb m attribute.mod_ud_type

-- the first of n attributes from i on that is wanted
unfoldable pub attr_from : Wanted → List ℕ → ℕ → ℕ → Option ℕ
attr_from w attrs i zero = None
attr_from w attrs i (suc n) = cond (wants w (attr_at attrs i).number) (Some i) (attr_from w attrs (suc i) n)

-- the first of row i's
unfoldable pub attribute_of : List ℕ → List ℕ → ℕ → Wanted → Option ℕ
attribute_of rows attrs i w = attr_from w attrs (row_at rows i).first (row_at rows i).count

-- the reference that an attribute of the table says: four bytes in section endianness; in a table that was tested they are there
unfoldable pub reference_by : Endian → List ℕ → List ℕ → Option ℕ → Option ℕ
reference_by e s attrs (Some k) = read_at Some None e 4 s (attr_at attrs k).value
reference_by e s attrs None = None

-- the key that row i's first attribute of this number refers to
unfoldable pub reference_of : Endian → List ℕ → List ℕ → List ℕ → ℕ → ℕ → Option ℕ
reference_of e s rows attrs i number = reference_by e s attrs (attribute_of rows attrs i (wanted.Number number))
