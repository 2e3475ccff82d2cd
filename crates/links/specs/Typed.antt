-- The typed lookups (document 01, 'Links'; the Rust's `impl Tag`): 1, 2, 3; 11 for a key without a row; then the row's first attribute of a kind.
use Rattle.std.specs.Prelude.{Option, Some, None, ℕ, cond, List, []}
use Rattle.tables.specs.Table.{Table}
use Rattle.numbers.specs.declared.Endian.{Endian}
use Rattle.format.specs.FormKind.{is_form}
use Rattle.format.specs.Said.{Said, gives, refuses, ◌>>=◌}
use Rattle.format.specs.declared.form_kind.FormKind.{FormKind}
use Rattle.format.specs.declared.form_kind.FormKind.TheVariants.{Addr, Ref, Block2, Block4, Data2, Data4, Data8, String, Undefined}
use Rattle.attributes.specs.Decode.{address_at, reference_at, data2_at, data4_at}
use Rattle.attributes.specs.Parts.{part_at, block_lies, text_lies}
use Rattle.attributes.specs.declared.decode.Endians.{Endians}
use Rattle.attributes.specs.declared.decode.Extent.{Extent}
use Rattle.tables.specs.Row.{attr_at, ends_of}
use Rattle.tables.specs.declared.row.Attr.{Attr}
use Rattle.tables.specs.Keyed.{row_of}
use Rattle.links.specs.Attribute.{attribute_of}
use Rattle.links.specs.declared.lookup.Wanted.{Wanted}
use Rattle.links.specs.declared.lookup.Wanted.TheVariants as wanted
use Rattle.links.specs.declared.typed.Spot.{Spot}

-- the attribute that was found
unfoldable pub attr_found : List ℕ → Option ℕ → Option Attr
attr_found attrs (Some k) = Some (attr_at attrs k)
attr_found attrs None = None

-- the first that is wanted in the row of a key
unfoldable pub attribute_of_key : Table → ℕ → Wanted → Said (Option Attr)
attribute_of_key t key w = do
  i ← row_of t key
  gives (attr_found t.attrs (attribute_of t.rows t.attrs i w))

-- ---- where a value of a form stands

-- the place of its value, with the endiannesses
unfoldable pub spot_found : Endians → List ℕ → Option ℕ → Option Spot
spot_found ends attrs (Some k) = Some (record { at = (attr_at attrs k).value; ends = ends })
spot_found ends attrs None = None

-- the value of row i's first attribute of this number
unfoldable pub spot_at : Endian → List ℕ → List ℕ → ℕ → ℕ → Option Spot
spot_at e rows attrs number i = spot_found (ends_of e rows i) attrs (attribute_of rows attrs i (wanted.Number number))

-- the same, if it has this form
unfoldable pub spot_in : Endian → List ℕ → List ℕ → ℕ → FormKind → ℕ → Option Spot
spot_in e rows attrs number form i = cond (is_form form number) (spot_at e rows attrs number i) None

-- the same in the row of a key
unfoldable pub place_of_key : Table → ℕ → ℕ → FormKind → Said (Option Spot)
place_of_key t key number form = do
  i ← row_of t key
  gives (spot_in t.settings.endian t.rows t.attrs number form i)

-- ---- numbers

-- the number at a spot, by its form; in a table that was tested the bytes are there
unfoldable pub word_at : FormKind → List ℕ → Spot → Option ℕ
word_at Addr s spot = address_at spot.ends s spot.at
word_at Ref s spot = reference_at spot.ends s spot.at
word_at Data2 s spot = data2_at spot.ends s spot.at
word_at Data4 s spot = data4_at spot.ends s spot.at
word_at Block2 s spot = None
word_at Block4 s spot = None
word_at Data8 s spot = None
word_at String s spot = None
word_at Undefined s spot = None

-- the same, if there is a spot
unfoldable pub word_of_place : FormKind → List ℕ → Option Spot → Option ℕ
word_of_place form s (Some spot) = word_at form s spot
word_of_place form s None = None

-- what the first attribute of this number in the row of a key says, if it has this form
unfoldable pub value_of_key : Table → ℕ → ℕ → FormKind → Said (Option ℕ)
value_of_key t key number form = do
  spot ← place_of_key t key number form
  gives (word_of_place form t.section spot)

-- ---- parts of the section

-- where the text or block at a spot lies, its place and length, by its form; a value of another form is none. In a table that was tested no value is cut
unfoldable pub lies_at : FormKind → List ℕ → Spot → Option Extent
lies_at String s spot = text_lies s spot.at
lies_at Block2 s spot = block_lies spot.ends.«data» 2 s spot.at
lies_at Block4 s spot = block_lies spot.ends.«data» 4 s spot.at
lies_at Addr s spot = None
lies_at Ref s spot = None
lies_at Data2 s spot = None
lies_at Data4 s spot = None
lies_at Data8 s spot = None
lies_at Undefined s spot = None

-- the same, if there is a spot
unfoldable pub extent_of_place : FormKind → List ℕ → Option Spot → Option Extent
extent_of_place form s (Some spot) = lies_at form s spot
extent_of_place form s None = None

-- place and length of what the first attribute of this number in the row of a key says, if it has this form
unfoldable pub extent_of_key : Table → ℕ → ℕ → FormKind → Said (Option Extent)
extent_of_key t key number form = do
  spot ← place_of_key t key number form
  gives (extent_of_place form t.section spot)

-- that part of the section; nothing where none is told
unfoldable pub part_of : List ℕ → Said (Option Extent) → List ℕ
part_of s (gives (Some x)) = part_at s x.place x.length
part_of s (gives None) = []
part_of s (refuses number place counts) = []

-- a block has a 2-byte length where the number says so, else a 4-byte one
unfoldable pub block_form : ℕ → FormKind
block_form number = cond (is_form Block2 number) Block2 Block4
