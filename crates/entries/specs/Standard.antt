-- What a section that the standard wrote comes to in a table, and what the typed decoders answer there. How it is written stands in the crate
-- `standard`, which knows nothing of the reader.
use Rattle.std.specs.Prelude.{Some}
use Rattle.std.specs.Prelude.{ℕ, ◌+◌, ◌*◌, ◌%◌, ◌<◌, ◌≡◌, true, false, cond, List, [], ◌∷◌, ◌++◌, length, eqb}
use Rattle.lent.specs.Filled.{Filled}
use Rattle.numbers.specs.declared.Endian.{Endian}
use Rattle.numbers.specs.declared.Endian.TheVariants.{Big, Little}
use Rattle.standard.specs.Numbers.{OnList, attributes, tags, padding_tag, Form, ADDR, REF, BLOCK2, BLOCK4, DATA2, DATA4, DATA8, STRING, form_number}
use Rattle.standard.specs.Entries.{Value, number, bytes, Attribute, written_attribute, Die, null, padding, entry, written_die, written_dies, values_of}
use Rattle.format.specs.Limits.{section_limit}
use Rattle.format.specs.Said.{Said, gives}
use Rattle.format.specs.Settings.{settings_hold}
use Rattle.format.specs.declared.settings.Settings.{Settings}
use Rattle.attributes.specs.Decode.{address_at, reference_at, data2_at, data4_at, data8_at}
use Rattle.attributes.specs.Parts.{block_at, text_at}
use Rattle.attributes.specs.declared.decode.Endians.{Endians}
use Rattle.tables.specs.Row.{row_width, attr_width, rows_words, attrs_words}
use Rattle.tables.specs.Unit.{no_unit, with_units}
use Rattle.tables.specs.Holds.{fitting}
use Rattle.tables.specs.declared.row.Row.{Row}
use Rattle.tables.specs.declared.row.Attr.{Attr}
use Rattle.tables.specs.declared.row.Counts.{Counts}
use Rattle.entries.specs.Section.{counts}

-- ---- what is taken of the standard

-- a list without a number
unfoldable pub without : ℕ → List ℕ → List ℕ
without n [] = []
without n (x ∷ xs) = cond (eqb x n) (without n xs) (x ∷ without n xs)

-- the attribute numbers that are taken: the standard's but AT_default_value_data4, which document 01 does not name, and the vendor list
unfoldable pub taken : List ℕ → List ℕ
taken vendors = without 0x01e6 attributes ++ vendors

-- ---- rows and attributes of the table

-- the flags of a row outside erased data: 4 where it is little-endian
unfoldable pub data_flag : Endian → ℕ
data_flag Big = 0
data_flag Little = 4

module _ (numbers : List ℕ) (e : Endian) where
  -- of attributes from `at` on: a value stands two bytes behind the beginning of its number
  unfoldable pub written_from : ℕ → List (Attribute numbers e) → List Attr
  written_from at [] = []
  written_from at (a ∷ rest) = record { number = a.kind; value = at + 2 } ∷ written_from (at + length (written_attribute numbers e a)) rest

  -- of one entry at `at`: its attributes begin behind size and tag
  unfoldable pub die_attrs : ℕ → Die numbers e → List Attr
  die_attrs at (null fill few small) = []
  die_attrs at (padding fill some few small) = []
  die_attrs at (entry tag k p b rest few) = written_from (at + 6) (b ∷ rest)

  -- the rows of an entry that begins at a place, its attributes from number a on: padding has none. Their units are told of all rows together
  unfoldable pub die_rows : ℕ → ℕ → Die numbers e → List Row
  die_rows at a (null fill few small) = record { key = at; kind = padding_tag; flags = data_flag e; first = a; count = 0; unit = no_unit } ∷ []
  die_rows at a (padding fill some few small) = []
  die_rows at a (entry tag k p b rest few) =
      record { key = at; kind = tag; flags = data_flag e; first = a; count = length (written_from (at + 6) (b ∷ rest)); unit = no_unit } ∷ []

  -- the attributes of entries one after the other
  unfoldable pub attrs_of : ℕ → List (Die numbers e) → List Attr
  attrs_of at [] = []
  attrs_of at (d ∷ rest) = die_attrs at d ++ attrs_of (at + length (written_die numbers e d)) rest

  -- the rows of entries one after the other
  unfoldable pub rows_of : ℕ → ℕ → List (Die numbers e) → List Row
  rows_of at a [] = []
  rows_of at a (d ∷ rest) = die_rows at a d ++ rows_of (at + length (written_die numbers e d)) (a + length (die_attrs at d)) rest

-- ---- what the typed decoders of `attributes` answer

-- section and data in one endianness
abbrev pub both : Endian → Endians
both e = record { section = e; «data» = e }

-- of a value of a form at a place
pub data Decoded (e : Endian) (s : List ℕ) (at : ℕ) : Form → Value → Type 0 where
  address : (n : ℕ) → address_at (both e) s at ≡ Some n → Decoded e s at ADDR (number n)
  reference : (n : ℕ) → reference_at (both e) s at ≡ Some n → Decoded e s at REF (number n)
  block2 : (xs : List ℕ) → block_at e 2 s at ≡ xs → Decoded e s at BLOCK2 (bytes xs)
  block4 : (xs : List ℕ) → block_at e 4 s at ≡ xs → Decoded e s at BLOCK4 (bytes xs)
  data2 : (n : ℕ) → data2_at (both e) s at ≡ Some n → Decoded e s at DATA2 (number n)
  data4 : (n : ℕ) → data4_at (both e) s at ≡ Some n → Decoded e s at DATA4 (number n)
  data8 : (n : ℕ) → data8_at (both e) s at ≡ Some n → Decoded e s at DATA8 (number n)
  string : (xs : List ℕ) → text_at s at ≡ xs → Decoded e s at STRING (bytes xs)

-- of all attributes of a table, in order: the decoder of each one's form answers its value
pub data AllDecoded (e : Endian) (s : List ℕ) : List Attr → List Value → Type 0 where
  none : AllDecoded e s [] []
  more : (x : Attr) (xs : List Attr) (form : Form) (value : Value) (values : List Value) → x.number % 16 ≡ form_number form
      → Decoded e s x.value form value → AllDecoded e s xs values → AllDecoded e s (x ∷ xs) (value ∷ values)

-- ---- the theorems' conclusions

-- entries that the standard writes as this section, with these rows, attributes and values
pub record WrittenAs (vendors : List ℕ) (e : Endian) (s : List ℕ) (rs : List Row) (xs : List Attr) : Type 0 where
  pub dies : List (Die (taken vendors) e)
  pub written : written_dies (taken vendors) e dies ≡ s
  pub rows : with_units (rows_of (taken vendors) e 0 0 dies) ≡ rs
  pub attributes : attrs_of (taken vendors) e 0 dies ≡ xs
  pub values : AllDecoded e s xs (values_of (taken vendors) e dies)

-- every row has a tag of the standard's (Metrowerks' own tag 0x4080 is read too)
pub data StandardTags : List Row → Type 0 where
  none : StandardTags []
  more : (r : Row) (rs : List Row) → OnList r.kind tags → StandardTags rs → StandardTags (r ∷ rs)

-- ---- the call

-- a call of `read_debug_section`: what it was lent, what it says, and what the tables then hold
pub record Call : Type 0 where
  pub settings : Settings
  pub vendors : List ℕ
  pub sizes : List ℕ
  pub section : List ℕ
  pub rows : List ℕ
  pub attrs : List ℕ
  pub said : Said Counts
  pub rows_then : List ℕ
  pub attrs_then : List ℕ

-- the entries of a section that the standard writes with a call's settings
abbrev pub Dies : Call → Type 0
Dies c = List (Die (taken c.vendors) c.settings.endian)

-- the rows that they come to, with their units
abbrev pub its_rows : (c : Call) → Dies c → List Row
its_rows c dies = with_units (rows_of (taken c.vendors) c.settings.endian 0 0 dies)

-- their attributes
abbrev pub its_attrs : (c : Call) → Dies c → List Attr
its_attrs c dies = attrs_of (taken c.vendors) c.settings.endian 0 dies

-- settings that hold with the erased flag off, a section that the standard wrote, and room for what it comes to
pub record WrittenLent (c : Call) (dies : Dies c) : Type 0 where
  pub settings_held : settings_hold c.settings c.vendors c.sizes ≡ true
  pub flag_off : c.settings.erased ≡ false
  pub is_written : c.section ≡ written_dies (taken c.vendors) c.settings.endian dies
  pub is_short : length c.section < section_limit
  pub fits : fitting (counts (length (its_rows c dies)) (length (its_attrs c dies))) (length c.rows) (length c.attrs) ≡ true

-- the tables hold exactly what it comes to, from their first word on, and behind it what they held; the decoders answer the values that were written
pub record WrittenRead (c : Call) (dies : Dies c) : Type 0 where
  pub says : c.said ≡ gives (counts (length (its_rows c dies)) (length (its_attrs c dies)))
  pub rows_filled : Filled (rows_words (its_rows c dies)) (length (its_rows c dies) * row_width) c.rows c.rows_then
  pub attrs_filled : Filled (attrs_words (its_attrs c dies)) (length (its_attrs c dies) * attr_width) c.attrs c.attrs_then
  pub values : AllDecoded c.settings.endian c.section (its_attrs c dies) (values_of (taken c.vendors) c.settings.endian dies)
