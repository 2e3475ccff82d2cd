-- The starred examples of document 01 ('Examples on each side') and some of document 02's K2 and K7, big-endian: what is asked of the public calls'
-- definitions, and what they say, with number and place of a refusal, the byte that 4 to 6 of reading tell, and what lent memory then holds.
-- `examples-hold` computes every row.
use Rattle.std.specs.Prelude.{Option, Some, None}
use Rattle.std.specs.Prelude.{ℕ, ◌+◌, ◌*◌, Bool, true, false, List, [], ◌∷◌, replicate, ℤ, pos, negsuc}
use Rattle.lent.specs.Outcome.{Outcome, outcome, Outcomes, outcomes}
use Rattle.numbers.specs.declared.Endian.TheVariants.{Big}
use Rattle.format.specs.TagKind as tag
use Rattle.format.specs.AttributeKind as number
use Rattle.format.specs.FundType.{parse_int}
use Rattle.format.specs.Modifier.{modifier_of}
use Rattle.format.specs.Said.{Said, gives, refuses}
use Rattle.format.specs.Presets.{no_roles, rust_sizes}
use Rattle.format.specs.declared.form_kind.FormKind.TheVariants as form
use Rattle.format.specs.declared.modifier.Modifier.{Modifier}
use Rattle.format.specs.declared.modifier.Modifier.TheVariants as modifier
use Rattle.format.specs.declared.settings.Settings.{Settings}
use Rattle.format.specs.declared.settings.Producer.TheVariants.{Other}
use Rattle.attributes.specs.declared.decode.Extent.{Extent}
use Rattle.blocks.specs.Modifiers.{process_modifiers}
use Rattle.blocks.specs.Types.{process_type}
use Rattle.blocks.specs.Subscripts.{array_of, process_array_subscript_data}
use Rattle.blocks.specs.declared.subscripts.Array.{Array}
use Rattle.blocks.specs.declared.types.Type.{«Type»}
use Rattle.blocks.specs.declared.types.TypeKind.TheVariants.{Fundamental}
use Rattle.tables.specs.Table.{Table, table}
use Rattle.tables.specs.Row.{row_width, attr_width}
use Rattle.tables.specs.Tests.{test_table}
use Rattle.tables.specs.Unit.{no_unit}
use Rattle.tables.specs.declared.row.Counts.{Counts}
use Rattle.links.specs.Typed.{extent_of_key, part_of, value_of_key}
use Rattle.records.specs.Enumeration.{process_enumeration_tag}
use Rattle.records.specs.declared.enumeration.Enumeration.{Enumeration}
use Rattle.entries.specs.Section.{counts, read_debug_section}

-- what an example asks: to read a section into lent tables, with the erased flag on or off, or into tables with room for five rows; whether a table
-- passes the tests; the Name, and the FundType, of the entry at 0 of a table;
-- what a fundamental type's number and a modifier's byte say, and a run of modifiers; what a type attribute of a number with these bytes of value
-- says; what subscripts say, into lent room; what the enumeration at 0 of a table says, into lent rooms
pub data Question : Type 0 where
  section : Bool → List ℕ → Question
  five_rows : List ℕ → Question
  tests : Table → Question
  name_of : Table → Question
  type_of : Table → Question
  type_number : ℕ → Question
  modifier_byte : ℕ → Question
  modifiers : List ℕ → Question
  type_attribute : ℕ → List ℕ → Question
  subscripts : List ℕ → Question
  enumeration : Table → Question

-- what each says, whole
pub data Answer : Type 0 where
  tables : Outcomes (Said Counts) ℕ ℕ → Answer
  tested : Said Unit → Answer
  text : Said (Option Extent) → List ℕ → Answer
  value : Said (Option ℕ) → Answer
  fundamental : Option ℕ → Answer
  one_modifier : Modifier → Answer
  pointers : Said Bool → Answer
  type : Said «Type» → Answer
  array : Outcome (Said Array) ℕ → Answer
  members : Outcomes (Said Enumeration) ℤ ℕ → Answer

-- big-endian, no roles
abbrev settings : Bool → Settings
settings erased = record { endian = Big; erased = erased; producer = Other; roles = no_roles }

-- what is lent: 9 in every word
abbrev lent : ℕ → List ℕ
lent n = replicate n 9

-- room for a row, and a word more
abbrev lent_row : List ℕ
lent_row = lent (row_width + 1)

-- room for two attributes, and a word more
abbrev lent_attrs : List ℕ
lent_attrs = lent (2 * attr_width + 1)

-- values that are lent
abbrev lent_values : List ℤ
lent_values = pos 9 ∷ pos 9 ∷ []

-- what the definitions of the calls answer, with no vendor numbers
unfoldable pub answer : Question → Answer
answer (section erased s) = tables (read_debug_section (settings erased) [] (rust_sizes 4) s lent_row lent_attrs)
answer (five_rows s) = tables (read_debug_section (settings false) [] (rust_sizes 4) s (lent (5 * row_width)) lent_attrs)
answer (tests t) = tested (test_table t)
answer (name_of t) = text (extent_of_key t 0 number.name form.String) (part_of t.section (extent_of_key t 0 number.name form.String))
answer (type_of t) = value (value_of_key t 0 number.fund_type form.Data2)
answer (type_number n) = fundamental (parse_int n)
answer (modifier_byte n) = one_modifier (modifier_of n)
answer (modifiers ms) = pointers (process_modifiers ms)
answer (type_attribute n bytes) = type (process_type (record { section = Big; «data» = Big }) bytes n 0)
answer (subscripts block) = array (process_array_subscript_data Big block (lent 3))
answer (enumeration t) = members (process_enumeration_tag t 0 lent_values (lent 3))

-- a row of the table: what is asked, and what document 01 says
pub record Example : Type 0 where
  pub asked : Question
  pub said : Answer

-- the same, as the table writes it
infix 80 ◌says◌
-- a question with its answer
abbrev pub ◌says◌ : Question → Answer → Example
q says a = record { asked = q; said = a }

-- nothing is read: the tables stay as they are
abbrev nothing_read : Said Counts → Answer
nothing_read said = tables (outcomes said lent_row lent_attrs)

-- one null entry: its row is five zeros and the mark for no unit
abbrev null_read : Answer
null_read = tables (outcomes (gives (counts 1 0)) (0 ∷ tag.padding ∷ 0 ∷ 0 ∷ 0 ∷ no_unit ∷ 9 ∷ []) lent_attrs)

-- the erased entry: name A at 8 and type 7 at 12, little-endian
abbrev erased_entry : List ℕ
erased_entry = 0x00 ∷ 0x00 ∷ 0x00 ∷ 0x0e ∷ 0x00 ∷ 0x00 ∷ 0x38 ∷ 0x00 ∷ 0x41 ∷ 0x00 ∷ 0x55 ∷ 0x00 ∷ 0x07 ∷ 0x00 ∷ []

-- the words of its row (flags: 1 erased, 2 an erased root, 4 little-endian) and of its attributes, and a word of 9 behind each
abbrev erased_row : List ℕ
erased_row = 0 ∷ tag.local_variable ∷ 7 ∷ 0 ∷ 2 ∷ no_unit ∷ 9 ∷ []

-- its attributes
abbrev erased_attrs : List ℕ
erased_attrs = number.name ∷ 8 ∷ number.fund_type ∷ 12 ∷ 9 ∷ []

-- a table of one row with two attributes
abbrev one_row : Bool → List ℕ → List ℕ → List ℕ → Table
one_row erased s rows attrs = table s (settings erased) [] (rust_sizes 4) rows attrs (counts 1 2)

-- a fundamental type without modifiers, its value at a place
abbrev plain : ℕ → ℕ → «Type»
plain n place = record { kind = Fundamental n; place = place; count = 0; pointer = false }

-- a pointer to an Integer (7): one modifier, behind the block's length
abbrev pointer : «Type»
pointer = record { kind = Fundamental 7; place = 2; count = 1; pointer = true }

-- an array of Integer, indexed by Integer: format 0 with this low bound and the last byte of a high bound 0xFFFFFF.., then format 8
abbrev array_bytes : ℕ → ℕ → List ℕ
array_bytes low high =
    0x00 ∷ 0x00 ∷ 0x07 ∷ 0x00 ∷ 0x00 ∷ 0x00 ∷ low ∷ 0xff ∷ 0xff ∷ 0xff ∷ high ∷
    0x08 ∷ 0x00 ∷ 0x55 ∷ 0x00 ∷ 0x07 ∷ []

-- its one dimension: the index type and this size
abbrev dimension : ℕ → Answer
dimension size = array (outcome (gives (array_of (plain 7 14) 1)) (7 ∷ size ∷ 9 ∷ []))

-- an enumeration of ByteSize 1 whose list is FF 41 00
abbrev size_first : List ℕ
size_first =
    0x00 ∷ 0x00 ∷ 0x00 ∷ 0x15 ∷ 0x00 ∷ 0x04 ∷ 0x00 ∷ 0xb6 ∷ 0x00 ∷ 0x00 ∷ 0x00 ∷ 0x01 ∷
    0x00 ∷ 0xf4 ∷ 0x00 ∷ 0x00 ∷ 0x00 ∷ 0x03 ∷ 0xff ∷ 0x41 ∷ 0x00 ∷ []

-- the same with the list before the ByteSize
abbrev list_first : List ℕ
list_first =
    0x00 ∷ 0x00 ∷ 0x00 ∷ 0x15 ∷ 0x00 ∷ 0x04 ∷ 0x00 ∷ 0xf4 ∷ 0x00 ∷ 0x00 ∷ 0x00 ∷ 0x03 ∷ 0xff ∷ 0x41 ∷ 0x00 ∷
    0x00 ∷ 0xb6 ∷ 0x00 ∷ 0x00 ∷ 0x00 ∷ 0x01 ∷ []

-- an enumeration's row at 0 with two attributes
abbrev enumeration_row : List ℕ
enumeration_row = 0 ∷ tag.enumeration_type ∷ 0 ∷ 0 ∷ 2 ∷ no_unit ∷ []

-- an enumeration without a name, of ByteSize 1, with so many members
abbrev enumeration_is : ℕ → Said Enumeration
enumeration_is many = gives (record { name = None; byte_size = 1; members = many })

-- a null entry, a unit without a name, a null entry in it, another unit, a null entry in that
abbrev two_units : List ℕ
two_units =
    0x00 ∷ 0x00 ∷ 0x00 ∷ 0x04 ∷ 0x00 ∷ 0x00 ∷ 0x00 ∷ 0x09 ∷ 0x00 ∷ 0x11 ∷ 0x00 ∷ 0x38 ∷ 0x00 ∷ 0x00 ∷ 0x00 ∷ 0x00 ∷ 0x04 ∷
    0x00 ∷ 0x00 ∷ 0x00 ∷ 0x09 ∷ 0x00 ∷ 0x11 ∷ 0x00 ∷ 0x38 ∷ 0x00 ∷ 0x00 ∷ 0x00 ∷ 0x00 ∷ 0x04 ∷ []

-- its rows, with these units
abbrev rows_in : ℕ → ℕ → ℕ → ℕ → ℕ → List ℕ
rows_in a b c d e =
    0 ∷ tag.padding ∷ 0 ∷ 0 ∷ 0 ∷ a ∷ 4 ∷ tag.compile_unit ∷ 0 ∷ 0 ∷ 1 ∷ b ∷ 13 ∷ tag.padding ∷ 0 ∷ 1 ∷ 0 ∷ c ∷
    17 ∷ tag.compile_unit ∷ 0 ∷ 1 ∷ 1 ∷ d ∷ 26 ∷ tag.padding ∷ 0 ∷ 2 ∷ 0 ∷ e ∷ []

-- its attributes: the two names, and a word of 9 behind them
abbrev unit_names : List ℕ
unit_names = number.name ∷ 12 ∷ number.name ∷ 25 ∷ 9 ∷ []

-- a table of those rows
abbrev units_told : ℕ → ℕ → ℕ → ℕ → ℕ → Question
units_told a b c d e = tests (table two_units (settings false) [] (rust_sizes 4) (rows_in a b c d e) unit_names (counts 5 2))

-- in document 01's order; its type numbers and modifiers are asked alone, and again as attributes
unfoldable pub examples : List Example
examples =
    section false [] says nothing_read (gives (counts 0 0)) ∷
    section false (0x00 ∷ 0x00 ∷ 0x00 ∷ []) says nothing_read (refuses 4 0 (0 ∷ [])) ∷
    section false (0x00 ∷ 0x00 ∷ 0x00 ∷ 0x00 ∷ []) says null_read ∷
    section false (0x00 ∷ 0x00 ∷ 0x00 ∷ 0x07 ∷ []) says null_read ∷
    section false (0x00 ∷ 0x00 ∷ 0x00 ∷ 0x08 ∷ 0x00 ∷ 0x00 ∷ []) says nothing_read (gives (counts 0 0)) ∷
    section true (0x00 ∷ 0x00 ∷ 0x00 ∷ 0x08 ∷ 0x00 ∷ 0x00 ∷ []) says nothing_read (refuses 4 0 (6 ∷ [])) ∷
    section false (0x00 ∷ 0x00 ∷ 0x00 ∷ 0x08 ∷ 0x00 ∷ 0x08 ∷ []) says nothing_read (refuses 5 0 (4 ∷ [])) ∷
    section false (0x00 ∷ 0x00 ∷ 0x00 ∷ 0x08 ∷ 0x00 ∷ 0x14 ∷ []) says nothing_read (refuses 4 0 (6 ∷ [])) ∷
    section true erased_entry says tables (outcomes (gives (counts 1 2)) erased_row erased_attrs) ∷
    name_of (one_row true erased_entry erased_row erased_attrs) says text (gives (Some (record { place = 8; length = 1 }))) (0x41 ∷ []) ∷
    type_of (one_row true erased_entry erased_row erased_attrs) says value (gives (Some 7)) ∷
    section false erased_entry says nothing_read (gives (counts 0 0)) ∷
    type_number 0x0108 says fundamental (Some 0x0008) ∷
    type_number 0x8108 says fundamental (Some 0x8108) ∷
    type_number 0x0113 says fundamental None ∷
    modifier_byte 0x81 says one_modifier modifier.PointerTo ∷
    modifier_byte 0x85 says one_modifier modifier.Unknown ∷
    modifiers (0x81 ∷ []) says pointers (gives true) ∷
    modifiers (0x85 ∷ []) says pointers (refuses 18 0 []) ∷
    type_attribute number.fund_type (0x01 ∷ 0x08 ∷ []) says type (gives (plain 0x0008 0)) ∷
    type_attribute number.fund_type (0x81 ∷ 0x08 ∷ []) says type (gives (plain 0x8108 0)) ∷
    type_attribute number.fund_type (0x01 ∷ 0x13 ∷ []) says type (refuses 18 0 []) ∷
    type_attribute number.mod_fund_type (0x00 ∷ 0x03 ∷ 0x81 ∷ 0x00 ∷ 0x07 ∷ []) says type (gives pointer) ∷
    type_attribute number.mod_fund_type (0x00 ∷ 0x03 ∷ 0x85 ∷ 0x00 ∷ 0x07 ∷ []) says type (refuses 18 0 []) ∷
    subscripts (array_bytes 0 0xff) says dimension 0 ∷
    subscripts (array_bytes 0 0xfe) says dimension 4294967295 ∷
    subscripts (array_bytes 1 0xff) says array (outcome (refuses 19 0 []) (lent 3)) ∷
    enumeration (one_row false size_first enumeration_row (number.byte_size ∷ 8 ∷ number.element_list ∷ 14 ∷ []))
    says members (outcomes (enumeration_is 1) (negsuc 0 ∷ pos 9 ∷ []) (19 ∷ 1 ∷ 9 ∷ [])) ∷
    enumeration (one_row false list_first enumeration_row (number.element_list ∷ 8 ∷ number.byte_size ∷ 17 ∷ []))
    says members (outcomes (enumeration_is 0) lent_values (lent 3)) ∷
    -- document 02, K2: a block's bytes, a block's length, a text without its zero, an attribute's number that is not known
    section false (0x00 ∷ 0x00 ∷ 0x00 ∷ 0x0d ∷ 0x00 ∷ 0x0d ∷ 0x00 ∷ 0x23 ∷ 0x00 ∷ 0x06 ∷ 0x00 ∷ []) says nothing_read (refuses 4 0 (10 ∷ [])) ∷
    section false (0x00 ∷ 0x00 ∷ 0x00 ∷ 0x0d ∷ 0x00 ∷ 0x0d ∷ 0x00 ∷ 0x23 ∷ 0x00 ∷ []) says nothing_read (refuses 4 0 (8 ∷ [])) ∷
    section false (0x00 ∷ 0x00 ∷ 0x00 ∷ 0x09 ∷ 0x00 ∷ 0x14 ∷ 0x00 ∷ 0x38 ∷ 0x41 ∷ []) says nothing_read (refuses 4 0 (8 ∷ [])) ∷
    section false (0x00 ∷ 0x00 ∷ 0x00 ∷ 0x04 ∷ 0x00 ∷ 0x00 ∷ 0x00 ∷ 0x0c ∷ 0x00 ∷ 0x14 ∷ 0x00 ∷ 0xe6 ∷ 0x00 ∷ 0x00 ∷ 0x00 ∷ 0x00 ∷ [])
    says nothing_read (refuses 6 4 (10 ∷ [])) ∷
    -- document 02, K7: the unit of each row; and of tables that tell them otherwise: the mark for a row that has one, a unit before the first, the unit of
    -- the row before, the next unit, the first unit for all
    five_rows two_units says tables (outcomes (gives (counts 5 2)) (rows_in no_unit 4 4 17 17) unit_names) ∷
    units_told no_unit 4 4 17 17 says tested (gives tt) ∷
    units_told no_unit 4 no_unit 17 17 says tested (refuses 3 0 []) ∷
    units_told 4 4 4 17 17 says tested (refuses 3 0 []) ∷
    units_told no_unit no_unit 4 4 17 says tested (refuses 3 0 []) ∷
    units_told no_unit 4 17 17 17 says tested (refuses 3 0 []) ∷
    units_told no_unit 4 4 4 4 says tested (refuses 3 0 []) ∷ []
