-- One subscript (document 01, 'Types, records, sizes'): formats 0, 1 and 8, judged field by field. Byte 0 is the format.
use Rattle.format.specs.declared.refusal.Refusal.{Refusal}
use Rattle.std.specs.Prelude.{ℕ, ◌+◌, ◌≤◌, cond, List, [], length, ◌==◌, nat_lt, slice_index, Result, Ok, Err}
use Rattle.numbers.specs.Value.{there}
use Rattle.numbers.specs.declared.Endian.{Endian}
use Rattle.format.specs.FundType.{fund_type_of}
use Rattle.format.specs.SubscriptFormat.{subscript_format_of}
use Rattle.format.specs.Said.{Said, gives, refuse, refusal, must, ◌>>=◌, ◌>>◌}
use Rattle.format.specs.declared.subscript_format.SubscriptFormat.{SubscriptFormat}
use Rattle.format.specs.declared.subscript_format.SubscriptFormat.TheVariants.{FundTypeConstConst, FundTypeConstLocation, FundTypeLocationConst}
use Rattle.format.specs.declared.subscript_format.SubscriptFormat.TheVariants.{FundTypeLocationLocation, UserTypeConstConst, UserTypeConstLocation}
use Rattle.format.specs.declared.subscript_format.SubscriptFormat.TheVariants.{UserTypeLocationConst, UserTypeLocationLocation, ElementType, Unknown}
use Rattle.format.specs.declared.refusal.Reason.TheVariants as reason
use Rattle.attributes.specs.Parts.{part_at}
use Rattle.attributes.specs.Read.{read_attribute}
use Rattle.attributes.specs.declared.read.Attribute.{Attribute}
use Rattle.attributes.specs.declared.value.Unread.{Unread}
use Rattle.blocks.specs.Location.{process_offset}
use Rattle.blocks.specs.Types.{number_in, known_number, process_type}
use Rattle.blocks.specs.declared.types.Type.{«Type»}
use Rattle.blocks.specs.declared.subscript.Subscript.{Subscript}
use Rattle.blocks.specs.declared.subscript.Subscript.TheVariants.{Dimension, Element}

-- a part of a block of subscripts: a dimension, by its index type and its size (0 is unbounded), or an element type; and how many bytes it takes
pub data Part : Type 0 where
  dimension : (index size used : ℕ) → Part
  element : (of : «Type») (used : ℕ) → Part

-- what an answer says
unfoldable pub said_subscript : Result Subscript Refusal → Said Part
said_subscript (Ok (Dimension index size used)) = gives (dimension index size used)
said_subscript (Ok (Element t used)) = gives (element t used)
said_subscript (Err why) = refusal why

-- ---- formats 0 and 1: a dimension

-- its index type, 2 bytes at 1, which does not pass through `parse_int`; the low bound, 4 bytes at 3, must be 0 (19)
unfoldable pub index_at : Endian → List ℕ → Said ℕ
index_at e block = do
  number ← number_in e 2 block 1
  index ← known_number (fund_type_of number)
  low ← number_in e 4 block 3
  must (low == 0) reason.Bound 0
  gives index

-- one more, wrapping: 0xFFFFFFFF comes to 0, which is unbounded
unfoldable pub one_more : ℕ → ℕ
one_more high = cond (high == 0xFFFFFFFF) 0 (high + 1)

-- format 0: a constant high bound, 4 bytes at 7
unfoldable pub const_bound : Endian → List ℕ → Said Part
const_bound e block = do
  index ← index_at e block
  high ← number_in e 4 block 7
  gives (dimension index (one_more high) 11)

-- the size that a location says is its offset itself; an empty location is unbounded, as is the offset 0
unfoldable pub location_size : Endian → List ℕ → Said ℕ
location_size e location = cond (length location == 0) (gives 0) (process_offset e location)

-- format 1: a location, its length 2 bytes at 7, its bytes from 9 on
unfoldable pub location_bound : Endian → List ℕ → Said Part
location_bound e block = do
  index ← index_at e block
  n ← number_in e 2 block 7
  must (there block 9 n) reason.Block 0
  size ← location_size e (part_at block 9 n)
  gives (dimension index size (9 + n))

-- ---- format 8: a type attribute, all of it in section endianness

-- another attribute, a number that is not known and bytes that are missing are all 17; so no vendor list is asked
unfoldable pub element_as : Endian → List ℕ → Result Attribute Unread → Said Part
element_as e block (Ok a) = do
  of ← process_type (record { section = e; «data» = e }) block a.number a.value
  gives (element of a.next)
element_as e block (Err why) = refuse reason.Block 0

-- the attribute behind the format
unfoldable pub element_type_at : Endian → List ℕ → Said Part
element_type_at e block = element_as e block (read_attribute [] e block 1)

-- ---- the subscript that a block begins with

-- by its format; those that document 01 does not take are 17
unfoldable pub subscript_as : Endian → List ℕ → SubscriptFormat → Said Part
subscript_as e block FundTypeConstConst = const_bound e block
subscript_as e block FundTypeConstLocation = location_bound e block
subscript_as e block FundTypeLocationConst = refuse reason.Block 0
subscript_as e block FundTypeLocationLocation = refuse reason.Block 0
subscript_as e block UserTypeConstConst = refuse reason.Block 0
subscript_as e block UserTypeConstLocation = refuse reason.Block 0
subscript_as e block UserTypeLocationConst = refuse reason.Block 0
subscript_as e block UserTypeLocationLocation = refuse reason.Block 0
subscript_as e block ElementType = element_type_at e block
subscript_as e block Unknown = refuse reason.Block 0

-- nothing is no subscript
unfoldable pub next_subscript : Endian → List ℕ → Said Part
next_subscript e block = do
  must (nat_lt 0 (length block)) reason.Block 0
  subscript_as e block (subscript_format_of (slice_index block 0))

-- ---- what a subscript takes

-- it takes at least a byte, and all its bytes are inside
abbrev pub UsesInside : List ℕ → Part → Type 0
UsesInside block (dimension index size used) = (1 ≤ used) × (used ≤ length block)
UsesInside block (element t used) = (1 ≤ used) × (used ≤ length block)
