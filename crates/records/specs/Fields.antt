-- What a record picks out of a row's attributes: the last of a kind counts (a name, a type, an offset, a ByteSize, a visibility).
use Rattle.std.specs.Prelude.{Option, Some, None, ℕ, zero, suc, ◌+◌, ◌-◌, Bool, cond, ◌||◌, List, eqb}
use Rattle.format.specs.FormKind.{form_of}
use Rattle.format.specs.AttributeKind as attribute
use Rattle.format.specs.Said.{Said, gives, refuses, refuse, ◌>>=◌, placed}
use Rattle.format.specs.declared.refusal.Reason.TheVariants as reason
use Rattle.attributes.specs.Text.{zero_from}
use Rattle.attributes.specs.Parts.{block_at}
use Rattle.blocks.specs.Location.{process_offset, process_address}
use Rattle.blocks.specs.Types.{process_type}
use Rattle.blocks.specs.declared.types.Type.{«Type»}
use Rattle.links.specs.Typed.{word_at}
use Rattle.records.specs.Scan.{attribute_at, is_type}
use Rattle.records.specs.declared.scan.Run.{Run}
use Rattle.records.specs.declared.scan.Attribute.{Attribute}
use Rattle.records.specs.declared.fields.Sought.{Sought}
use Rattle.records.specs.declared.fields.Sought.TheVariants as sought
use Rattle.records.specs.declared.fields.Text.{Text}
use Rattle.records.specs.declared.fields.Visibility.{Visibility}
use Rattle.records.specs.declared.fields.Visibility.TheVariants as visibility

-- an attribute of this number is sought
unfoldable pub is_sought : Sought → ℕ → Bool
is_sought (sought.Number n) number = eqb number n
is_sought sought.Type number = is_type number
is_sought sought.Visibility number = eqb number attribute.private || (eqb number attribute.protected || eqb number attribute.public)

-- the last of n attributes from `first` on that is sought
unfoldable pub last_from : Sought → List ℕ → ℕ → ℕ → Option ℕ
last_from what attrs first zero = None
last_from what attrs first (suc n) = cond (is_sought what (attribute_at attrs (first + n)).number) (Some (first + n)) (last_from what attrs first n)

-- the last of a row's
unfoldable pub last_of : Sought → List ℕ → Run → Option ℕ
last_of what attrs run = last_from what attrs run.first run.count

-- ---- texts

-- the text at a place: up to its zero
unfoldable pub text_of : List ℕ → ℕ → Text
text_of s at = record { place = at; length = zero_from s at - at }

-- the text of an attribute of the table
unfoldable pub name_by : List ℕ → List ℕ → Option ℕ → Option Text
name_by s attrs (Some k) = Some (text_of s (attribute_at attrs k).value)
name_by s attrs None = None

-- the text of the last attribute of this number
unfoldable pub name_of : List ℕ → List ℕ → Run → ℕ → Option Text
name_of s attrs run number = name_by s attrs (last_of (sought.Number number) attrs run)

-- ---- what is needed: 15 without

-- a name, a number or where an attribute is
unfoldable pub needed : {A : Type 0} → ℕ → Option A → Said A
needed key (Some x) = gives x
needed key None = refuse reason.Missing key

-- ---- types

-- the type that an attribute of the table says; its refusal is placed at the row
unfoldable pub type_by : List ℕ → List ℕ → Run → Option ℕ → Said «Type»
type_by s attrs run found = do
  k ← needed run.key found
  placed run.key (process_type run.ends s (attribute_at attrs k).number (attribute_at attrs k).value)

-- the type that the last type attribute says
unfoldable pub type_of : List ℕ → List ℕ → Run → Said «Type»
type_of s attrs run = type_by s attrs run (last_of sought.Type attrs run)

-- ---- locations

-- the block of a location
unfoldable pub location_block : List ℕ → Run → Attribute → List ℕ
location_block s run a = block_at run.ends.«data» 2 s a.value

-- the offset of the row's last location
unfoldable pub offset_field : List ℕ → List ℕ → Run → Said ℕ
offset_field s attrs run = do
  k ← needed run.key (last_of (sought.Number attribute.location) attrs run)
  placed run.key (process_offset run.ends.section (location_block s run (attribute_at attrs k)))

-- a location that is no address was refused by the scan
unfoldable pub as_address : Said ℕ → Option ℕ
as_address (gives x) = Some x
as_address (refuses number place counts) = None

-- the address that an attribute of the table says
unfoldable pub address_by : List ℕ → List ℕ → Run → Option ℕ → Option ℕ
address_by s attrs run (Some k) = as_address (process_address run.ends.section (location_block s run (attribute_at attrs k)))
address_by s attrs run None = None

-- a variable's address, if it has one
unfoldable pub address_field : List ℕ → List ℕ → Run → Option ℕ
address_field s attrs run = address_by s attrs run (last_of (sought.Number attribute.location) attrs run)

-- ---- numbers

-- what an attribute says by its form; in a table that was tested the bytes are there
unfoldable pub word_in : List ℕ → Run → Attribute → Option ℕ
word_in s run a = word_at (form_of a.number) s (record { at = a.value; ends = run.ends })

-- the number of an attribute of the table
unfoldable pub word_by : List ℕ → List ℕ → Run → Option ℕ → Option ℕ
word_by s attrs run (Some k) = word_in s run (attribute_at attrs k)
word_by s attrs run None = None

-- the number that the last attribute of this number says
unfoldable pub word_of : List ℕ → List ℕ → Run → ℕ → Option ℕ
word_of s attrs run number = word_by s attrs run (last_of (sought.Number number) attrs run)

-- the text of the attribute that plays a role, or the number it says; a role that is absent is played by none
unfoldable pub role_name : List ℕ → List ℕ → Run → ℕ → Option Text
role_name s attrs run role = cond (eqb role 0) None (name_of s attrs run role)

-- the same of a number
unfoldable pub role_word : List ℕ → List ℕ → Run → ℕ → Option ℕ
role_word s attrs run role = cond (eqb role 0) None (word_of s attrs run role)

-- ---- visibility

-- what one of the three attributes says; nothing but their numbers is looked at
unfoldable pub visibility_by : ℕ → Visibility
visibility_by number =
    cond (eqb number attribute.private) visibility.Private (cond (eqb number attribute.protected) visibility.Protected visibility.Public)

-- public where nothing is said
unfoldable pub visibility_in : List ℕ → Option ℕ → Visibility
visibility_in attrs (Some k) = visibility_by (attribute_at attrs k).number
visibility_in attrs None = visibility.Public

-- the row's: the last of the three counts
unfoldable pub visibility_of : List ℕ → Run → Visibility
visibility_of attrs run = visibility_in attrs (last_of sought.Visibility attrs run)
