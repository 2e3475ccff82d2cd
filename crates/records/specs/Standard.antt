-- What the theorems against the standard say of the records. What is written, and how, the crate `standard` says.
use Rattle.std.specs.Prelude.{ℕ, Option, Some, None, ◌+◌, ◌%◌, ◌^◌, ◌<◌, ◌≡◌, List, [], ◌∷◌, ◌++◌, length}
use Rattle.numbers.specs.Value.{signed_of}
use Rattle.numbers.specs.declared.Endian.{Endian}
use Rattle.standard.specs.Numbers.{Form, form_number}
use Rattle.standard.specs.Entries.{Value, number, bytes, block, Written}
use Rattle.standard.specs.Types.{Typed, Says}
use Rattle.standard.specs.Locations.{written_location, plus}
use Rattle.standard.specs.Elements.{Element, written_elements}
use Rattle.standard.specs.Members as standard
use Rattle.attributes.specs.Parts.{part_at}
use Rattle.blocks.specs.Standard.{type_at, said_from, alike}
use Rattle.records.specs.Scan.{attribute_at}
use Rattle.records.specs.Fields.{last_of, visibility_of}
use Rattle.records.specs.Elements.{Listed}
use Rattle.records.specs.Enumeration.{size_before}
use Rattle.records.specs.declared.scan.Run.{Run}
use Rattle.records.specs.declared.fields.Sought.{Sought}
use Rattle.records.specs.declared.fields.Sought.TheVariants as sought
use Rattle.records.specs.declared.fields.Text.{Text}
use Rattle.records.specs.declared.member.Bits.{Bits}
use Rattle.records.specs.declared.member.Member.{Member}

-- ---- enumerations

-- the widths of constants that are taken; the standard's producers wrote 4
pub data Width : ℕ → Type 0 where
  one : Width 1
  two : Width 2
  four : Width 4

-- what elements come to that are written from a place of the section on: the signed number that each constant says, and its name behind it
unfoldable pub listed_from : (w : ℕ) → ℕ → List (Element w) → List Listed
listed_from w at [] = []
listed_from w at (x ∷ xs) =
    record { value = signed_of w x.constant; place = at + w; length = length x.name } ∷ listed_from w (at + w + length x.name + 1) xs

-- the names that were written
unfoldable pub names_written : (w : ℕ) → List (Element w) → List (List ℕ)
names_written w [] = []
names_written w (x ∷ xs) = x.name ∷ names_written w xs

-- the parts of a section that a list names
unfoldable pub names_in : List ℕ → List Listed → List (List ℕ)
names_in s [] = []
names_in s (x ∷ xs) = part_at s x.place x.length ∷ names_in s xs

-- a block is the written form of elements that come to this list
pub record WrittenList (w : ℕ) (e : Endian) (base : ℕ) (block : List ℕ) (xs : List Listed) : Type 0 where
  pub elements : List (Element w)
  pub written : written_elements w e elements ≡ block
  pub comes : listed_from w base elements ≡ xs

-- where the elements of attribute j begin: behind their block's length
abbrev pub list_base : List ℕ → Run → ℕ → ℕ
list_base attrs run j = (attribute_at attrs (run.first + j)).value + 4

-- attribute j of a row is a list: its elements stand in a block where the attribute's value is, and the ByteSize last seen before it is their width
pub record ListWritten (w : ℕ) (e : Endian) (s attrs : List ℕ) (run : Run) (j : ℕ) (xs : List (Element w)) : Type 0 where
  pub before : List ℕ
  pub behind : List ℕ
  pub section : s ≡ before ++ (block e 4 (written_elements w e xs) ++ behind)
  pub place : length before ≡ (attribute_at attrs (run.first + j)).value
  pub short : length (written_elements w e xs) < 256 ^ 4
  pub one_endian : run.ends ≡ alike e
  pub sized : size_before s attrs run j ≡ Some w

-- ---- members

-- the last attribute of a row that is sought has this number, and where its value stands the section has this one, in the form of the number
pub record LastSays (e : Endian) (s attrs : List ℕ) (run : Run) (what : Sought) (kind : ℕ) (value : Value) : Type 0 where
  pub index : ℕ
  pub form : Form
  pub before : List ℕ
  pub body : List ℕ
  pub behind : List ℕ
  pub last : last_of what attrs run ≡ Some index
  pub numbered : (attribute_at attrs index).number ≡ kind
  pub has_form : kind % 16 ≡ form_number form
  pub written : Written e form value body
  pub section : s ≡ before ++ (body ++ behind)
  pub place : length before ≡ (attribute_at attrs index).value

-- the number that the row's last attribute of this kind says; or it has none
pub data SaysWord (e : Endian) (s attrs : List ℕ) (run : Run) (kind : ℕ) : Option ℕ → Type 0 where
  says : (n : ℕ) → LastSays e s attrs run (sought.Number kind) kind (number n) → SaysWord e s attrs run kind (Some n)
  silent : last_of (sought.Number kind) attrs run ≡ None → SaysWord e s attrs run kind None

-- both attributes of a bit field, or neither
pub data SaysBits (e : Endian) (s attrs : List ℕ) (run : Run) : Option Bits → Type 0 where
  field : {size offset : ℕ} → SaysWord e s attrs run standard.bit_size (Some size) → SaysWord e s attrs run standard.bit_offset (Some offset)
      → SaysBits e s attrs run (Some (record { size = size; offset = offset }))
  whole : SaysWord e s attrs run standard.bit_size None → SaysWord e s attrs run standard.bit_offset None
      → SaysBits e s attrs run None

-- the name that the row says, in the text behind its last AT_name; or it has none
pub data SaysName (e : Endian) (s attrs : List ℕ) (run : Run) : Option Text → Type 0 where
  named : (xs : List ℕ) (l : LastSays e s attrs run (sought.Number standard.name) standard.name (bytes xs))
      → SaysName e s attrs run (Some (record { place = (attribute_at attrs l.index).value; length = length xs }))
  nameless : last_of (sought.Number standard.name) attrs run ≡ None → SaysName e s attrs run None

-- a row says a member in the standard's words: its type and its place in the structure, and of the rest what it has
pub record SaysMember (e : Endian) (s attrs : List ℕ) (run : Run) : Type 0 where
  pub one_endian : run.ends ≡ alike e
  pub type : Typed
  pub kind : ℕ
  pub value : Value
  pub says_type : Says e type kind value
  pub typed : LastSays e s attrs run sought.Type kind value
  pub offset : ℕ
  pub small : offset < 256 ^ 4
  pub located : LastSays e s attrs run (sought.Number standard.location) standard.location (bytes (written_location e (plus offset)))
  pub bits : Option Bits
  pub says_bits : SaysBits e s attrs run bits
  pub size : Option ℕ
  pub says_size : SaysWord e s attrs run standard.byte_size size
  pub name : Option Text
  pub says_name : SaysName e s attrs run name

-- the record that it comes to; of a visibility nothing is said here
unfoldable pub member_of : {e : Endian} {s attrs : List ℕ} {run : Run} → SaysMember e s attrs run → Member
member_of {attrs = attrs} {run = run} m =
    record {
      name = m.name;
      of = type_at (said_from (attribute_at attrs m.typed.index).value m.value) m.type;
      offset = m.offset;
      bits = m.bits;
      visibility = visibility_of attrs run;
      byte_size = m.size;
    }
