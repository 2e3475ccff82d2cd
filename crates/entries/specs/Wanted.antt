-- Which byte was wanted (document 02, K2): an entry's fields in their order, the one that refuses the entry, and how reading comes to that entry.
use Rattle.std.specs.Prelude.{ℕ, suc, ◌+◌, ◌≤◌, ◌<◌, ◌≡◌, Bool, true, false, ◌&&◌, ◌||◌, ◌⊎◌, List, [], ◌∷◌, ◌++◌, length, get_or, eqb}
use Rattle.numbers.specs.Value.{value_of}
use Rattle.numbers.specs.declared.Endian.{Endian}
use Rattle.format.specs.Limits.{erased_limit}
use Rattle.format.specs.Lookup.{is_on}
use Rattle.format.specs.Known.{known}
use Rattle.format.specs.FormKind.{form_of}
use Rattle.format.specs.AttributeKind as number
use Rattle.format.specs.TagKind.{tags}
use Rattle.format.specs.TagKind as tag
use Rattle.format.specs.Said.{Said, gives, refuses}
use Rattle.format.specs.declared.settings.Settings.{Settings}
use Rattle.format.specs.declared.form_kind.FormKind.{FormKind}
use Rattle.format.specs.declared.form_kind.FormKind.TheVariants.{Addr, Ref, Block2, Block4, Data2, Data4, Data8, String}
use Rattle.attributes.specs.Read.{read_attribute}
use Rattle.tables.specs.declared.row.Row.{Row}
use Rattle.tables.specs.declared.row.Attr.{Attr}
use Rattle.tables.specs.declared.row.Counts.{Counts}
use Rattle.entries.specs.Source.{Source, source, mode}
use Rattle.entries.specs.Run.{found, run_ends}
use Rattle.entries.specs.Entry.{next, inside, root_endian, read_entry}
use Rattle.entries.specs.Walk.{Entries, read_tags}
use Rattle.entries.specs.declared.entry.Mode.{Mode}

-- ---- fields

-- not all of w bytes from a place on are in the section
abbrev pub NotThere : List ℕ → ℕ → ℕ → Type 0
NotThere s at w = length s < at + w

-- no zero is there from a place on
abbrev pub NoZero : List ℕ → ℕ → Type 0
NoZero s at = (i : ℕ) → at ≤ i → i < length s → get_or s i 0 ≡ 0 → ⊥

-- a value of this form is one field of so many bytes
pub data OneField : FormKind → ℕ → Type 0 where
  address : OneField Addr 4
  reference : OneField Ref 4
  data2 : OneField Data2 2
  data4 : OneField Data4 4
  data8 : OneField Data8 8

-- a value of this form is two fields: a length of so many bytes, and as many bytes as it says
pub data TwoFields : FormKind → ℕ → Type 0 where
  block2 : TwoFields Block2 2
  block4 : TwoFields Block4 4

-- ---- the fields of the entry at `key`, in their order

module _ (r : Source) (erased : Bool) (levels : ℕ) (m : Mode) (key : ℕ) where
  -- its size is there, and a tag is to follow
  pub record SizeRead : Type 0 where
    pub size_there : key + 4 ≤ length r.section
    pub long : 8 ≤ value_of m.endian 4 r.section key

  -- its tag is there too, and known
  pub record TagRead (kind : ℕ) : Type 0 where
    pub sized : SizeRead
    pub tag_there : key + 6 ≤ length r.section
    pub kind_is : value_of m.endian 2 r.section (key + 4) ≡ kind
    pub tag_known : is_on kind tags ≡ true

  -- it is padding that is read as an erased root: the flag is on, and a level is left
  pub record IsRoot : Type 0 where
    pub tagged : TagRead tag.padding
    pub flag_on : erased ≡ true
    pub level_left : 0 < levels

  -- how its attributes are read: as a root's or not, in which endianness
  pub data ReadAs : Bool → Endian → Type 0 where
    as_ordinary : {kind : ℕ} → TagRead kind → (kind ≡ tag.padding → ⊥) → ReadAs false m.endian
    as_root : {e : Endian} → IsRoot → root_endian r.vendors r.section m.erased m.endian key ≡ gives e → ReadAs true e

  -- another attribute begins at a place: it is before the entry's end, and a root's attributes do not end there
  pub record GoesOn (e : Endian) (high : Bool) (at : ℕ) : Type 0 where
    pub before_end : at < key + value_of m.endian 4 r.section key
    pub not_ended : run_ends r.global r.section e high at ≡ false

  -- its attributes were read up to a place, of a root's a HighPc among them or not
  pub data ReadUpTo (root : Bool) (e : Endian) : Bool → ℕ → Type 0 where
    none_yet : ReadUpTo root e false (key + 6)
    one_more : {high : Bool} {at n value next : ℕ} → ReadUpTo root e high at → GoesOn e high at
        → read_attribute r.vendors e r.section at ≡ found n value next → ReadUpTo root e (high || (root && eqb n number.high_pc)) next

  -- an attribute begins at a place, read in this endianness: all before it were read
  pub record AttributeAt (e : Endian) (at : ℕ) : Type 0 where
    pub root : Bool
    pub high : Bool
    pub read_as : ReadAs root e
    pub read_before : ReadUpTo root e high at
    pub goes_on : GoesOn e high at

  -- its number is there, and known
  pub record NumberRead (e : Endian) (at n : ℕ) : Type 0 where
    pub attribute : AttributeAt e at
    pub number_there : at + 2 ≤ length r.section
    pub number_is : value_of e 2 r.section at ≡ n
    pub number_known : known r.vendors n ≡ true

  -- the field that refuses the entry: the refusal's number, and the field's first byte. Every field before it was read
  pub data Wants : ℕ → ℕ → Type 0 where
    no_size : NotThere r.section key 4 → Wants 4 key
    no_tag : SizeRead → NotThere r.section (key + 4) 2 → Wants 4 (key + 4)
    unknown_tag : SizeRead → key + 6 ≤ length r.section → is_on (value_of m.endian 2 r.section (key + 4)) tags ≡ false → Wants 5 (key + 4)
    no_look : IsRoot → m.erased ≡ false → NotThere r.section (key + 6) 2 → Wants 4 (key + 6)
    no_number : {e : Endian} {at : ℕ} → AttributeAt e at → NotThere r.section at 2 → Wants 4 at
    unknown_number : {e : Endian} {at : ℕ} → AttributeAt e at → at + 2 ≤ length r.section
        → known r.vendors (value_of e 2 r.section at) ≡ false → Wants 6 at
    no_value : {e : Endian} {at n w : ℕ} → NumberRead e at n → OneField (form_of n) w → NotThere r.section (at + 2) w → Wants 4 (at + 2)
    no_zero : {e : Endian} {at n : ℕ} → NumberRead e at n → form_of n ≡ String → NoZero r.section (at + 2) → Wants 4 (at + 2)
    no_length : {e : Endian} {at n w : ℕ} → NumberRead e at n → TwoFields (form_of n) w → NotThere r.section (at + 2) w → Wants 4 (at + 2)
    no_bytes : {e : Endian} {at n w : ℕ} → NumberRead e at n → TwoFields (form_of n) w → at + 2 + w ≤ length r.section
        → NotThere r.section (at + 2 + w) (value_of e w r.section (at + 2)) → Wants 4 (at + 2 + w)

-- ---- how reading comes to an entry

module _ (r : Source) (erased : Bool) (e : Endian) where
  -- to a place, with so many levels still allowed, in this mode, up to this end, behind so many attributes: from the section's beginning, past an
  -- entry, into an erased root, and out of it behind what stands inside
  pub data Comes : ℕ → Mode → ℕ → ℕ → ℕ → Type 0 where
    begins : Comes erased_limit (mode false e) (length r.section) 0 0
    passes : {l : ℕ} {m : Mode} {end a at place : ℕ} {rs : List Row} {xs : List Attr} → Comes l m end a at → at < end
        → read_entry r erased l m at a ≡ gives (next rs xs place) → Comes l m end (a + length xs) place
    enters : {l : ℕ} {m : Mode} {end a at place end' : ℕ} {row : Row} {xs : List Attr} {e' : Endian} → Comes (suc l) m end a at → at < end
        → read_entry r erased (suc l) m at a ≡ gives (inside row xs place e' end') → Comes l (mode true e') end' (a + length xs) place
    leaves : {l : ℕ} {m : Mode} {end a at place end' : ℕ} {row : Row} {xs : List Attr} {e' : Endian} {all : Entries} → Comes (suc l) m end a at
        → at < end → read_entry r erased (suc l) m at a ≡ gives (inside row xs place e' end')
        → read_tags r erased l (mode true e') end' (a + length xs) place ≡ gives all
        → Comes (suc l) m end (a + length (xs ++ all.attrs)) all.stopped

-- ---- what an answer tells

-- reading comes to the entry at `key`, and the field that begins at `byte` refuses it by this number
pub record ByteWanted (settings : Settings) (vendors s : List ℕ) (number key byte : ℕ) : Type 0 where
  pub levels : ℕ
  pub how : Mode
  pub end : ℕ
  pub attrs : ℕ
  pub comes : Comes (source vendors settings.roles.global_ref s) settings.erased settings.endian levels how end attrs key
  pub before_end : key < end
  pub wants : Wants (source vendors settings.roles.global_ref s) settings.erased levels how key number byte

-- 4 to 6 tell the byte that was wanted; 1, 2 and 7 nothing; 8 two counts
abbrev pub TellsByte : Settings → List ℕ → List ℕ → Said Counts → Type 0
TellsByte settings vendors s (gives counts) = Unit
TellsByte settings vendors s (refuses number key []) = (number ≡ 1) ⊎ ((number ≡ 2) ⊎ (number ≡ 7))
TellsByte settings vendors s (refuses number key (byte ∷ [])) = ByteWanted settings vendors s number key byte
TellsByte settings vendors s (refuses number key (rows ∷ attrs ∷ more)) = number ≡ 8
