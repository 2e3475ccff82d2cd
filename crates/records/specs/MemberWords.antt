-- A member's record as 16 words, for lent room: its row's number; of the name a flag, its place and its length; of the type 0 for a fundamental one
-- and 1 for a key, its number or key, place and count of its modifiers, whether a pointer stands among them; the offset; of the bits a flag, size
-- and offset; the visibility, 0 private, 1 protected, 2 public; of the ByteSize a flag and its value. A flag is 1 where the value is there.
use Rattle.records.specs.declared.fields.Text.{Text}
use Rattle.std.specs.Prelude.{Option, Some, None, ℕ, Bool, cond, List, [], ◌∷◌}
use Rattle.blocks.specs.declared.types.TypeKind.{TypeKind}
use Rattle.blocks.specs.declared.types.TypeKind.TheVariants as kind
use Rattle.records.specs.declared.fields.Visibility.{Visibility}
use Rattle.records.specs.declared.fields.Visibility.TheVariants as visibility
use Rattle.records.specs.declared.member.Bits.{Bits}
use Rattle.records.specs.declared.member.Member.{Member}

-- the words of a member
abbrev pub member_width : ℕ
member_width = 16

-- what goes into each of them
unfoldable pub bool_word : Bool → ℕ
bool_word b = cond b 1 0

-- 1 where a value is there
unfoldable pub flag : {A : Type 0} → Option A → ℕ
flag (Some x) = 1
flag None = 0

-- where a name stands
unfoldable pub name_place : Option Text → ℕ
name_place (Some text) = text.place
name_place None = 0

-- how long it is
unfoldable pub name_length : Option Text → ℕ
name_length (Some text) = text.length
name_length None = 0

-- 0 for a fundamental type, 1 for a user type
unfoldable pub kind_tag : TypeKind → ℕ
kind_tag (kind.Fundamental number) = 0
kind_tag (kind.UserDefined key) = 1

-- its number or key
unfoldable pub kind_number : TypeKind → ℕ
kind_number (kind.Fundamental number) = number
kind_number (kind.UserDefined key) = key

-- how many bits
unfoldable pub bits_size : Option Bits → ℕ
bits_size (Some bits) = bits.size
bits_size None = 0

-- from where on
unfoldable pub bits_offset : Option Bits → ℕ
bits_offset (Some bits) = bits.offset
bits_offset None = 0

-- the visibility as a number
unfoldable pub visibility_word : Visibility → ℕ
visibility_word visibility.Private = 0
visibility_word visibility.Protected = 1
visibility_word visibility.Public = 2

-- a number
unfoldable pub word_number : Option ℕ → ℕ
word_number (Some x) = x
word_number None = 0

-- all of them
unfoldable pub member_words : ℕ → Member → List ℕ
member_words row m =
    row ∷
    flag m.name ∷ name_place m.name ∷ name_length m.name ∷
    kind_tag m.of.kind ∷ kind_number m.of.kind ∷ m.of.place ∷ m.of.count ∷ bool_word m.of.pointer ∷
    m.offset ∷
    flag m.bits ∷ bits_size m.bits ∷ bits_offset m.bits ∷
    visibility_word m.visibility ∷
    flag m.byte_size ∷ word_number m.byte_size ∷ []
