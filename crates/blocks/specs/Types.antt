-- Types (document 01, 'Types, records, sizes'; the Rust's `process_type`). A refusal is that of a block alone: bytes missing 17, a number that is
-- not known 18.
use Rattle.std.specs.Prelude.{ℕ, ◌+◌, ◌-◌, ◌≤◌, cond, List, [], length, take, ◌==◌, nat_le, Option, Some, None}
use Rattle.numbers.specs.Value.{value_of, read_at}
use Rattle.numbers.specs.declared.Endian.{Endian}
use Rattle.format.specs.AttributeKind as attribute
use Rattle.format.specs.FundType.{parse_int}
use Rattle.format.specs.Said.{Said, gives, refuse, must, ◌>>=◌, ◌>>◌}
use Rattle.format.specs.declared.refusal.Reason.TheVariants as reason
use Rattle.attributes.specs.Parts.{block_at}
use Rattle.attributes.specs.declared.decode.Endians.{Endians}
use Rattle.blocks.specs.Modifiers.{process_modifiers}
use Rattle.blocks.specs.declared.types.TypeKind.{TypeKind}
use Rattle.blocks.specs.declared.types.TypeKind.TheVariants.{Fundamental, UserDefined}
use Rattle.blocks.specs.declared.types.Type.{«Type»}

-- ---- numbers

-- the number that w bytes from a place on say; 17 where they are not there
unfoldable pub number_in : Endian → ℕ → List ℕ → ℕ → Said ℕ
number_in e w s at = read_at gives (refuse reason.Block 0) e w s at

-- the number of a fundamental type that is known; 18 otherwise
unfoldable pub known_number : Option ℕ → Said ℕ
known_number (Some n) = gives n
known_number None = refuse reason.Number 0

-- ---- modifiers and a type

-- a type of this kind with these modifiers in front, which stand from `place` on
unfoldable pub modified : ℕ → List ℕ → TypeKind → Said «Type»
modified place ms kind = do
  pointer ← process_modifiers ms
  gives (record { kind = kind; place = place; count = length ms; pointer = pointer })

-- the same for a fundamental type: its number passes through `parse_int` and is looked at before the modifiers
unfoldable pub fundamental : ℕ → List ℕ → ℕ → Said «Type»
fundamental place ms number = do
  n ← known_number (parse_int number)
  modified place ms (Fundamental n)

-- FundType: two bytes of data
unfoldable pub fund_type : Endians → List ℕ → ℕ → Said «Type»
fund_type ends s at = do
  number ← number_in ends.«data» 2 s at
  fundamental at [] number

-- UserDefType: a reference
unfoldable pub user_def_type : Endians → List ℕ → ℕ → Said «Type»
user_def_type ends s at = do
  key ← number_in ends.section 4 s at
  modified at [] (UserDefined key)

-- a block of modifiers and then w bytes: the type that `type` makes of the modifiers and of the number which those bytes say; 17 where there are
-- fewer
unfoldable pub last_bytes : ℕ → Endian → List ℕ → (List ℕ → ℕ → Said «Type») → Said «Type»
last_bytes w e block type = do
  must (nat_le w (length block)) reason.Block 0
  type (take (length block - w) block) (value_of e w block (length block - w))

-- ModFundType: modifiers, then two bytes of fundamental type
unfoldable pub mod_fund_type : Endian → ℕ → List ℕ → Said «Type»
mod_fund_type e place block = last_bytes 2 e block (fundamental place)

-- ModUDType: modifiers, then four bytes of reference
unfoldable pub mod_ud_type : Endian → ℕ → List ℕ → Said «Type»
mod_ud_type e place block = last_bytes 4 e block (λ ms key. modified place ms (UserDefined key))

-- `process_type`: the type that an attribute of this number says, its value at `at`; numbers inside a block are in section endianness. A block that
-- is not there has no bytes
unfoldable pub process_type : Endians → List ℕ → ℕ → ℕ → Said «Type»
process_type ends s number at =
    cond (number == attribute.fund_type) (fund_type ends s at)
    (cond (number == attribute.mod_fund_type) (mod_fund_type ends.section (at + 2) (block_at ends.«data» 2 s at))
    (cond (number == attribute.user_def_type) (user_def_type ends s at)
    (cond (number == attribute.mod_ud_type) (mod_ud_type ends.section (at + 2) (block_at ends.«data» 2 s at)) (refuse reason.Block 0))))

-- the modifiers of a type are a part of what it was read from
abbrev pub ModifiersInside : List ℕ → «Type» → Type 0
ModifiersInside s t = t.place + t.count ≤ length s
