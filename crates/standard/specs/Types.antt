-- How the standard writes a type: one of four attributes. Modifiers stand before what they modify, the first being the outermost.
use Rattle.std.specs.Prelude.{ℕ, ◌^◌, ◌<◌, List, [], ◌∷◌, ◌++◌}
use Rattle.numbers.specs.Written.{bytes_of}
use Rattle.numbers.specs.declared.Endian.{Endian}
use Rattle.standard.specs.Numbers.{OnList, fundamental_types}
use Rattle.standard.specs.Entries.{Value, number, bytes}

-- the four modifiers
pub data Modifier : Type 0 where
  pointer-to reference-to const volatile : Modifier

-- a modifier's byte
unfoldable pub modifier_byte : Modifier → ℕ
modifier_byte pointer-to = 1
modifier_byte reference-to = 2
modifier_byte const = 3
modifier_byte volatile = 4

-- their bytes, in order
unfoldable pub modifier_bytes : List Modifier → List ℕ
modifier_bytes [] = []
modifier_bytes (m ∷ ms) = modifier_byte m ∷ modifier_bytes ms

-- what is modified: a fundamental type, or the type that an entry defines, named by where it begins
pub data Base : Type 0 where
  fundamental : (type : ℕ) → OnList type fundamental_types → Base
  defined : (key : ℕ) → key < 256 ^ 4 → Base

-- a type
pub record Typed : Type 0 where
  pub modifiers : List Modifier
  pub base : Base

-- the attributes AT_fund_type, AT_mod_fund_type, AT_user_def_type, AT_mod_u_d_type
abbrev pub fund_type : ℕ
fund_type = 0x0055

-- a block of modifiers and a fundamental type of two bytes
abbrev pub mod_fund_type : ℕ
mod_fund_type = 0x0063

-- a reference
abbrev pub user_def_type : ℕ
user_def_type = 0x0072

-- a block of modifiers and a reference of four bytes
abbrev pub mod_ud_type : ℕ
mod_ud_type = 0x0083

-- a type is said by an attribute of this number with this value
pub data Says (e : Endian) : Typed → ℕ → Value → Type 0 where
  fund : (type : ℕ) (on : OnList type fundamental_types) → Says e (record { modifiers = []; base = fundamental type on }) fund_type (number type)
  mod_fund : (ms : List Modifier) (type : ℕ) (on : OnList type fundamental_types)
      → Says e (record { modifiers = ms; base = fundamental type on }) mod_fund_type (bytes (modifier_bytes ms ++ bytes_of e 2 type))
  user : (key : ℕ) (small : key < 256 ^ 4) → Says e (record { modifiers = []; base = defined key small }) user_def_type (number key)
  mod_user : (ms : List Modifier) (key : ℕ) (small : key < 256 ^ 4)
      → Says e (record { modifiers = ms; base = defined key small }) mod_ud_type (bytes (modifier_bytes ms ++ bytes_of e 4 key))
