-- What the theorems against the standard say of the reader. What is written, and how, the crate `standard` says.
use Rattle.std.specs.Prelude.{◌≡◌, ℕ, ◌+◌, ◌*◌, ◌%◌, ◌<◌, ◌≤◌, Bool, true, false, cond, List, [], ◌∷◌, ◌++◌, length, ◌==◌, slice_index}
use Rattle.numbers.specs.Value.{value_of}
use Rattle.numbers.specs.declared.Endian.{Endian}
use Rattle.standard.specs.Numbers.{OnList, fundamental_types, Form, form_number}
use Rattle.standard.specs.Entries.{Value, number, bytes, Written}
use Rattle.standard.specs.Locations.{Atom, REG, BASEREG, ADDR, CONST, DEREF2, DEREF4, ADD}
use Rattle.standard.specs.Types.{Modifier, pointer-to, reference-to, const, volatile, Base, fundamental, defined, Typed, Says}
use Rattle.standard.specs.Types as standard
use Rattle.standard.specs.Subscripts.{Dimension}
use Rattle.format.specs.declared.location_op.LocationOp.{LocationOp}
use Rattle.format.specs.declared.location_op.LocationOp.TheVariants as op
use Rattle.format.specs.declared.modifier.Modifier as reader
use Rattle.attributes.specs.declared.decode.Endians.{Endians}
use Rattle.blocks.specs.declared.types.TypeKind.{TypeKind}
use Rattle.blocks.specs.declared.types.TypeKind.TheVariants.{Fundamental, UserDefined}
use Rattle.blocks.specs.declared.types.Type.{«Type»}

-- ---- locations

-- the reader's name of an atom
unfoldable pub op_of : Atom → LocationOp
op_of (REG n) = op.Register
op_of (BASEREG n) = op.BaseRegister
op_of (ADDR n) = op.Address
op_of (CONST n) = op.Const
op_of DEREF2 = op.Deref2
op_of DEREF4 = op.Deref4
op_of ADD = op.Add

-- of each
unfoldable pub ops_of : List Atom → List LocationOp
ops_of [] = []
ops_of (a ∷ atoms) = op_of a ∷ ops_of atoms

-- its operand, 0 of an atom without one
unfoldable pub operand_of : Atom → ℕ
operand_of (REG n) = n
operand_of (BASEREG n) = n
operand_of (ADDR n) = n
operand_of (CONST n) = n
operand_of DEREF2 = 0
operand_of DEREF4 = 0
operand_of ADD = 0

-- ---- types

-- the reader's name of a modifier
unfoldable pub modifier_named : Modifier → reader.Modifier
modifier_named pointer-to = reader.TheVariants.PointerTo
modifier_named reference-to = reader.TheVariants.ReferenceTo
modifier_named const = reader.TheVariants.Const
modifier_named volatile = reader.TheVariants.Volatile

-- a pointer or a reference stands among modifiers
unfoldable pub points : List Modifier → Bool
points [] = false
points (pointer-to ∷ ms) = true
points (reference-to ∷ ms) = true
points (const ∷ ms) = points ms
points (volatile ∷ ms) = points ms

-- what is modified, as the reader answers it
unfoldable pub kind_of : Base → TypeKind
kind_of (fundamental type on) = Fundamental type
kind_of (defined key small) = UserDefined key

-- a type as the reader answers it, its modifiers beginning at a place
unfoldable pub type_at : ℕ → Typed → «Type»
type_at place t = record { kind = kind_of t.base; place = place; count = length t.modifiers; pointer = points t.modifiers }

-- where the bytes that a value says begin: in a block of 2 behind its length
unfoldable pub said_from : ℕ → Value → ℕ
said_from at (number n) = at
said_from at (bytes xs) = at + 2

-- the numbers of the four type attributes
unfoldable pub type_numbers : List ℕ
type_numbers = standard.fund_type ∷ standard.mod_fund_type ∷ standard.user_def_type ∷ standard.mod_ud_type ∷ []

-- at a place of a section stands the value of an attribute of this number, in its form, and says this type
pub record SaysAt (e : Endian) (s : List ℕ) (kind at : ℕ) (t : Typed) (value : Value) : Type 0 where
  pub form : Form
  pub before : List ℕ
  pub body : List ℕ
  pub behind : List ℕ
  pub says : Says e t kind value
  pub has_form : kind % 16 ≡ form_number form
  pub written : Written e form value body
  pub section : s ≡ before ++ (body ++ behind)
  pub place : length before ≡ at

-- the number of a fundamental type, at a place, is one of the standard's
abbrev pub StandardKind : Endian → List ℕ → ℕ → TypeKind → Type 0
StandardKind e s at (Fundamental type) = OnList (value_of e 2 s at) fundamental_types
StandardKind e s at (UserDefined key) = Unit

-- a type that was read out of a section has only the standard's numbers there: its modifiers, and behind them its fundamental type
pub record OfStandard (e : Endian) (s : List ℕ) (r : «Type») : Type 0 where
  pub modifiers : (i : ℕ) → i < r.count → (1 ≤ slice_index s (r.place + i)) × (slice_index s (r.place + i) ≤ 4)
  pub type : StandardKind e s (r.place + r.count) r.kind

-- one endianness for all
abbrev pub alike : Endian → Endians
alike e = record { section = e; «data» = e }

-- ---- subscripts

-- dimensions begin at 0 and have a last index; 0xFFFFFFFF would be told as none
abbrev pub FromZero : List Dimension → Type 0
FromZero [] = Unit
FromZero (d ∷ dims) = (d.low ≡ 0) × (d.high < 0xFFFFFFFF) × FromZero dims

-- what is told of each: its index type, and one more than its last index
unfoldable pub told_of : List Dimension → List ℕ
told_of [] = []
told_of (d ∷ dims) = d.index ∷ (d.high + 1) ∷ told_of dims

-- where the value of the element type's attribute stands: behind dimensions of 11 bytes, the format and the attribute's number
abbrev pub element_at : List Dimension → ℕ
element_at dims = length dims * 11 + 3

-- how many bytes the value of a type's attribute of this number takes, at a place: a fundamental type two, a reference four, a block the two of its
-- length and as many as that says
unfoldable pub type_bytes : Endian → List ℕ → ℕ → ℕ → ℕ
type_bytes e block kind at = cond (kind == standard.fund_type) 2 (cond (kind == standard.user_def_type) 4 (2 + value_of e 2 block at))

-- from a place on a block is dimensions of format 0, with index types of the standard and a last index, and then one element type, which ends it
pub data Plain (e : Endian) (block : List ℕ) : ℕ → Type 0 where
  ends : (at : ℕ) → slice_index block at ≡ 8 → at + 3 + type_bytes e block (value_of e 2 block (at + 1)) (at + 3) ≡ length block → Plain e block at
  more : (at : ℕ) → slice_index block at ≡ 0 → OnList (value_of e 2 block (at + 1)) fundamental_types → value_of e 4 block (at + 7) < 0xFFFFFFFF
      → Plain e block (at + 11) → Plain e block at
