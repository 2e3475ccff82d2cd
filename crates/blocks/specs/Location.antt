-- Locations (document 01, 'Types, records, sizes'; STANDARD.md 19): a location is a run of atoms, each a byte and its operand.
use Rattle.format.specs.declared.refusal.Refusal.{Refusal}
use Rattle.std.specs.Prelude.{ℕ, suc, ◌+◌, Bool, cond, ◌&&◌, ◌||◌, List, [], ◌∷◌, length, ◌==◌, slice_index, Result, Ok, Err}
use Rattle.numbers.specs.Value.{read_at}
use Rattle.numbers.specs.declared.Endian.{Endian}
use Rattle.format.specs.declared.location_op.LocationOp.{LocationOp}
use Rattle.format.specs.declared.location_op.LocationOp.TheVariants.{Register, BaseRegister, Address, Const, Deref2, Deref4, Add, MwFpReg, MwFpDReg}
use Rattle.format.specs.declared.location_op.LocationOp.TheVariants.{MwDRef8, Unknown}
use Rattle.format.specs.declared.refusal.Reason.TheVariants as reason
use Rattle.format.specs.Said.{Said, gives, refuse, refusal, must, ◌>>◌}
use Rattle.blocks.specs.declared.location.VariableLocation.{VariableLocation}
use Rattle.blocks.specs.declared.location.VariableLocation.TheVariants as variable

-- ---- what the answers say; a refusal of a block alone has the place 0

-- where a variable is: in a register, at an address, at a register plus an offset
pub data VariablePlace : Type 0 where
  in_register : ℕ → VariablePlace
  at_address : ℕ → VariablePlace
  at_register_plus : ℕ → ℕ → VariablePlace

-- such a place
unfoldable pub said_variable_location : Result VariableLocation Refusal → Said VariablePlace
said_variable_location (Ok (variable.Register n)) = gives (in_register n)
said_variable_location (Ok (variable.Address n)) = gives (at_address n)
said_variable_location (Ok (variable.RegisterPlus r n)) = gives (at_register_plus r n)
said_variable_location (Err why) = refusal why

-- ---- atoms

-- the byte that says an atom; no byte says Unknown
unfoldable pub atom_number : LocationOp → ℕ
atom_number Register = 0x01
atom_number BaseRegister = 0x02
atom_number Address = 0x03
atom_number Const = 0x04
atom_number Deref2 = 0x05
atom_number Deref4 = 0x06
atom_number Add = 0x07
atom_number MwFpReg = 0x80
atom_number MwFpDReg = 0x81
atom_number MwDRef8 = 0x82
atom_number Unknown = 0x100

-- the bytes of its operand: a register's number, an address, a constant; Metrowerks' own registers as the standard's
unfoldable pub operand_width : LocationOp → ℕ
operand_width Register = 4
operand_width BaseRegister = 4
operand_width Address = 4
operand_width Const = 4
operand_width Deref2 = 0
operand_width Deref4 = 0
operand_width Add = 0
operand_width MwFpReg = 4
operand_width MwFpDReg = 4
operand_width MwDRef8 = 0
operand_width Unknown = 0

-- the block, from a place on, is made of these atoms with their operands, and of nothing else
unfoldable pub made_of : List LocationOp → List ℕ → ℕ → Bool
unfolding atom_number operand_width
made_of [] block at = length block == at
made_of (op ∷ ops) block at = slice_index block at == atom_number op && made_of ops block (suc (at + operand_width op))

-- the operand that begins at a place; of a block that is made of atoms it is there
unfoldable pub operand_at : Endian → List ℕ → ℕ → ℕ
operand_at e block at = read_at (λ (n : ℕ). n) 0 e 4 block at

-- ---- the shapes that are taken

-- the first operand of a block that is made of these atoms; any other block is 17
unfoldable pub shape_operand : List LocationOp → Endian → List ℕ → Said ℕ
unfolding made_of
shape_operand ops e block = do
  must (made_of ops block 0) reason.Block 0
  gives (operand_at e block 1)

-- `process_offset`: CONST n, ADD
abbrev pub process_offset : Endian → List ℕ → Said ℕ
process_offset e block = shape_operand (Const ∷ Add ∷ []) e block

-- `process_address`: ADDR a
abbrev pub process_address : Endian → List ℕ → Said ℕ
process_address e block = shape_operand (Address ∷ []) e block

-- a register alone: REG r, BASEREG r, or Metrowerks' floating one
unfoldable pub is_register : List ℕ → Bool
unfolding made_of
is_register block = made_of (Register ∷ []) block 0 || (made_of (BaseRegister ∷ []) block 0 || made_of (MwFpReg ∷ []) block 0)

-- a register plus an offset: BASEREG r, CONST n, ADD
unfoldable pub is_register_plus : List ℕ → Bool
unfolding made_of
is_register_plus block = made_of (BaseRegister ∷ Const ∷ Add ∷ []) block 0

-- `process_variable_location`: a register, an address, or a register plus an offset
unfoldable pub process_variable_location : Endian → List ℕ → Said VariablePlace
unfolding made_of
process_variable_location e block =
    cond (is_register block) (gives (in_register (operand_at e block 1)))
    (cond (made_of (Address ∷ []) block 0) (gives (at_address (operand_at e block 1)))
    (cond (is_register_plus block) (gives (at_register_plus (operand_at e block 1) (operand_at e block 6))) (refuse reason.Block 0)))
