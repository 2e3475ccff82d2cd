-- What follows from `Location`, for each way that the code comes to an answer.
use Rattle.std.specs.Prelude.{Option, Some, None, unwrap_or}
use Rattle.std.proofs.Common.{sym, ◌≡◌, ℕ, Bool, true, false, ◌&&◌, ◌||◌, eqb, List, [], ◌∷◌, length, get_or, refl, ap, ◌∙◌}
use Rattle.numbers.specs.Value.{read_at}
use Rattle.numbers.proofs.Laws.Value.{read-map}
use Rattle.numbers.specs.declared.Endian.{Endian}
use Rattle.format.specs.declared.location_op.LocationOp.{LocationOp}
use Rattle.format.specs.declared.location_op.LocationOp.TheVariants.{Address, Const, Add}
use Rattle.format.specs.declared.refusal.Reason.TheVariants as reason
use Rattle.format.specs.Said.{Said, gives, refuse}
use Rattle.format.proofs.Laws.Said.{must-passed}
use Rattle.blocks.specs.Location.{VariablePlace, in_register, at_address, at_register_plus, atom_number, operand_width, made_of, operand_at, is_register, is_register_plus, process_variable_location, shape_operand}

-- ---- operands

-- the number that was read, 0 for none
pub operand_read : (e : Endian) (block : List ℕ) (at : ℕ) → operand_at e block at ≡ unwrap_or (read_at Some None e 4 block at) 0
unfolding operand_at
operand_read e block at = sym (read-map Some None e 4 block at (λ (o : Option ℕ). unwrap_or o 0))

-- ---- the shapes, by their bytes

module _ (block : List ℕ) where
  pub address-made : made_of (Address ∷ []) block 0 ≡ (eqb (get_or block 0 0) 0x03 && eqb (length block) 5)
  unfolding made_of atom_number operand_width
  address-made = refl

  pub offset_made : made_of (Const ∷ Add ∷ []) block 0 ≡ (eqb (get_or block 0 0) 0x04 && (eqb (get_or block 5 0) 0x07 && eqb (length block) 6))
  unfolding made_of atom_number operand_width
  offset_made = refl

  pub register-made :
      is_register block
      ≡ ((eqb (get_or block 0 0) 0x01 && eqb (length block) 5)
      || ((eqb (get_or block 0 0) 0x02 && eqb (length block) 5) || (eqb (get_or block 0 0) 0x80 && eqb (length block) 5)))
  unfolding is_register made_of atom_number operand_width
  register-made = refl

  pub register-plus-made :
      is_register_plus block
      ≡ (eqb (get_or block 0 0) 0x02 && (eqb (get_or block 5 0) 0x04 && (eqb (get_or block 10 0) 0x07 && eqb (length block) 11)))
  unfolding is_register_plus made_of atom_number operand_width
  register-plus-made = refl

-- what the tests of the shapes stand on
pub ruleset shapes = (address-made, offset_made, register-made, register-plus-made)

-- ---- what a test that was made decides

module _ (ops : List LocationOp) (e : Endian) (block : List ℕ) {made : Bool} (is : made ≡ made_of ops block 0) where
  pub operand-taken : made ≡ true → {n : ℕ} → n ≡ operand_at e block 1 → gives n ≡ shape_operand ops e block
  unfolding shape_operand
  operand-taken h p = must-passed is _ _ _ h (ap gives p)

module _ (e : Endian) (block : List ℕ) {register : Bool} (is : register ≡ is_register block) where
  pub in-register : register ≡ true → {n : ℕ} → n ≡ operand_at e block 1 → gives (in_register n) ≡ process_variable_location e block
  unfolding process_variable_location
  in-register h p = rw (← is, h) (ap (λ (k : ℕ). gives (in_register k)) p)

  module _ (no_register : register ≡ false) {address : Bool} (is_Address : address ≡ made_of (Address ∷ []) block 0) where
    pub at_address_lem : address ≡ true → {n : ℕ} → n ≡ operand_at e block 1 → gives (at_address n) ≡ process_variable_location e block
    unfolding process_variable_location
    at_address_lem h p = rw (← is, no_register, ← is_Address, h) (ap (λ (k : ℕ). gives (at_address k)) p)

    module _ (no_address : address ≡ false) {plus : Bool} (is-plus : plus ≡ is_register_plus block) where
      pub at-register-plus : plus ≡ true → {r n : ℕ} → r ≡ operand_at e block 1 → n ≡ operand_at e block 6
          → gives (at_register_plus r n) ≡ process_variable_location e block
      unfolding process_variable_location
      at-register-plus h p q = rw (← is, no_register, ← is_Address, no_address, ← is-plus, h, p, q)

      pub nowhere : plus ≡ false → {z : Said VariablePlace} → z ≡ refuse reason.Block 0 → z ≡ process_variable_location e block
      unfolding process_variable_location
      nowhere h p = p ∙ rw (← is, no_register, ← is_Address, no_address, ← is-plus, h)
