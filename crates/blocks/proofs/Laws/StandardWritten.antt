-- Nothing else is taken: a block that is taken as a location is the written form of what was read.
use Rattle.std.proofs.Common.{◌≡◌, ℕ, suc, ◌+◌, Bool, true, false, ◌||◌, ◌⊎◌, List, [], ◌∷◌, sym, refl, ap, ◌∙◌, subst, inl, inr}
use Rattle.numbers.proofs.Laws.Tests.{cond-all}
use Rattle.numbers.specs.Value.{value_of, read_at}
use Rattle.numbers.proofs.Laws.Value.{read_all}
use Rattle.numbers.specs.Written.{Bytes}
use Rattle.numbers.specs.declared.Endian.{Endian}
use Rattle.numbers.specs.declared.Endian.TheVariants.{Big, Little}
use Rattle.standard.specs.Locations.{Atom, REG, BASEREG, ADDR, CONST, DEREF2, DEREF4, ADD, written_atom, written_location, plus}
use Rattle.format.specs.declared.location_op.LocationOp.TheVariants.{Register, BaseRegister, Address, Const, Add, MwFpReg}
use Rattle.format.specs.Said.{gives}
use Rattle.format.proofs.Laws.Said.{Of, of_test}
use Rattle.blocks.specs.Location.{VariablePlace, in_register, at_address, at_register_plus, shape_operand, atom_number, operand_width, made_of, operand_at, is_register, is_register_plus, process_offset, process_address, process_variable_location}
use Rattle.blocks.specs.Standard.{op_of, ops_of, operand_of}
use Rattle.blocks.specs.Vendor.{AlsoRegister}
use Rattle.blocks.proofs.Laws.Atoms.{piece, spelt_piece, spelt, number_at, pieces_at, made-spelt, alone-spelt}
use Rattle.blocks.proofs.Laws.StandardRead.{no_bytes, as_pieces, location-agrees}
use Rattle.blocks.proofs.Laws.Vendor.{fp-spelt}

-- ---- any run of atoms

-- the same atom with another operand
unfoldable with : Atom → ℕ → Atom
with (REG k) n = REG n
with (BASEREG k) n = BASEREG n
with (ADDR k) n = ADDR n
with (CONST k) n = CONST n
with DEREF2 n = DEREF2
with DEREF4 n = DEREF4
with ADD n = ADD

with-op : (a : Atom) (n : ℕ) → op_of (with a n) ≡ op_of a
unfolding with op_of
with-op (REG k) n = refl
with-op (BASEREG k) n = refl
with-op (ADDR k) n = refl
with-op (CONST k) n = refl
with-op DEREF2 n = refl
with-op DEREF4 n = refl
with-op ADD n = refl

with-spelt : (e : Endian) (a : Atom) (n : ℕ) → spelt_piece e (piece (op_of a) n) ≡ written_atom e (with a n)
unfolding spelt_piece atom_number operand_width op_of with written_atom
with-spelt e (REG k) n = refl
with-spelt e (BASEREG k) n = refl
with-spelt e (ADDR k) n = refl
with-spelt e (CONST k) n = refl
with-spelt e DEREF2 n = ap (λ (xs : List ℕ). 5 ∷ xs) (sym (no_bytes e n))
with-spelt e DEREF4 n = ap (λ (xs : List ℕ). 6 ∷ xs) (sym (no_bytes e n))
with-spelt e ADD n = ap (λ (xs : List ℕ). 7 ∷ xs) (sym (no_bytes e n))

module _ (e : Endian) (s : List ℕ) where
  -- these atoms with the operands that stand in a block from a place on
  unfoldable atoms_at : ℕ → List Atom → List Atom
  atoms_at at [] = []
  atoms_at at (a ∷ atoms) = with a (number_at e s at (op_of a)) ∷ atoms_at (suc (at + operand_width (op_of a))) atoms

  same-ops : (at : ℕ) (atoms : List Atom) → ops_of (atoms_at at atoms) ≡ ops_of atoms
  unfolding atoms_at ops_of
  same-ops at [] = refl
  same-ops at (a ∷ atoms) = rw (with-op a (number_at e s at (op_of a)), same-ops (suc (at + operand_width (op_of a))) atoms)

  same_bytes : (at : ℕ) (atoms : List Atom) → spelt e (pieces_at e s at (ops_of atoms)) ≡ written_location e (atoms_at at atoms)
  unfolding atoms_at ops_of spelt pieces_at written_location
  same_bytes at [] = refl
  same_bytes at (a ∷ atoms) = rw (with-spelt e a (number_at e s at (op_of a)), same_bytes (suc (at + operand_width (op_of a))) atoms)

  -- a block made of atoms is a location that is written with those atoms
  pub made-written : Bytes s → (atoms : List Atom) → made_of (ops_of atoms) s 0 ≡ true
      → (read : List Atom) × (ops_of read ≡ ops_of atoms) × (s ≡ written_location e read)
  made-written small atoms h = (atoms_at 0 atoms, same-ops 0 atoms, made-spelt e s small (ops_of atoms) h ∙ same_bytes 0 atoms)

-- ---- the shapes

-- an atom without operand has none
no_operand : (e : Endian) (s : List ℕ) (at : ℕ) → read_at (λ (n : ℕ). n) 0 e 0 s at ≡ 0
unfolding value_of
no_operand Big s at = read_all (λ (n : ℕ). n) 0 Big 0 s at (λ (n : ℕ). n ≡ 0) (λ t. refl) (λ t. refl)
no_operand Little s at = read_all (λ (n : ℕ). n) 0 Little 0 s at (λ (n : ℕ). n ≡ 0) (λ t. refl) (λ t. refl)

-- one of two tests passed
either : (a b : Bool) → (a || b) ≡ true → (a ≡ true) ⊎ (b ≡ true)
either true b h = inl refl
either false b h = inr h

-- what an answer says of the block
abbrev LocatedIn : Endian → (ℕ → List Atom) → List ℕ → ℕ → Type 0
LocatedIn e form block n = block ≡ written_location e (form n)

abbrev InRegister : Endian → List ℕ → ℕ → Type 0
InRegister e block n = (block ≡ written_location e (REG n ∷ [])) ⊎ AlsoRegister e block n

abbrev VariableIn : Endian → List ℕ → VariablePlace → Type 0
VariableIn e block (in_register n) = InRegister e block n
VariableIn e block (at_address n) = block ≡ written_location e (ADDR n ∷ [])
VariableIn e block (at_register_plus r n) = block ≡ written_location e (BASEREG r ∷ plus n)

module _ (e : Endian) {block : List ℕ} (small : Bytes block) where
  address-written : made_of (Address ∷ []) block 0 ≡ true → block ≡ written_location e (ADDR (operand_at e block 1) ∷ [])
  unfolding operand_width as_pieces op_of operand_of
  address-written h = alone-spelt e block small Address refl h ∙ sym (location-agrees e (ADDR (operand_at e block 1) ∷ []))

  plus-written : made_of (Const ∷ Add ∷ []) block 0 ≡ true → block ≡ written_location e (plus (operand_at e block 1))
  unfolding pieces_at operand_at operand_width as_pieces op_of operand_of
  plus-written h =
      made-spelt e block small (Const ∷ Add ∷ []) h
      ∙ ap (λ (k : ℕ). spelt e (piece Const (operand_at e block 1) ∷ piece Add k ∷ [])) (no_operand e block 6)
      ∙ sym (location-agrees e (plus (operand_at e block 1)))

  register-plus-written : is_register_plus block ≡ true → block ≡ written_location e (BASEREG (operand_at e block 1) ∷ plus (operand_at e block 6))
  unfolding is_register_plus pieces_at operand_at operand_width as_pieces op_of operand_of
  register-plus-written h =
      made-spelt e block small (BaseRegister ∷ Const ∷ Add ∷ []) h
      ∙ ap (λ (k : ℕ). spelt e (piece BaseRegister (operand_at e block 1) ∷ piece Const (operand_at e block 6) ∷ piece Add k ∷ [])) (no_operand e block 11)
      ∙ sym (location-agrees e (BASEREG (operand_at e block 1) ∷ plus (operand_at e block 6)))

  register-written : is_register block ≡ true → InRegister e block (operand_at e block 1)
  unfolding is_register operand_width as_pieces op_of operand_of
  register-written h =
      elim (either (made_of (Register ∷ []) block 0) (made_of (BaseRegister ∷ []) block 0 || made_of (MwFpReg ∷ []) block 0) h) [
        | inl r ↦ inl (alone-spelt e block small Register refl r ∙ sym (location-agrees e (REG (operand_at e block 1) ∷ [])))
        | inr k ↦
            elim (either (made_of (BaseRegister ∷ []) block 0) (made_of (MwFpReg ∷ []) block 0) k) [
              | inl r ↦ inr (inl (alone-spelt e block small BaseRegister refl r ∙ sym (location-agrees e (BASEREG (operand_at e block 1) ∷ []))))
              | inr r ↦ inr (inr (alone-spelt e block small MwFpReg refl r ∙ fp-spelt e (operand_at e block 1)))
            ]
      ]

  -- ---- the answers

  pub offset-only : {n : ℕ} → process_offset e block ≡ gives n → block ≡ written_location e (plus n)
  unfolding shape_operand
  offset-only p = subst (Of (LocatedIn e plus block)) p (of_test (LocatedIn e plus block) _ _ _ _ (λ h. plus-written h))

  pub address-only : {n : ℕ} → process_address e block ≡ gives n → block ≡ written_location e (ADDR n ∷ [])
  unfolding shape_operand
  address-only p =
      subst (Of (LocatedIn e (λ n. ADDR n ∷ []) block)) p (of_test (LocatedIn e (λ n. ADDR n ∷ []) block) _ _ _ _ (λ h. address-written h))

  variable-in : Of (VariableIn e block) (process_variable_location e block)
  unfolding process_variable_location
  variable-in =
      cond-all (Of (VariableIn e block)) (is_register block) (λ h. register-written h)
      (λ h. cond-all (Of (VariableIn e block)) (made_of (Address ∷ []) block 0) (λ k. address-written k)
      (λ k. cond-all (Of (VariableIn e block)) (is_register_plus block) (λ l. register-plus-written l) (λ l. tt)))

  -- besides REG r, two blocks that are not the standard's
  pub register-only : {n : ℕ} → process_variable_location e block ≡ gives (in_register n)
      → (block ≡ written_location e (REG n ∷ [])) ⊎ AlsoRegister e block n
  register-only p = subst (Of (VariableIn e block)) p variable-in

  pub variable-address-only : {n : ℕ} → process_variable_location e block ≡ gives (at_address n) → block ≡ written_location e (ADDR n ∷ [])
  variable-address-only p = subst (Of (VariableIn e block)) p variable-in

  pub register-plus-only : {r n : ℕ} → process_variable_location e block ≡ gives (at_register_plus r n) → block ≡ written_location e (BASEREG r ∷ plus n)
  register-plus-only p = subst (Of (VariableIn e block)) p variable-in
