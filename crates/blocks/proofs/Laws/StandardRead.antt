-- What the standard writes in the shapes of location that are taken is read back.
use Rattle.std.proofs.Common.{◌≡◌, ℕ, ◌^◌, ◌<◌, true, false, List, [], ◌∷◌, get_or, sym, refl, ap, ◌∙◌}
use Rattle.numbers.specs.Written.{bytes_of}
use Rattle.numbers.specs.declared.Endian.{Endian}
use Rattle.numbers.specs.declared.Endian.TheVariants.{Big, Little}
use Rattle.standard.specs.Locations.{Atom, REG, BASEREG, ADDR, CONST, DEREF2, DEREF4, ADD, written_atom, written_location, plus}
use Rattle.format.specs.LocationOp.{location_op_of}
use Rattle.format.specs.declared.location_op.LocationOp.TheVariants.{Address, Const, Add}
use Rattle.format.specs.Said.{gives}
use Rattle.blocks.specs.Location.{in_register, at_address, at_register_plus, atom_number, operand_width, made_of, operand_at, is_register, is_register_plus, process_offset, process_address, process_variable_location}
use Rattle.blocks.specs.Standard.{op_of, ops_of, operand_of}
use Rattle.blocks.proofs.Laws.Location.{operand-taken, in-register, at_address_lem, at-register-plus}
use Rattle.blocks.proofs.Laws.Atoms.{Piece, piece, spelt_piece, spelt, ops, number_known, spelt-made, first-operand, second-operand}

-- ---- the atoms

pub no_bytes : (e : Endian) (n : ℕ) → [] ≡ bytes_of e 0 n
unfolding bytes_of
no_bytes Big n = refl
no_bytes Little n = refl

-- the standard's bytes of an atom are the reader's number and as many bytes of operand as the reader takes
pub atom-agrees : (e : Endian) (a : Atom) → written_atom e a ≡ atom_number (op_of a) ∷ bytes_of e (operand_width (op_of a)) (operand_of a)
unfolding written_atom atom_number operand_width op_of operand_of
atom-agrees e (REG n) = refl
atom-agrees e (BASEREG n) = refl
atom-agrees e (ADDR n) = refl
atom-agrees e (CONST n) = refl
atom-agrees e DEREF2 = ap (λ (xs : List ℕ). 5 ∷ xs) (no_bytes e 0)
atom-agrees e DEREF4 = ap (λ (xs : List ℕ). 6 ∷ xs) (no_bytes e 0)
atom-agrees e ADD = ap (λ (xs : List ℕ). 7 ∷ xs) (no_bytes e 0)

-- its first byte says that atom in `format`'s table
pub atom-known : (e : Endian) (a : Atom) → location_op_of (get_or (written_atom e a) 0 0) ≡ op_of a
atom-known e a = ap (λ (xs : List ℕ). location_op_of (get_or xs 0 0)) (atom-agrees e a) ∙ number_known (op_of a)

-- ---- any run of atoms

unfoldable pub as_pieces : List Atom → List Piece
as_pieces [] = []
as_pieces (a ∷ atoms) = piece (op_of a) (operand_of a) ∷ as_pieces atoms

pub location-agrees : (e : Endian) (atoms : List Atom) → written_location e atoms ≡ spelt e (as_pieces atoms)
unfolding written_location spelt spelt_piece as_pieces
location-agrees e [] = refl
location-agrees e (a ∷ atoms) = rw (atom-agrees e a, location-agrees e atoms)

ops-agree : (atoms : List Atom) → ops (as_pieces atoms) ≡ ops_of atoms
unfolding ops as_pieces ops_of
ops-agree [] = refl
ops-agree (a ∷ atoms) = rw (ops-agree atoms)

-- what is written is made of what was to be written
pub made-of : (e : Endian) (atoms : List Atom) → made_of (ops_of atoms) (written_location e atoms) 0 ≡ true
made-of e atoms = rw (← ops-agree atoms, location-agrees e atoms) (spelt-made e (as_pieces atoms))

module _ (e : Endian) (a : Atom) (width : operand_width (op_of a) ≡ 4) where
  pub operand-first : (atoms : List Atom) → operand_of a < 256 ^ 4 → operand_of a ≡ operand_at e (written_location e (a ∷ atoms)) 1
  unfolding as_pieces
  operand-first atoms h =
      sym (ap (λ (s : List ℕ). operand_at e s 1) (location-agrees e (a ∷ atoms)) ∙ first-operand e (piece (op_of a) (operand_of a)) width (as_pieces atoms) h)

  operand-second : (b : Atom) (atoms : List Atom) → operand_width (op_of b) ≡ 4 → operand_of b < 256 ^ 4
      → operand_of b ≡ operand_at e (written_location e (a ∷ b ∷ atoms)) 6
  unfolding as_pieces
  operand-second b atoms w h =
      sym
      (ap (λ (s : List ℕ). operand_at e s 6) (location-agrees e (a ∷ b ∷ atoms))
      ∙ second-operand e (piece (op_of a) (operand_of a)) width (piece (op_of b) (operand_of b)) (as_pieces atoms) w h)

-- ---- the shapes

-- an address does not begin as a register
no_register : (e : Endian) (n : ℕ) → is_register (written_location e (ADDR n ∷ [])) ≡ false
unfolding is_register written_location written_atom made_of atom_number operand_width
no_register e n = refl

-- a register plus an offset is longer than a register alone, and does not begin as an address
longer : (e : Endian) (r n : ℕ) → is_register (written_location e (BASEREG r ∷ plus n)) ≡ false
unfolding is_register written_location written_atom made_of atom_number operand_width bytes_of
longer Big r n = refl
longer Little r n = refl

other : (e : Endian) (r n : ℕ) → made_of (Address ∷ []) (written_location e (BASEREG r ∷ plus n)) 0 ≡ false
unfolding written_location written_atom made_of atom_number operand_width
other e r n = refl

module _ (e : Endian) {n : ℕ} (small : n < 256 ^ 4) where
  pub offset_read : process_offset e (written_location e (plus n)) ≡ gives n
  unfolding operand_width op_of ops_of operand_of
  offset_read = sym (operand-taken (Const ∷ Add ∷ []) e _ refl (made-of e (plus n)) (operand-first e (CONST n) refl (ADD ∷ []) small))

  pub address_read : process_address e (written_location e (ADDR n ∷ [])) ≡ gives n
  unfolding operand_width op_of ops_of operand_of
  address_read = sym (operand-taken (Address ∷ []) e _ refl (made-of e (ADDR n ∷ [])) (operand-first e (ADDR n) refl [] small))

  pub register-read : process_variable_location e (written_location e (REG n ∷ [])) ≡ gives (in_register n)
  unfolding is_register operand_width op_of ops_of operand_of
  register-read = sym (in-register e _ refl (rw (made-of e (REG n ∷ []))) (operand-first e (REG n) refl [] small))

  pub variable-address-read : process_variable_location e (written_location e (ADDR n ∷ [])) ≡ gives (at_address n)
  unfolding operand_width op_of ops_of operand_of
  variable-address-read =
      sym (at_address_lem e _ refl (no_register e n) refl (made-of e (ADDR n ∷ [])) (operand-first e (ADDR n) refl [] small))

pub register-plus-read : (e : Endian) {r n : ℕ} → r < 256 ^ 4 → n < 256 ^ 4
    → process_variable_location e (written_location e (BASEREG r ∷ plus n)) ≡ gives (at_register_plus r n)
unfolding is_register_plus operand_width op_of ops_of operand_of
register-plus-read e {r} {n} h k =
    sym
    (at-register-plus e _ refl (longer e r n) refl (other e r n) refl (made-of e (BASEREG r ∷ plus n)) (operand-first e (BASEREG r) refl (plus n) h)
    (operand-second e (BASEREG r) refl (CONST n) (ADD ∷ []) refl k))
