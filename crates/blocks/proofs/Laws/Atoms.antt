-- Runs of atoms as the reader's own tables of bytes and widths spell them: a block is made of atoms exactly where it is their spelling.
use Rattle.std.proofs.Common.{◌≡◌, ℕ, suc, ◌+◌, ◌^◌, ◌<◌, ◌≤◌, true, eqb, List, [], ◌∷◌, ◌++◌, length, get_or, sym, refl, ap, ◌∙◌, zero-add, arith, length-append, eq-eqb, eqb-true}
use mathlib.Core.Bool.{and-eq-true_iff}
use Rattle.numbers.specs.Value.{read_at}
use Rattle.numbers.proofs.Laws.Value.{reads}
use Rattle.numbers.specs.Written.{bytes_of, Bytes}
use Rattle.numbers.proofs.Laws.Written.{bytes-length, number-answers, number-written, inside-there}
use Rattle.numbers.proofs.Laws.Stands.{Stands, all-stands, stands-all, none-stands, front-stands, back-stands, both-stand, byte-stands, stands-byte}
use Rattle.numbers.specs.declared.Endian.{Endian}
use Rattle.format.specs.Lookup.{lookup}
use Rattle.format.specs.LocationOp.{location_ops, location_op_of}
use Rattle.format.specs.declared.location_op.LocationOp.{LocationOp}
use Rattle.format.specs.declared.location_op.LocationOp.TheVariants.{Register, BaseRegister, Address, Const, Deref2, Deref4, Add, MwFpReg, MwFpDReg, MwDRef8, Unknown}
use Rattle.blocks.specs.Location.{atom_number, operand_width, made_of, operand_at}

-- the number of each atom says that atom in the table of atoms; Unknown's, which is no byte, stands in no line of it
pub number_known : (op : LocationOp) → location_op_of (atom_number op) ≡ op
unfolding location_op_of location_ops lookup atom_number
number_known Register = refl
number_known BaseRegister = refl
number_known Address = refl
number_known Const = refl
number_known Deref2 = refl
number_known Deref4 = refl
number_known Add = refl
number_known MwFpReg = refl
number_known MwFpDReg = refl
number_known MwDRef8 = refl
number_known Unknown = refl

-- ---- the spelling

-- an atom with its operand; of an atom without one the operand is not spelt
pub record Piece : Type 0 where
  pub op : LocationOp
  pub operand : ℕ

abbrev pub piece : LocationOp → ℕ → Piece
piece op n = record { op = op; operand = n }

unfoldable pub spelt_piece : Endian → Piece → List ℕ
spelt_piece e a = atom_number a.op ∷ bytes_of e (operand_width a.op) a.operand

unfoldable pub spelt : Endian → List Piece → List ℕ
spelt e [] = []
spelt e (a ∷ pieces) = spelt_piece e a ++ spelt e pieces

unfoldable pub ops : List Piece → List LocationOp
ops [] = []
ops (a ∷ pieces) = a.op ∷ ops pieces

piece-length : (e : Endian) (a : Piece) → length (spelt_piece e a) ≡ suc (operand_width a.op)
unfolding spelt_piece
piece-length e a = ap suc (bytes-length e (operand_width a.op) a.operand)

-- ---- what is spelt is made of its atoms

module _ (e : Endian) (s : List ℕ) (at : ℕ) (a : Piece) (stands : Stands s at (spelt_piece e a)) where
  piece_byte : get_or s at 0 ≡ atom_number a.op
  unfolding spelt_piece
  piece_byte = stands-byte s at (atom_number a.op) (bytes_of e (operand_width a.op) a.operand) stands

  -- an operand is read back where it begins
  operand_read : operand_width a.op ≡ 4 → a.operand < 256 ^ 4 → operand_at e s (at + 1) ≡ a.operand
  unfolding spelt_piece operand_at
  operand_read w h =
      let bytes : Stands s (at + 1) (bytes_of e (operand_width a.op) a.operand) =
      back-stands s at (atom_number a.op ∷ []) (bytes_of e (operand_width a.op) a.operand) stands
      in
      number-answers (λ (n : ℕ). n) 0 e 4 s (at + 1) a.operand h (rw w at bytes)

-- a block that ends with spelt atoms is made of them from there on
made-from : (e : Endian) (s : List ℕ) (at : ℕ) (pieces : List Piece) → Stands s at (spelt e pieces) → at + length (spelt e pieces) ≡ length s
    → made_of (ops pieces) s at ≡ true
unfolding made_of spelt ops
made-from e s at [] q h = eq-eqb (length s) at (omega arith)
made-from e s at (a ∷ pieces) q h =
    let next : ℕ = suc (at + operand_width a.op) in
    let long : length (spelt_piece e a) ≡ suc (operand_width a.op) = piece-length e a in
    let both : length (spelt_piece e a ++ spelt e pieces) ≡ length (spelt_piece e a) + length (spelt e pieces) =
    length-append (spelt_piece e a) (spelt e pieces)
    in
    let place : at + length (spelt_piece e a) ≡ next = omega arith in
    let rest : Stands s next (spelt e pieces) = rw place at (back-stands s at (spelt_piece e a) (spelt e pieces) q) in
    rw (eq-eqb (get_or s at 0) (atom_number a.op) (piece_byte e s at a (front-stands s at (spelt_piece e a) (spelt e pieces) q)))
    (made-from e s next pieces rest (omega arith))

pub spelt-made : (e : Endian) (pieces : List Piece) → made_of (ops pieces) (spelt e pieces) 0 ≡ true
spelt-made e pieces = made-from e (spelt e pieces) 0 pieces (all-stands (spelt e pieces)) (zero-add (length (spelt e pieces)))

-- the first operand, and the second behind an atom with four bytes of operand
module _ (e : Endian) (a : Piece) (width : operand_width a.op ≡ 4) where
  pub first-operand : (pieces : List Piece) → a.operand < 256 ^ 4 → operand_at e (spelt e (a ∷ pieces)) 1 ≡ a.operand
  unfolding spelt
  first-operand pieces h =
      let s : List ℕ = spelt e (a ∷ pieces) in operand_read e s 0 a (front-stands s 0 (spelt_piece e a) (spelt e pieces) (all-stands s)) width h

  pub second-operand : (b : Piece) (pieces : List Piece) → operand_width b.op ≡ 4 → b.operand < 256 ^ 4
      → operand_at e (spelt e (a ∷ b ∷ pieces)) 6 ≡ b.operand
  unfolding spelt
  second-operand b pieces w h =
      let s : List ℕ = spelt e (a ∷ b ∷ pieces) in
      let place : 0 + length (spelt_piece e a) ≡ 5 = zero-add (length (spelt_piece e a)) ∙ piece-length e a ∙ ap suc width in
      let rest : Stands s 5 (spelt_piece e b ++ spelt e pieces) = rw place at (back-stands s 0 (spelt_piece e a) (spelt e (b ∷ pieces)) (all-stands s)) in
      operand_read e s 5 b (front-stands s 5 (spelt_piece e b) (spelt e pieces) rest) w h

-- ---- what is made of atoms is their spelling

-- bytes that stand at a place, with nothing behind them
record Last (s : List ℕ) (at : ℕ) (xs : List ℕ) : Type 0 where
  stands : Stands s at xs
  ends : at + length xs ≡ length s

-- one atom more in front
last_more : (e : Endian) (s : List ℕ) (at : ℕ) (a : Piece) (xs : List ℕ) → Stands s at (spelt_piece e a) → Last s (suc (at + operand_width a.op)) xs
    → Last s at (spelt_piece e a ++ xs)
last_more e s at a xs q rest =
    let end : suc (at + operand_width a.op) + length xs ≡ length s = rest.ends in
    let long : length (spelt_piece e a) ≡ suc (operand_width a.op) = piece-length e a in
    let place : at + length (spelt_piece e a) ≡ suc (at + operand_width a.op) = omega arith in
    let whole : length (spelt_piece e a ++ xs) ≡ length (spelt_piece e a) + length xs = length-append (spelt_piece e a) xs in
    record { stands = both-stand s at (spelt_piece e a) xs q (rw place rest.stands); ends = omega arith }

-- the operand of an atom that begins at a place
abbrev pub number_at : Endian → List ℕ → ℕ → LocationOp → ℕ
number_at e s at op = read_at (λ (n : ℕ). n) 0 e (operand_width op) s (at + 1)

-- these atoms with the operands that stand in a block from a place on
unfoldable pub pieces_at : Endian → List ℕ → ℕ → List LocationOp → List Piece
pieces_at e s at [] = []
pieces_at e s at (op ∷ ops) = piece op (number_at e s at op) ∷ pieces_at e s (suc (at + operand_width op)) ops

module _ (e : Endian) (s : List ℕ) (small : Bytes s) where
  piece-stands : (at : ℕ) (op : LocationOp) → get_or s at 0 ≡ atom_number op → suc (at + operand_width op) ≤ length s
      → Stands s at (spelt_piece e (piece op (number_at e s at op)))
  unfolding spelt_piece
  piece-stands at op byte inside =
      let fits : at + 1 + operand_width op ≤ length s = omega arith in
      both-stand s at (atom_number op ∷ []) (bytes_of e (operand_width op) (number_at e s at op))
      (byte-stands s at (atom_number op) (omega arith) byte)
      (number-written e (operand_width op) s (at + 1) small fits
      (reads (λ (n : ℕ). n) 0 e (operand_width op) s (at + 1) (inside-there s (at + 1) (operand_width op) fits) refl))

  -- a block made of atoms from a place on ends with those atoms spelt
  made-last : (ops : List LocationOp) (at : ℕ) → made_of ops s at ≡ true → Last s at (spelt e (pieces_at e s at ops))
  unfolding made_of spelt pieces_at
  made-last [] at h =
      let end : length s ≡ at = eqb-true (length s) at h in
      record { stands = none-stands (omega arith); ends = omega arith }
  made-last (op ∷ ops) at h =
      let next : ℕ = suc (at + operand_width op) in
      let xs : List ℕ = spelt e (pieces_at e s next ops) in
      let tests = (and-eq-true_iff (eqb (get_or s at 0) (atom_number op)) (made_of ops s next)).0 h in
      let rest : Last s next xs = made-last ops next tests.1 in
      let end : next + length xs ≡ length s = rest.ends in
      last_more e s at (piece op (number_at e s at op)) xs (piece-stands at op (eqb-true (get_or s at 0) (atom_number op) tests.0) (omega arith)) rest

  pub made-spelt : (ops : List LocationOp) → made_of ops s 0 ≡ true → s ≡ spelt e (pieces_at e s 0 ops)
  made-spelt ops h =
      let all : Last s 0 (spelt e (pieces_at e s 0 ops)) = made-last ops 0 h in
      sym (stands-all all.stands (sym (zero-add (length (spelt e (pieces_at e s 0 ops)))) ∙ all.ends))

  -- an atom alone
  pub alone-spelt : (op : LocationOp) → operand_width op ≡ 4 → made_of (op ∷ []) s 0 ≡ true → s ≡ spelt e (piece op (operand_at e s 1) ∷ [])
  unfolding pieces_at operand_at
  alone-spelt op width h = made-spelt (op ∷ []) h ∙ ap (λ (w : ℕ). spelt e (piece op (read_at (λ (n : ℕ). n) 0 e w s 1) ∷ [])) width
