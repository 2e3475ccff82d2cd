-- Two blocks that the standard does not write for a register are taken for one.
use Rattle.std.proofs.Common.{◌≡◌, ℕ, ◌^◌, ◌<◌, [], ◌∷◌, sym, refl, ap, ◌∙◌, append-nil}
use mathlib.Core.Bool.{or-true}
use Rattle.numbers.specs.Written.{bytes_of}
use Rattle.numbers.specs.declared.Endian.{Endian}
use Rattle.standard.specs.Locations.{BASEREG, written_location}
use Rattle.format.specs.declared.location_op.LocationOp.TheVariants.{MwFpReg}
use Rattle.format.specs.Said.{gives}
use Rattle.blocks.specs.Location.{in_register, atom_number, operand_width, is_register, process_variable_location}
use Rattle.blocks.specs.Standard.{op_of, ops_of, operand_of}
use Rattle.blocks.specs.Vendor.{fp_register}
use Rattle.blocks.proofs.Laws.Location.{in-register}
use Rattle.blocks.proofs.Laws.Atoms.{piece, spelt_piece, spelt, ops, spelt-made, first-operand}
use Rattle.blocks.proofs.Laws.StandardRead.{made-of, operand-first}

pub fp-spelt : (e : Endian) (n : ℕ) → spelt e (piece MwFpReg n ∷ []) ≡ fp_register e n
unfolding spelt spelt_piece fp_register atom_number operand_width
fp-spelt e n = append-nil (0x80 ∷ bytes_of e 4 n)

module _ (e : Endian) {n : ℕ} (small : n < 256 ^ 4) where
  pub base-register-taken : process_variable_location e (written_location e (BASEREG n ∷ [])) ≡ gives (in_register n)
  unfolding is_register operand_width op_of ops_of operand_of
  base-register-taken = sym (in-register e _ refl (rw (made-of e (BASEREG n ∷ []), or-true)) (operand-first e (BASEREG n) refl [] small))

  pub fp-register-taken : process_variable_location e (fp_register e n) ≡ gives (in_register n)
  unfolding is_register operand_width ops
  fp-register-taken =
      ap (process_variable_location e) (sym (fp-spelt e n))
      ∙ sym (in-register e _ refl (rw (spelt-made e (piece MwFpReg n ∷ []), or-true, or-true)) (sym (first-operand e (piece MwFpReg n) refl [] small)))
