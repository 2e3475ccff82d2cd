-- Two blocks that are taken for a register and that the standard does not write for one (docs/DIFFERENCES.md).
use Rattle.std.specs.Prelude.{◌≡◌, ℕ, ◌⊎◌, List, [], ◌∷◌}
use Rattle.numbers.specs.Written.{bytes_of}
use Rattle.numbers.specs.declared.Endian.{Endian}
use Rattle.standard.specs.Locations.{BASEREG, written_location}

-- Metrowerks' atom 0x80 and the number of a floating register
unfoldable pub fp_register : Endian → ℕ → List ℕ
fp_register e n = 0x80 ∷ bytes_of e 4 n

-- BASEREG r alone, which to the standard is the register's value; or Metrowerks' floating register
abbrev pub AlsoRegister : Endian → List ℕ → ℕ → Type 0
AlsoRegister e block r = (block ≡ written_location e (BASEREG r ∷ [])) ⊎ (block ≡ fp_register e r)
