-- How the standard writes a location, in either endianness: its atoms one after the other, each its byte and, of the first four, 4 bytes of operand.
use Rattle.std.specs.Prelude.{ℕ, List, [], ◌∷◌, ◌++◌}
use Rattle.numbers.specs.Written.{bytes_of}
use Rattle.numbers.specs.declared.Endian.{Endian}

-- an atom, with its operand
pub data Atom : Type 0 where
  REG BASEREG ADDR CONST : (operand : ℕ) → Atom
  DEREF2 DEREF4 ADD : Atom

-- its bytes
unfoldable pub written_atom : Endian → Atom → List ℕ
written_atom e (REG n) = 1 ∷ bytes_of e 4 n
written_atom e (BASEREG n) = 2 ∷ bytes_of e 4 n
written_atom e (ADDR n) = 3 ∷ bytes_of e 4 n
written_atom e (CONST n) = 4 ∷ bytes_of e 4 n
written_atom e DEREF2 = 5 ∷ []
written_atom e DEREF4 = 6 ∷ []
written_atom e ADD = 7 ∷ []

-- a location's bytes
unfoldable pub written_location : Endian → List Atom → List ℕ
written_location e [] = []
written_location e (a ∷ atoms) = written_atom e a ++ written_location e atoms

-- n added to what is there: the place of a member in its structure
abbrev pub plus : ℕ → List Atom
plus n = CONST n ∷ ADD ∷ []
