-- How the standard writes an enumeration's list: for each element its constant, then its name and a zero. The constant has w bytes (the standard's
-- producers wrote 4), in two's complement.
use Rattle.std.specs.Prelude.{ℕ, ◌^◌, ◌<◌, List, [], ◌∷◌, ◌++◌}
use Rattle.numbers.specs.Written.{bytes_of}
use Rattle.numbers.specs.declared.Endian.{Endian}
use Rattle.standard.specs.Entries.{Text, text}

-- an element: its constant as the number that its w bytes make up, and its name
pub record Element (w : ℕ) : Type 0 where
  pub constant : ℕ
  pub name : List ℕ
  pub small : constant < 256 ^ w
  pub is_text : Text name

-- the list's bytes
unfoldable pub written_elements : (w : ℕ) → Endian → List (Element w) → List ℕ
written_elements w e [] = []
written_elements w e (x ∷ xs) = bytes_of e w x.constant ++ text x.name ++ written_elements w e xs
