-- How the standard writes a number: w bytes, in either endianness.
use Rattle.std.specs.Prelude.{ℕ, zero, suc, ◌/◌, ◌%◌, ◌<◌, List, [], ◌∷◌, ◌++◌, get_or}
use Rattle.numbers.specs.declared.Endian.{Endian}
use Rattle.numbers.specs.declared.Endian.TheVariants.{Big, Little}

-- w bytes that make up n: the least byte last in Big, first in Little
unfoldable pub bytes_of : Endian → ℕ → ℕ → List ℕ
bytes_of Big zero n = []
bytes_of Big (suc w) n = bytes_of Big w (n / 256) ++ (n % 256 ∷ [])
bytes_of Little zero n = []
bytes_of Little (suc w) n = n % 256 ∷ bytes_of Little w (n / 256)

-- every byte is below 256
pub record Bytes (xs : List ℕ) : Type 0 where
  pub small : (i : ℕ) → get_or xs i 0 < 256
