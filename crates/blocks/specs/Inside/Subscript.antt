-- The last lines of what a dimension says, where the code has a function for them.
use Rattle.std.specs.Prelude.{ℕ, ◌+◌, List, length, ◌==◌, Option}
use Rattle.numbers.specs.Value.{there}
use Rattle.numbers.specs.declared.Endian.{Endian}
use Rattle.format.specs.Said.{Said, gives, must, ◌>>=◌, ◌>>◌}
use Rattle.format.specs.declared.refusal.Reason.TheVariants as reason
use Rattle.attributes.specs.Parts.{part_at}
use Rattle.blocks.specs.Types.{number_in, known_number}
use Rattle.blocks.specs.Subscript.{Part, dimension, one_more, location_size}

-- the low bound, with the index type that was read
unfoldable pub low_bound : Endian → List ℕ → ℕ → Said ℕ
low_bound e block index = do
  low ← number_in e 4 block 3
  must (low == 0) reason.Bound 0
  gives index

-- is the index type known?
unfoldable pub known_index : Endian → List ℕ → (Option ℕ) → Said ℕ
known_index e block type = do
  index ← known_number type
  low_bound e block index

-- the high bound
unfoldable pub high_bound : Endian → List ℕ → ℕ → Said Part
high_bound e block index = do
  high ← number_in e 4 block 7
  gives (dimension index (one_more high) 11)

-- the size that a location says; it stands from 9 on
unfoldable pub sized_dimension : Endian → ℕ → List ℕ → Said Part
sized_dimension e index location = do
  size ← location_size e location
  gives (dimension index size (9 + length location))

-- a location of n bytes
unfoldable pub sized_by : Endian → List ℕ → ℕ → ℕ → Said Part
sized_by e block index n = do
  must (there block 9 n) reason.Block 0
  size ← location_size e (part_at block 9 n)
  gives (dimension index size (9 + n))

-- its length
unfoldable pub high_location : Endian → List ℕ → ℕ → Said Part
high_location e block index = do
  n ← number_in e 2 block 7
  sized_by e block index n
