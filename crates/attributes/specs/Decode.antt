-- What a value says, by form (rule 5): addresses and references in section endianness, data in data endianness.
use Rattle.std.specs.Prelude.{Option, Some, None, ℕ, List}
use Rattle.numbers.specs.Value.{read_at}
use Rattle.attributes.specs.declared.decode.Endians.{Endians}

-- an address, and a reference: four bytes
abbrev pub address_at : Endians → List ℕ → ℕ → Option ℕ
address_at ends s at = read_at Some None ends.section 4 s at

-- a reference: 4 bytes in section endianness
abbrev pub reference_at : Endians → List ℕ → ℕ → Option ℕ
reference_at ends s at = read_at Some None ends.section 4 s at

-- data of 2, 4 and 8 bytes
abbrev pub data2_at : Endians → List ℕ → ℕ → Option ℕ
data2_at ends s at = read_at Some None ends.«data» 2 s at

-- 4 bytes of data
abbrev pub data4_at : Endians → List ℕ → ℕ → Option ℕ
data4_at ends s at = read_at Some None ends.«data» 4 s at

-- 8 bytes of data
abbrev pub data8_at : Endians → List ℕ → ℕ → Option ℕ
data8_at ends s at = read_at Some None ends.«data» 8 s at
