-- The numbers by which the standard writes a member, beside its type (`Types`): its name, its place in the structure, and of a bit field the size of
-- the storage unit, the bits from the unit's most significant end to its own, and how many bits it has.
use Rattle.std.specs.Prelude.{ℕ}

-- AT_location, a block of atoms: of a member `plus n` of `Locations`, its place in the structure
abbrev pub location : ℕ
location = 0x0023

-- AT_name, a text
abbrev pub name : ℕ
name = 0x0038

-- AT_byte_size, four bytes
abbrev pub byte_size : ℕ
byte_size = 0x00b6

-- AT_bit_offset, two bytes
abbrev pub bit_offset : ℕ
bit_offset = 0x00c5

-- AT_bit_size, four bytes
abbrev pub bit_size : ℕ
bit_size = 0x00d6
