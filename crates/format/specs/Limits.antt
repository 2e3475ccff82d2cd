-- The limits of document 01, 'Settings and limits'.
use Rattle.std.specs.Prelude.{ℕ, ◌^◌}

-- a section has fewer bytes than this
abbrev pub section_limit : ℕ
section_limit = 2 ^ 32

-- the most entries and the most attributes of a table
abbrev pub entry_limit : ℕ
entry_limit = 4096

-- attributes of a section
abbrev pub attribute_limit : ℕ
attribute_limit = 32768

-- the most erased levels, one inside the other
abbrev pub erased_limit : ℕ
erased_limit = 16

-- the greatest depth of a tree and of a size
abbrev pub depth_limit : ℕ
depth_limit = 32

-- the most specifications in a chain
abbrev pub specification_limit : ℕ
specification_limit = 16

-- the most numbers on a vendor list
abbrev pub vendor_limit : ℕ
vendor_limit = 64
