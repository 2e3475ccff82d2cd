-- What reading goes by: the section and what does not change in it, and what does.
use Rattle.std.specs.Prelude.{ℕ, Bool, List}
use Rattle.numbers.specs.declared.Endian.{Endian}
use Rattle.entries.specs.declared.entry.Mode.{Mode}

-- a section, its vendor list and the role MwGlobalRef
pub record Source : Type 0 where
  pub vendors : List ℕ
  pub global : ℕ
  pub section : List ℕ

-- the same, in short
abbrev pub source : List ℕ → ℕ → List ℕ → Source
source vendors global section = record { vendors = vendors; global = global; section = section }

-- inside erased data or not, and the data endianness there
abbrev pub mode : Bool → Endian → Mode
mode erased endian = record { erased = erased; endian = endian }
