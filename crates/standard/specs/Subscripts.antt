-- How the standard writes an array's subscripts: for each dimension format 0, the index type and the two bounds, the high one being the last index;
-- then format 8 and the element type. (Its other formats, with user index types and bounds that are locations, are not written here.)
use Rattle.std.specs.Prelude.{ℕ, ◌^◌, ◌<◌, List, [], ◌∷◌, ◌++◌}
use Rattle.numbers.specs.Written.{bytes_of}
use Rattle.numbers.specs.declared.Endian.{Endian}
use Rattle.standard.specs.Numbers.{OnList, fundamental_types}
use Rattle.standard.specs.Entries.{Attribute, written_attribute}

-- a dimension: a fundamental index type, and bounds that are constants
pub record Dimension : Type 0 where
  pub index : ℕ
  pub low : ℕ
  pub high : ℕ
  pub known : OnList index fundamental_types
  pub low_small : low < 256 ^ 4
  pub high_small : high < 256 ^ 4

-- its bytes
unfoldable pub written_dimension : Endian → Dimension → List ℕ
written_dimension e d = 0 ∷ bytes_of e 2 d.index ++ bytes_of e 4 d.low ++ bytes_of e 4 d.high

-- dimensions in order, then the element type as an attribute
unfoldable pub written_subscripts : {numbers : List ℕ} (e : Endian) → List Dimension → Attribute numbers e → List ℕ
written_subscripts {numbers} e [] element = 8 ∷ written_attribute numbers e element
written_subscripts {numbers} e (d ∷ ds) element = written_dimension e d ++ written_subscripts e ds element
