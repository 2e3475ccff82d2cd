-- Which attribute numbers are known.
use Rattle.std.specs.Prelude.{ℕ, Bool, ◌||◌, List}
use Rattle.format.specs.Lookup.{is_on}
use Rattle.format.specs.AttributeKind.{attribute_kinds}

-- a number is known where document 01 or the vendor list names it
unfoldable pub known : List ℕ → ℕ → Bool
known vendors n = is_on n attribute_kinds || is_on n vendors
