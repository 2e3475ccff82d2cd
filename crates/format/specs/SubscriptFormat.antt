-- The formats of a subscript: the index type, the low bound, the high bound, each fundamental or user defined, constant or a location.
use Rattle.std.specs.Prelude.{ℕ, List, [], ◌∷◌}
use Rattle.format.specs.Lookup.{Line, ◌means◌, lookup}
use Rattle.format.specs.declared.subscript_format.SubscriptFormat.{SubscriptFormat}
use Rattle.format.specs.declared.subscript_format.SubscriptFormat.TheVariants.{FundTypeConstConst, FundTypeConstLocation}
use Rattle.format.specs.declared.subscript_format.SubscriptFormat.TheVariants.{FundTypeLocationConst, FundTypeLocationLocation}
use Rattle.format.specs.declared.subscript_format.SubscriptFormat.TheVariants.{UserTypeConstConst, UserTypeConstLocation}
use Rattle.format.specs.declared.subscript_format.SubscriptFormat.TheVariants.{UserTypeLocationConst, UserTypeLocationLocation, ElementType}
use Rattle.format.specs.declared.subscript_format.SubscriptFormat.TheVariants.{Unknown}

-- the number of each; 8 is the element type
unfoldable pub subscript_formats : List (Line SubscriptFormat)
subscript_formats =
    0x0 means FundTypeConstConst ∷
    0x1 means FundTypeConstLocation ∷
    0x2 means FundTypeLocationConst ∷
    0x3 means FundTypeLocationLocation ∷
    0x4 means UserTypeConstConst ∷
    0x5 means UserTypeConstLocation ∷
    0x6 means UserTypeLocationConst ∷
    0x7 means UserTypeLocationLocation ∷
    0x8 means ElementType ∷ []

-- the format that a byte says
unfoldable pub subscript_format_of : ℕ → SubscriptFormat
unfolding subscript_formats
subscript_format_of n = lookup subscript_formats Unknown n
