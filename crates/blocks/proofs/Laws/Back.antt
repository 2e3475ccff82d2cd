-- What is said leads back to the enum, so no two of its cases say the same.
use Rattle.std.specs.Prelude.{Result, Ok, Err}
use Rattle.std.proofs.Common.{◌≡◌, refl, ap}
use Rattle.format.specs.declared.refusal.Refusal.{Refusal}
use Rattle.format.specs.Said.{Said, gives, refuses}
use Rattle.format.proofs.Laws.Said.{Back, refusal_of, refusal-same}
use Rattle.blocks.specs.Location.{VariablePlace, in_register, at_address, at_register_plus, said_variable_location}
use Rattle.blocks.specs.Subscript.{Part, dimension, element, said_subscript}
use Rattle.blocks.specs.declared.location.VariableLocation.{VariableLocation}
use Rattle.blocks.specs.declared.location.VariableLocation.TheVariants as variable
use Rattle.blocks.specs.declared.subscript.Subscript.{Subscript}
use Rattle.blocks.specs.declared.subscript.Subscript.TheVariants as subscript

-- ---- where a variable is

abbrev as_variable_location : Said VariablePlace → Result VariableLocation Refusal
as_variable_location (gives (in_register n)) = Ok (variable.Register n)
as_variable_location (gives (at_address n)) = Ok (variable.Address n)
as_variable_location (gives (at_register_plus r n)) = Ok (variable.RegisterPlus r n)
as_variable_location (refuses number place counts) = Err (refusal_of number place)

variable-location-same : (r : Result VariableLocation Refusal) → as_variable_location (said_variable_location r) ≡ r
unfolding said_variable_location
variable-location-same (Ok (variable.Register n)) = refl
variable-location-same (Ok (variable.Address n)) = refl
variable-location-same (Ok (variable.RegisterPlus r n)) = refl
variable-location-same (Err why) = ap Err (refusal-same why)

pub variable-location-back : Back said_variable_location
variable-location-back = record { back = as_variable_location; same = variable-location-same }

-- ---- a subscript

abbrev as_subscript : Said Part → Result Subscript Refusal
as_subscript (gives (dimension index size used)) = Ok (subscript.Dimension index size used)
as_subscript (gives (element t used)) = Ok (subscript.Element t used)
as_subscript (refuses number place counts) = Err (refusal_of number place)

subscript-same : (r : Result Subscript Refusal) → as_subscript (said_subscript r) ≡ r
unfolding said_subscript
subscript-same (Ok (subscript.Dimension index size used)) = refl
subscript-same (Ok (subscript.Element t used)) = refl
subscript-same (Err why) = ap Err (refusal-same why)

pub subscript-back : Back said_subscript
subscript-back = record { back = as_subscript; same = subscript-same }
