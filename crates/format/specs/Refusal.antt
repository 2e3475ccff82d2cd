-- The refusal numbers of document 01, without 14, which is not given (document 02, K8).
use Rattle.std.specs.Prelude.{ℕ, List, [], ◌∷◌}
use Rattle.format.specs.Lookup.{Line, ◌means◌, lookup}
use Rattle.format.specs.declared.refusal.Reason.{Reason}
use Rattle.format.specs.declared.refusal.Reason.TheVariants.{Settings, Long, Table, Short, Tag, Attribute, Nested, Room, Link, Depth, Entry}
use Rattle.format.specs.declared.refusal.Reason.TheVariants.{Kind, Extra, Missing, Child, Block, Number, Bound, Big}

-- the number of each reason
unfoldable pub number_of : Reason → ℕ
number_of Settings = 1
number_of Long = 2
number_of Table = 3
number_of Short = 4
number_of Tag = 5
number_of Attribute = 6
number_of Nested = 7
number_of Room = 8
number_of Link = 9
number_of Depth = 10
number_of Entry = 11
number_of Kind = 12
number_of Extra = 13
number_of Missing = 15
number_of Child = 16
number_of Block = 17
number_of Number = 18
number_of Bound = 19
number_of Big = 20

-- the same the other way round
unfoldable pub reasons : List (Line Reason)
reasons =
    2 means Long ∷
    3 means Table ∷
    4 means Short ∷
    5 means Tag ∷
    6 means Attribute ∷
    7 means Nested ∷
    8 means Room ∷
    9 means Link ∷
    10 means Depth ∷
    11 means Entry ∷
    12 means Kind ∷
    13 means Extra ∷
    15 means Missing ∷
    16 means Child ∷
    17 means Block ∷
    18 means Number ∷
    19 means Bound ∷
    20 means Big ∷ []

-- the reason of a number; of one that is none, the first
unfoldable pub reason_of : ℕ → Reason
unfolding reasons
reason_of number = lookup reasons Settings number
