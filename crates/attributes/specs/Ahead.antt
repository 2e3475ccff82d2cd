-- What a success promises of places: it lies inside the section and moves forward.
use Rattle.std.specs.Prelude.{Result, Ok, Err, ℕ, ◌+◌, ◌≤◌, ◌<◌, ◌≡◌, true, List, length}
use Rattle.attributes.specs.declared.value.Unread.{Unread}
use Rattle.format.specs.Known.{known}

-- an end that is told is past `from` and inside the section
abbrev pub Ahead : List ℕ → ℕ → Result ℕ Unread → Type 0
Ahead s from (Ok next) = (from ≤ next) × (next ≤ length s)
Ahead s from (Err why) = Unit

-- an attribute that was read: a known number, its value right behind it, the next field past the value's first byte, all inside
pub record ReadInside (vendors s : List ℕ) (at n value next : ℕ) : Type 0 where
  pub is_known : known vendors n ≡ true
  pub value_place : value ≡ at + 2
  pub forward : value < next
  pub inside : next ≤ length s
