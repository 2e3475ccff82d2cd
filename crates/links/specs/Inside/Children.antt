-- How the code gathers children: one walk that counts on empty room and fills lent room.
use Rattle.std.specs.Prelude.{Option, Some, None, ℕ, ◌+◌, ◌^◌, ◌<◌, ◌≡◌, cond, List, [], ◌∷◌, length, set, leb}
use Rattle.std.proofs.lemmas.List.Edits.{sets}
use Rattle.lent.specs.Outcome.{Outcome}
use Rattle.format.specs.Said.{Said, in_room, fills_room}
use Rattle.links.specs.Walk.{Walk, ends, endless}
use Rattle.links.specs.Links.{null_row, non_null}
use Rattle.links.specs.Children.{children_met}
use Rattle.links.specs.Inside.Links.{RowsHold}

-- of an endless walk there is nothing to count
unfoldable pub gathered_into : List ℕ → ℕ → List ℕ → Walk → Outcome (Option ℕ) ℕ
gathered_into rows k room (ends cs) = record { answer = Some (k + length (non_null rows cs)); room = sets room k (non_null rows cs) }
gathered_into rows k room endless = record { answer = None; room = [] }

-- what gathering answers; of an endless walk's room nothing is said, since that walk is only made on room of no words
pub record Gathers (o : Outcome (Option ℕ) ℕ) (r : Option ℕ) (room : List ℕ) : Type 0 where
  pub answer_is : r ≡ o.answer
  pub room_is : (k : ℕ) → r ≡ Some k → room ≡ o.room

-- one row: counted and stored unless it is a null entry
pub record TakesChild (rows : List ℕ) (c k r : ℕ) (room room' : List ℕ) : Type 0 where
  pub count_is : r ≡ cond (null_row rows c) k (k + 1)
  pub room_is : room' ≡ cond (null_row rows c) room (set room k c)

-- a row number and a count that a word can hold
pub record Small (c k : ℕ) : Type 0 where
  pub row_small : c < 2 ^ 32
  pub count_small : k + 1 < 2 ^ 64

-- a row of a table that is small enough
pub record Asked (rows : List ℕ) (n i : ℕ) : Type 0 where
  pub table : RowsHold rows n
  pub there : i < n

-- the children of a walk into the room: what `children_of_key` comes to from a row
unfoldable pub listed_into : List ℕ → ℕ → List ℕ → Walk → Outcome (Said ℕ) ℕ
listed_into rows key room walk =
    in_room room (children_met rows key walk) (λ cs. fills_room (leb (length cs) (length room)) (length cs) (length cs ∷ []) cs room)
