-- What a call comes to: its answer, and what each room that it was lent then holds. A contract is that the result and the rooms are those of an
-- outcome.
use Rattle.std.specs.Prelude.{◌≡◌, List}

-- with one room
pub record Outcome (A E : Type 0) : Type 0 where
  pub answer : A
  pub room : List E

-- the same, in short
abbrev pub outcome : {A E : Type 0} → A → List E → Outcome A E
outcome answer room = record { answer = answer; room = room }

-- the result and the room are those of an outcome
pub record Given {A E : Type 0} (o : Outcome A E) (r : A) (room : List E) : Type 0 where
  pub answer_is : r ≡ o.answer
  pub room_is : room ≡ o.room

-- with two rooms
pub record Outcomes (A E F : Type 0) : Type 0 where
  pub answer : A
  pub first : List E
  pub second : List F

-- the same, in short
abbrev pub outcomes : {A E F : Type 0} → A → List E → List F → Outcomes A E F
outcomes answer first second = record { answer = answer; first = first; second = second }

-- the result and both rooms are those of an outcome
pub record BothGiven {A E F : Type 0} (o : Outcomes A E F) (r : A) (first : List E) (second : List F) : Type 0 where
  pub answer_is : r ≡ o.answer
  pub first_is : first ≡ o.first
  pub second_is : second ≡ o.second
