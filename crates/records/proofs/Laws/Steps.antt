-- What the code's steps stand on, by which they need no answers: what an answer says, and what follows a step once it is known what it gave.
use Prim.Native.Nat.{ℕ}
use mathlib.Core.Path.{◌≡◌, refl}
use mathlib.Core.Bool.{true, false}
use mathlib.Core.List.{List, [], ◌∷◌}
use Rattle.std.specs.Prelude.{Some, None, Ok, Err}
use Rattle.std.proofs.lemmas.Result.{err_from_is_err_and}
use Rattle.lent.specs.Outcome.{Outcome, outcome, Outcomes, outcomes}
use Rattle.format.specs.Said.{Said, said, said_counted, gives, refuses, refuse, refusal, wanting, must, placed, ◌>>=◌, ◌>>◌, in_room, in_rooms}
use Rattle.format.specs.declared.refusal.Refusal.{Refusal}
use Rattle.format.specs.declared.refusal.Reason.{Reason}
use Rattle.format.specs.declared.refusal.Reason.TheVariants as reason
use Rattle.format.specs.declared.refusal.Unfilled.TheVariants.{Refused, Room}
use Rattle.records.specs.Fields.{needed}

-- ---- what an answer says

pub said-given : {A : Type 0} (x : A) → said (Ok x) ≡ gives x
unfolding said
said-given x = refl

pub said-refused : {A : Type 0} (why : Refusal) → said {A = A} (Err why) ≡ refusal why
unfolding said
said-refused why = refl

pub counted-given : {A : Type 0} (x : A) → said_counted (Ok x) ≡ gives x
unfolding said_counted
counted-given x = refl

pub counted-refused : {A : Type 0} (why : Refusal) → said_counted {A = A} (Err (Refused why)) ≡ refusal why
unfolding said_counted
counted-refused why = refl

pub counted-room : {A : Type 0} (many : ℕ) → said_counted {A = A} (Err (Room many)) ≡ wanting (many ∷ [])
unfolding said_counted
counted-room many = refl

pub placed-given : {A : Type 0} (key : ℕ) (x : A) → placed key (gives x) ≡ gives x
unfolding placed
placed-given key x = refl

pub placed-refused : {A : Type 0} (key number place : ℕ) (told : List ℕ) → placed {A = A} key (refuses number place told) ≡ refuses number key told
unfolding placed
placed-refused key number place told = refl

pub must-passed : (why : Reason) (place : ℕ) → must true why place ≡ gives tt
unfolding must
must-passed why place = refl

pub must-failed : (why : Reason) (place : ℕ) → must false why place ≡ refuse why place
unfolding must
must-failed why place = refl

pub needed-there : {A : Type 0} (key : ℕ) (x : A) → needed key (Some x) ≡ gives x
unfolding needed
needed-there key x = refl

pub needed-missing : {A : Type 0} (key : ℕ) → needed {A = A} key None ≡ refuse reason.Missing key
unfolding needed
needed-missing key = refl

-- ---- what follows

pub next-given : {A B : Type 0} (x : A) (next : A → Said B) → (gives x >>= next) ≡ next x
unfolding ◌>>=◌
next-given x next = refl

pub next-refused : {A B : Type 0} (number place : ℕ) (told : List ℕ) (next : A → Said B) → (refuses number place told >>= next) ≡ refuses number place told
unfolding ◌>>=◌
next-refused number place told next = refl

pub past-given : {A B : Type 0} (x : A) (next : Said B) → (gives x >> next) ≡ next
unfolding ◌>>◌
past-given x next = refl

pub past-refused : (A : Type 0) {B : Type 0} (number place : ℕ) (told : List ℕ) (next : Said B)
    → (◌>>◌ {A = A} (refuses number place told) next) ≡ refuses number place told
unfolding ◌>>◌
past-refused A number place told next = refl

pub room-given : {A B E : Type 0} (room : List E) (x : A) (next : A → Outcome (Said B) E) → in_room room (gives x) next ≡ next x
unfolding in_room
room-given room x next = refl

pub room-refused : {A B E : Type 0} (room : List E) (number place : ℕ) (told : List ℕ) (next : A → Outcome (Said B) E)
    → in_room room (refuses number place told) next ≡ outcome (refuses number place told) room
unfolding in_room
room-refused room number place told next = refl

pub rooms-given : {A B E F : Type 0} (first : List E) (second : List F) (x : A) (next : A → Outcomes (Said B) E F)
    → in_rooms first second (gives x) next ≡ next x
unfolding in_rooms
rooms-given first second x next = refl

pub rooms-refused : {A B E F : Type 0} (first : List E) (second : List F) (number place : ℕ) (told : List ℕ) (next : A → Outcomes (Said B) E F)
    → in_rooms first second (refuses number place told) next ≡ outcomes (refuses number place told) first second
unfolding in_rooms
rooms-refused first second number place told next = refl

pub ruleset steps = (
  said-given,
  said-refused,
  counted-given,
  counted-refused,
  counted-room,
  placed-given,
  placed-refused,
  must-passed,
  must-failed,
  needed-there,
  needed-missing,
  next-given,
  next-refused,
  past-given,
  past-refused,
  room-given,
  room-refused,
  rooms-given,
  rooms-refused,
  err_from_is_err_and,
)
