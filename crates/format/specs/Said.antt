-- What a call says, in document 01's numbers and values: an answer; or a refusal, which is its number, its place and what it tells besides: with 8
-- the counts that are needed, with 4 to 6 the byte that was wanted (document 02, K2), else nothing. `said` gives this of an answer of the code, and
-- `said_counted` of one that fills lent room; promises are made of them.
use Rattle.std.specs.Prelude.{ℕ, ◌≡◌, Bool, cond, List, [], ◌∷◌, Result, Ok, Err}
use Rattle.std.proofs.lemmas.List.Edits.{sets}
use Rattle.lent.specs.Outcome.{Outcome, outcome, Outcomes, outcomes}
use Rattle.format.specs.Refusal.{number_of}
use Rattle.format.specs.declared.refusal.Refusal.{Refusal}
use Rattle.format.specs.declared.refusal.Unfilled.{Unfilled}
use Rattle.format.specs.declared.refusal.Unfilled.TheVariants.{Refused, Room}
use Rattle.format.specs.declared.refusal.Reason.{Reason}
use Rattle.format.specs.declared.refusal.Reason.TheVariants as reason

-- an answer, or a refusal's number, its place and what it tells besides
pub data Said (A : Type 0) : Type 0 where
  gives : A → Said A
  refuses : ℕ → ℕ → List ℕ → Said A

-- a refusal for this reason at this place
abbrev pub refuse : {A : Type 0} → Reason → ℕ → Said A
refuse why place = refuses (number_of why) place []

-- what the code's own refusal says
abbrev pub refusal : {A : Type 0} → Refusal → Said A
refusal why = refuse why.reason why.place

-- 8, at 0: so much is needed
abbrev pub wanting : {A : Type 0} → List ℕ → Said A
wanting counts = refuses (number_of reason.Room) 0 counts

-- 4, 5 or 6 at an entry's key, and the first byte of the field that could not be read or was not known
abbrev pub unread : {A : Type 0} → Reason → ℕ → ℕ → Said A
unread why key byte = refuses (number_of why) key (byte ∷ [])

-- what an answer of the code says
unfoldable pub said : {A : Type 0} → Result A Refusal → Said A
said (Ok x) = gives x
said (Err why) = refusal why

-- the same of one that fills lent room: 8 tells the count that is needed
unfoldable pub said_counted : {A : Type 0} → Result A (Unfilled ℕ) → Said A
said_counted (Ok x) = gives x
said_counted (Err (Refused why)) = refusal why
said_counted (Err (Room count)) = wanting (count ∷ [])

-- a test: it says nothing, or refuses where it fails
unfoldable pub must : Bool → Reason → ℕ → Said Unit
must holds why place = cond holds (gives tt) (refuse why place)

-- ---- a refusal goes on as it is; else what follows goes on with the value. `do` is read by these two

infixl 10 ◌>>=◌ ◌>>◌
unfoldable pub ◌>>=◌ : {A B : Type 0} → Said A → (A → Said B) → Said B
(gives x) >>= next = next x
(refuses number place told) >>= next = refuses number place told

-- the same after a test
unfoldable pub ◌>>◌ : {A B : Type 0} → Said A → Said B → Said B
(gives x) >> next = next
(refuses number place told) >> next = refuses number place told

-- a refusal told at another place
unfoldable pub placed : {A : Type 0} → ℕ → Said A → Said A
placed place (gives x) = gives x
placed place (refuses number elsewhere told) = refuses number place told

-- a number that this is not refused by, wherever and whatever is told besides (document 02, K8)
pub record Never {A : Type 0} (number : ℕ) (d : Said A) : Type 0 where
  pub never : (place : ℕ) (told : List ℕ) → d ≡ refuses number place told → ⊥

-- ---- lent room: a refusal, 8 too, leaves it as it was

-- what follows, with one room
unfoldable pub in_room : {A B E : Type 0} → List E → Said A → (A → Outcome (Said B) E) → Outcome (Said B) E
in_room room (gives x) next = next x
in_room room (refuses number place told) next = outcome (refuses number place told) room

-- an answer whose words go into the room, where they fit; else 8 with the counts
unfoldable pub fills_room : {A E : Type 0} → Bool → A → List ℕ → List E → List E → Outcome (Said A) E
fills_room fits answer counts words room = cond fits (outcome (gives answer) (sets room 0 words)) (outcome (wanting counts) room)

-- what follows, with two rooms
unfoldable pub in_rooms : {A B E F : Type 0} → List E → List F → Said A → (A → Outcomes (Said B) E F) → Outcomes (Said B) E F
in_rooms first second (gives x) next = next x
in_rooms first second (refuses number place told) next = outcomes (refuses number place told) first second

-- an answer whose words go into both rooms, where they fit; else 8 with the counts
unfoldable pub fills_rooms : {A E F : Type 0} → Bool → A → List ℕ → List E → List F → List E → List F → Outcomes (Said A) E F
fills_rooms fits answer counts words others first second =
    cond fits (outcomes (gives answer) (sets first 0 words) (sets second 0 others)) (outcomes (wanting counts) first second)
