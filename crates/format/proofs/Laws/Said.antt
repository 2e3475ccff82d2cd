-- What is known of a call's answer is its contract (`said r` is a definition's) and the arm of a match (`r` is a case): both together say what
-- follows. What is said leads back to the enum, so no two of its cases say the same.
use Prim.Native.Nat.{ℕ}
use mathlib.Core.Path.{◌≡◌, refl, sym, ap, ◌∙◌, subst}
use native.Mathlib.Omega.{arith}
use mathlib.Core.Bool.{Bool, true, false, cond}
use mathlib.Core.List.{List, [], ◌∷◌}
use lib.Seq.{sets}
use Rattle.lent.specs.Outcome.{Outcome, outcome, Given, Outcomes, BothGiven}
use Rattle.format.specs.Refusal.{number_of, reason_of}
use Rattle.std.specs.Prelude.{Result, Ok, Err, IsErrAnd}
use Rattle.std.proofs.lemmas.Result.{err_from_is_err_and}
use Rattle.format.specs.declared.refusal.Unfilled.{Unfilled}
use Rattle.format.specs.declared.refusal.Unfilled.TheVariants as unfilled
use Rattle.format.specs.Said.{Said, gives, refuses, refuse, refusal, wanting, said, said_counted, must, ◌>>=◌, ◌>>◌, placed, in_room, in_rooms, fills_room, fills_rooms}
use Rattle.format.specs.declared.refusal.Refusal.{Refusal}
use Rattle.format.specs.declared.refusal.Reason.{Reason}
use Rattle.format.proofs.Laws.Refusal.{reason-of-number}

-- ---- what follows

module _ {E A : Type 0} (said : E → Said A) {r x : E} {d : Said A} (is : said r ≡ d) (p : r ≡ x) where
  -- what the definition says is what the case says
  pub case-said : said x ≡ d
  case-said = ap said (sym p) ∙ is

  -- what follows with its value
  pub goes_on : {B : Type 0} (next : A → Said B) {z : Said B} → z ≡ (said x >>= next) → z ≡ (d >>= next)
  goes_on next h = h ∙ ap (λ (y : Said A). y >>= next) case-said

  -- what follows a test
  pub goes-past : {B : Type 0} (next : Said B) {z : Said B} → z ≡ (said x >> next) → z ≡ (d >> next)
  goes-past next h = h ∙ ap (λ (y : Said A). y >> next) case-said

  -- the same, told at another place
  pub goes-placed : (place : ℕ) {z : Said A} → z ≡ placed place (said x) → z ≡ placed place d
  goes-placed place h = h ∙ ap (λ (y : Said A). placed place y) case-said

  -- the same with a room
  pub goes_in : {B W : Type 0} (room : List W) (next : A → Outcome (Said B) W) {z : Said B} {after : List W} → Given (in_room room (said x) next) z after
      → Given (in_room room d next) z after
  goes_in room next {z} {after} h = subst (λ (y : Said A). Given (in_room room y next) z after) case-said h

  -- the same with two rooms
  pub goes-in-both : {B F W : Type 0} (first : List F) (second : List W) (next : A → Outcomes (Said B) F W) {z : Said B} {one : List F} {two : List W}
      → BothGiven (in_rooms first second (said x) next) z one two → BothGiven (in_rooms first second d next) z one two
  goes-in-both first second next {z} {one} {two} h = subst (λ (y : Said A). BothGiven (in_rooms first second y next) z one two) case-said h

-- ---- steps, whatever they say

-- what follows is the same for each value
pub then_same : {A B : Type 0} (d : Said A) {next other : A → Said B} → ((x : A) → next x ≡ other x) → (d >>= next) ≡ (d >>= other)
unfolding ◌>>=◌
then_same (gives x) h = h x
then_same (refuses number place counts) h = refl

-- what follows what follows
pub bind-bind : {A B C : Type 0} (d : Said A) (f : A → Said B) (g : B → Said C) → ((d >>= f) >>= g) ≡ (d >>= λ x. f x >>= g)
unfolding ◌>>=◌
bind-bind (gives x) f g = refl
bind-bind (refuses number place counts) f g = refl

-- the same after a test
pub past-bind : {A B C : Type 0} (d : Said A) (next : Said B) (g : B → Said C) → ((d >> next) >>= g) ≡ (d >> (next >>= g))
unfolding ◌>>=◌ ◌>>◌
past-bind (gives x) next g = refl
past-bind (refuses number place counts) next g = refl

-- ---- a test of the code, whose answer is a Bool

module _ {b holds : Bool} (is : b ≡ holds) where
  pub must-passed : (why : Reason) (place : ℕ) {B : Type 0} (next : Said B) {z : Said B} → b ≡ true → z ≡ next → z ≡ (must holds why place >> next)
  unfolding must ◌>>◌
  must-passed why place next p h = h ∙ ap (λ (y : Bool). must y why place >> next) (sym p ∙ is)

  pub must-failed : (why : Reason) (place : ℕ) {B : Type 0} (next : Said B) {z : Said B} → b ≡ false → z ≡ refuse why place
      → z ≡ (must holds why place >> next)
  unfolding must ◌>>◌
  must-failed why place next p h = h ∙ ap (λ (y : Bool). must y why place >> next) (sym p ∙ is)

-- ---- lent room

module _ {A E : Type 0} {fits : Bool} (answer : A) (counts : List ℕ) (words room : List E) where
  -- an answer whose words fit
  pub fills : fits ≡ true → {z : Said A} {room' : List E} → z ≡ gives answer → room' ≡ sets room 0 words
      → Given (fills_room fits answer counts words room) z room'
  unfolding fills_room
  fills h {z} {room'} p q =
      subst (λ (b : Bool). Given (cond b (outcome (gives answer) (sets room 0 words)) (outcome (wanting counts) room)) z room') (sym h)
      (record { answer_is = p; room_is = q })

  -- one whose words do not
  pub wants : fits ≡ false → {z : Said A} {room' : List E} → z ≡ wanting counts → room' ≡ room
      → Given (fills_room fits answer counts words room) z room'
  unfolding fills_room
  wants h {z} {room'} p q =
      subst (λ (b : Bool). Given (cond b (outcome (gives answer) (sets room 0 words)) (outcome (wanting counts) room)) z room') (sym h)
      (record { answer_is = p; room_is = q })

-- ---- what holds of a value that is given

-- of a refusal nothing is asked
abbrev pub Of : {A : Type 0} → (A → Type 0) → Said A → Type 0
Of P (gives x) = P x
Of P (refuses number place counts) = Unit

module _ {B : Type 0} (P : B → Type 0) where
  -- of what follows a value
  pub of-next : {A : Type 0} (d : Said A) (next : A → Said B) → ((x : A) → Of P (next x)) → Of P (d >>= next)
  unfolding ◌>>=◌
  of-next (gives x) next h = h x
  of-next (refuses number place counts) next h = tt

  -- of what follows a test
  pub of_test : (holds : Bool) (why : Reason) (place : ℕ) (next : Said B) → (holds ≡ true → Of P next) → Of P (must holds why place >> next)
  unfolding must ◌>>◌
  of_test true why place next h = h refl
  of_test false why place next h = tt

-- a value is told by what is said
pub given_is : {A : Type 0} {x y : A} → gives x ≡ gives y → x ≡ y
given_is p = cc

-- and is no refusal
pub given-refused : {A : Type 0} {x : A} {number place : ℕ} {counts : List ℕ} → gives x ≡ refuses number place counts → ⊥
given-refused p = let z : ◌≡◌ {A = ℕ} 0 1 = cc in absurd (omega arith)

-- what holds of what is said, and of any refusal, holds of it told at another place
pub placed-keeps : {A : Type 0} (P : Said A → Type 0) (key : ℕ) (d : Said A) → P d → ((number : ℕ) (counts : List ℕ) → P (refuses number key counts))
    → P (placed key d)
unfolding placed
placed-keeps P key (gives x) p q = p
placed-keeps P key (refuses number place counts) p q = q number counts

-- ---- what is known of the steps of what gave an answer

-- a test passed
pub must-gave : {A : Type 0} (holds : Bool) (why : Reason) (place : ℕ) (next : Said A) {x : A} → (must holds why place >> next) ≡ gives x
    → (holds ≡ true) × (next ≡ gives x)
unfolding must ◌>>◌
must-gave true why place next p = (refl, p)
must-gave false why place next p = absurd (given-refused (sym p))

-- the last one
pub last-gave : (holds : Bool) (why : Reason) (place : ℕ) {x : Unit} → must holds why place ≡ gives x → holds ≡ true
unfolding must
last-gave true why place p = refl
last-gave false why place p = absurd (given-refused (sym p))

-- tests passed
pub tests-gave : {B : Type 0} (d : Said Unit) (next : Said B) {y : B} → (d >> next) ≡ gives y → (d ≡ gives tt) × (next ≡ gives y)
unfolding ◌>>◌
tests-gave (gives tt) next p = (refl, p)
tests-gave (refuses number place counts) next p = absurd (given-refused (sym p))

-- what was passed, whatever it gave
pub past-gave : {A B : Type 0} (d : Said A) (next : Said B) {y : B} → (d >> next) ≡ gives y → next ≡ gives y
unfolding ◌>>◌
past-gave (gives x) next p = p
past-gave (refuses number place counts) next p = absurd (given-refused (sym p))

-- a step gave the value that the next one went on with
pub step-gave : {A B : Type 0} (d : Said A) (next : A → Said B) {y : B} → (d >>= next) ≡ gives y → (x : A) × (d ≡ gives x) × (next x ≡ gives y)
unfolding ◌>>=◌
step-gave (gives x) next p = (x, refl, p)
step-gave (refuses number place counts) next p = absurd (given-refused (sym p))

-- the same with a room
pub room-gave : {A B E : Type 0} (room : List E) (d : Said A) (next : A → Outcome (Said B) E) {y : B} → (in_room room d next).answer ≡ gives y
    → (x : A) × (d ≡ gives x) × ((next x).answer ≡ gives y)
unfolding in_room
room-gave room (gives x) next p = (x, refl, p)
room-gave room (refuses number place counts) next p = absurd (given-refused (sym p))

-- with two rooms
pub rooms-gave : {A B E F : Type 0} (first : List E) (second : List F) (d : Said A) (next : A → Outcomes (Said B) E F) {y : B}
    → (in_rooms first second d next).answer ≡ gives y → (x : A) × (d ≡ gives x) × ((next x).answer ≡ gives y)
unfolding in_rooms
rooms-gave first second (gives x) next p = (x, refl, p)
rooms-gave first second (refuses number place counts) next p = absurd (given-refused (sym p))

-- a room that was filled
pub fill-gave : {A E : Type 0} (fits : Bool) (answer : A) (counts : List ℕ) (words room : List E) {y : A}
    → (fills_room fits answer counts words room).answer ≡ gives y → (fits ≡ true) × (answer ≡ y)
unfolding fills_room
fill-gave true answer counts words room p = (refl, given_is p)
fill-gave false answer counts words room p = absurd (given-refused (sym p))

-- two that were filled
pub fills-gave : {A E F : Type 0} (fits : Bool) (answer : A) (counts : List ℕ) (words : List E) (others : List F) (first : List E) (second : List F) {y : A}
    → (fills_rooms fits answer counts words others first second).answer ≡ gives y → (fits ≡ true) × (answer ≡ y)
unfolding fills_rooms
fills-gave true answer counts words others first second p = (refl, given_is p)
fills-gave false answer counts words others first second p = absurd (given-refused (sym p))

-- the same, of the answer and the room together
pub room-given : {A B E : Type 0} (room : List E) (d : Said A) (next : A → Outcome (Said B) E) {y : B} {room' : List E}
    → Given (in_room room d next) (gives y) room' → (x : A) × (d ≡ gives x) × Given (next x) (gives y) room'
unfolding in_room
room-given room (gives x) next g = (x, refl, g)
room-given room (refuses number place counts) next g = absurd (given-refused g.answer_is)

-- and of a room that was filled
pub fill-given : {A E : Type 0} (fits : Bool) (answer : A) (counts : List ℕ) (words room : List E) {y : A} {room' : List E}
    → Given (fills_room fits answer counts words room) (gives y) room' → (fits ≡ true) × (y ≡ answer) × (room' ≡ sets room 0 words)
unfolding fills_room
fill-given true answer counts words room g = (refl, given_is g.answer_is, g.room_is)
fill-given false answer counts words room g = absurd (given-refused g.answer_is)

-- ---- back to the enum

-- what is said leads back to the enum
pub record Back {E A : Type 0} (said : E → Said A) : Type 0 where
  pub back : Said A → E
  pub same : (r : E) → back (said r) ≡ r

-- so two answers that say the same are the same
pub one_answer : {E A : Type 0} {said : E → Said A} (b : Back said) {z z' : E} {d : Said A} → said z ≡ d → said z' ≡ d → z ≡ z'
one_answer b {z} {z'} p q = sym (b.same z) ∙ ap (λ d. b.back d) (p ∙ sym q) ∙ b.same z'

-- a refusal by its number
abbrev pub refusal_of : ℕ → ℕ → Refusal
refusal_of number place = record { reason = reason_of number; place = place }

-- a refusal is that of its number
pub refusal-same : (why : Refusal) → refusal_of (number_of why.reason) why.place ≡ why
refusal-same why = ap (λ (r : Reason). record { reason = r; place = why.place }) (reason-of-number why.reason)

-- ---- what goes on by `?`: `is` is what the call promises, `was` what it answered, `exits` what is returned where that is a refusal

module _ {A : Type 0} {r : Result A Refusal} {d : Said A} {x : A} (is : said r ≡ d) (was : r ≡ Ok x) where
  -- the call says the value
  pub given-there : d ≡ gives x
  unfolding said
  given-there = sym is ∙ ap said was

  -- what follows with it
  pub comes_on : {B : Type 0} (next : A → Said B) {z : Said B} → z ≡ next x → z ≡ (d >>= next)
  unfolding ◌>>=◌
  comes_on next h = h ∙ ap (λ (y : Said A). y >>= next) (sym given-there)

  -- what follows a test
  pub comes-past : {B : Type 0} (next : Said B) {z : Said B} → z ≡ next → z ≡ (d >> next)
  unfolding ◌>>◌
  comes-past next h = h ∙ ap (λ (y : Said A). y >> next) (sym given-there)

  -- the same with one room
  pub comes_in : {B W : Type 0} (room : List W) (next : A → Outcome (Said B) W) {z : Said B} {after : List W} → Given (next x) z after
      → Given (in_room room d next) z after
  unfolding in_room
  comes_in room next {z} {after} h = subst (λ (y : Said A). Given (in_room room y next) z after) (sym given-there) h

  -- and with two
  pub comes-in-both : {B F W : Type 0} (first : List F) (second : List W) (next : A → Outcomes (Said B) F W) {z : Said B} {one : List F} {two : List W}
      → BothGiven (next x) z one two → BothGiven (in_rooms first second d next) z one two
  unfolding in_rooms
  comes-in-both first second next {z} {one} {two} h = subst (λ (y : Said A). BothGiven (in_rooms first second y next) z one two) (sym given-there) h

module _ {A : Type 0} {r : Result A Refusal} {d : Said A} {why : Refusal} (is : said r ≡ d) (was : r ≡ Err why) where
  -- the call says that refusal
  pub refused-there : d ≡ refusal why
  unfolding said
  refused-there = sym is ∙ ap said was

  module _ {B : Type 0} (z : Result B Refusal) (exits : IsErrAnd z (λ e. e ≡ why)) where
    -- so does the exit
    pub refused-here : said z ≡ refusal why
    unfolding said
    refused-here = let p = err_from_is_err_and z exits in ap said p.1 ∙ ap refusal p.2

    -- and so does what would have followed
    pub gone_on : (next : A → Said B) → said z ≡ (d >>= next)
    unfolding ◌>>=◌
    gone_on next = refused-here ∙ ap (λ (y : Said A). y >>= next) (sym refused-there)

    -- the same after a test
    pub gone-past : (next : Said B) → said z ≡ (d >> next)
    unfolding ◌>>◌
    gone-past next = refused-here ∙ ap (λ (y : Said A). y >> next) (sym refused-there)

  module _ {B : Type 0} (z : Result B (Unfilled ℕ)) (exits : IsErrAnd z (λ e. e ≡ unfilled.Refused why)) where
    -- the same of an answer that fills lent room
    pub refused-room : said_counted z ≡ refusal why
    unfolding said_counted
    refused-room = let p = err_from_is_err_and z exits in ap said_counted p.1 ∙ ap (λ (e : Unfilled ℕ). said_counted {A = B} (Err e)) p.2

    -- and of what follows with one room
    pub gone_in : {W : Type 0} {room after : List W} (next : A → Outcome (Said B) W) → after ≡ room → Given (in_room room d next) (said_counted z) after
    unfolding in_room
    gone_in {W} {room} {after} next h =
        subst (λ (y : Said A). Given (in_room room y next) (said_counted z) after) (sym refused-there) (record { answer_is = refused-room; room_is = h })

    -- and with two
    pub gone-in-both : {F W : Type 0} {first one : List F} {second two : List W} (next : A → Outcomes (Said B) F W) → one ≡ first → two ≡ second
        → BothGiven (in_rooms first second d next) (said_counted z) one two
    unfolding in_rooms
    gone-in-both {F} {W} {first} {one} {second} {two} next h k =
        subst (λ (y : Said A). BothGiven (in_rooms first second y next) (said_counted z) one two) (sym refused-there)
        (record { answer_is = refused-room; first_is = h; second_is = k })

-- ---- what the code says leads back to it

abbrev from_said : {A : Type 0} → Said A → Result A Refusal
from_said (gives x) = Ok x
from_said (refuses number place counts) = Err (refusal_of number place)

said_same : {A : Type 0} (r : Result A Refusal) → from_said (said r) ≡ r
unfolding said
said_same (Ok x) = refl
said_same (Err why) = ap Err (refusal-same why)

-- so no two answers say the same
pub said-back : {A : Type 0} → Back (said {A = A})
said-back {A} = record { back = from_said; same = said_same }

abbrev from_counted : {A : Type 0} → Said A → Result A (Unfilled ℕ)
from_counted (gives x) = Ok x
from_counted (refuses number place []) = Err (unfilled.Refused (refusal_of number place))
from_counted (refuses number place (count ∷ counts)) = Err (unfilled.Room count)

counted_same : {A : Type 0} (r : Result A (Unfilled ℕ)) → from_counted (said_counted r) ≡ r
unfolding said_counted
counted_same (Ok x) = refl
counted_same (Err (unfilled.Refused why)) = ap (λ (w : Refusal). Err (unfilled.Refused w)) (refusal-same why)
counted_same (Err (unfilled.Room count)) = refl

-- nor of those that fill lent room
pub counted-back : {A : Type 0} → Back (said_counted {A = A})
counted-back {A} = record { back = from_counted; same = counted_same }
