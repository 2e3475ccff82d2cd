-- A number that nothing is refused by, step by step: of 14, which is no longer given.
use Prim.Native.Nat.{ℕ}
use mathlib.Core.Path.{◌≡◌, ap}
use mathlib.Core.Bool.{Bool, true, false}
use mathlib.Core.List.{List}
use Rattle.lent.specs.Outcome.{Outcome, Outcomes}
use Rattle.format.specs.Said.{Said, gives, refuses, refuse, must, ◌>>=◌, ◌>>◌, placed, in_room, in_rooms, fills_room, fills_rooms, Never}
use Rattle.format.specs.declared.refusal.Reason.{Reason}
use Rattle.format.specs.declared.refusal.Reason.TheVariants as reason
use Rattle.format.proofs.Laws.Refusal.{never-fourteen}
use Rattle.format.proofs.Laws.Said.{given-refused}

-- ---- one number

pub never-gives : {A : Type 0} {n : ℕ} (x : A) → Never n (gives x)
never-gives x = record { never = λ place told p. given-refused p }

pub never-refuses : {A : Type 0} {n number place : ℕ} {told : List ℕ} → (number ≡ n → ⊥) → Never {A = A} n (refuses number place told)
never-refuses apart = record { never = λ place told p. apart cc }

-- the number of a refusal is another
pub never-is : {A : Type 0} {n number place : ℕ} {told : List ℕ} → Never {A = A} n (refuses number place told) → number ≡ n → ⊥
never-is {place = place} {told} h p = h.never place told (ap (λ (x : ℕ). refuses x place told) p)

-- ---- steps

pub never-then : {A B : Type 0} {n : ℕ} (d : Said A) (next : A → Said B) → Never n d → ((x : A) → Never n (next x)) → Never n (d >>= next)
unfolding ◌>>=◌
never-then (gives x) next h k = k x
never-then (refuses number place told) next h k = never-refuses (never-is h)

pub never-past : {A B : Type 0} {n : ℕ} (d : Said A) (next : Said B) → Never n d → Never n next → Never n (d >> next)
unfolding ◌>>◌
never-past (gives x) next h k = k
never-past (refuses number place told) next h k = never-refuses (never-is h)

pub never_placed : {A : Type 0} {n : ℕ} (key : ℕ) (d : Said A) → Never n d → Never n (placed key d)
unfolding placed
never_placed key (gives x) h = h
never_placed key (refuses number place told) h = never-refuses (never-is h)

pub never-room : {A B E : Type 0} {n : ℕ} (room : List E) (d : Said A) (next : A → Outcome (Said B) E) → Never n d
    → ((x : A) → Never n (next x).answer) → Never n (in_room room d next).answer
unfolding in_room
never-room room (gives x) next h k = k x
never-room room (refuses number place told) next h k = never-refuses (never-is h)

pub never-rooms : {A B E F : Type 0} {n : ℕ} (first : List E) (second : List F) (d : Said A) (next : A → Outcomes (Said B) E F) → Never n d
    → ((x : A) → Never n (next x).answer) → Never n (in_rooms first second d next).answer
unfolding in_rooms
never-rooms first second (gives x) next h k = k x
never-rooms first second (refuses number place told) next h k = never-refuses (never-is h)

-- ---- 14, which is no reason's number

pub never-refuse : {A : Type 0} (why : Reason) (place : ℕ) → Never {A = A} 14 (refuse why place)
never-refuse why place = never-refuses (never-fourteen why)

pub never-must : (holds : Bool) (why : Reason) (place : ℕ) → Never 14 (must holds why place)
unfolding must
never-must true why place = never-gives tt
never-must false why place = never-refuse why place

pub never-fills : {A E : Type 0} (fits : Bool) (answer : A) (counts : List ℕ) (words room : List E) → Never 14 (fills_room fits answer counts words room).answer
unfolding fills_room
never-fills true answer counts words room = never-gives answer
never-fills false answer counts words room = never-refuses (never-fourteen reason.Room)

pub never-fills-both : {A E F : Type 0} (fits : Bool) (answer : A) (counts : List ℕ) (words : List E) (others : List F) (first : List E) (second : List F)
    → Never 14 (fills_rooms fits answer counts words others first second).answer
unfolding fills_rooms
never-fills-both true answer counts words others first second = never-gives answer
never-fills-both false answer counts words others first second = never-refuses (never-fourteen reason.Room)
