-- What a step of the code comes to once it is known what it gave: the search finds by it what the code returns.
use Rattle.std.proofs.Common.{Ok, Err, ◌≡◌, ℕ, true, false, List, refl}
use Rattle.format.specs.Said.{Said, gives, refuses, refuse, refusal, said, must, ◌>>=◌, ◌>>◌}
use Rattle.format.specs.declared.refusal.Refusal.{Refusal}
use Rattle.format.specs.declared.refusal.Reason.{Reason}
use Rattle.blocks.proofs.Laws.Number.{number-said, known-said}

-- what an answer of the code says
pub said-given : {A : Type 0} (x : A) → said (Ok x) ≡ gives x
unfolding said
said-given x = refl

pub said-refused : {A : Type 0} (why : Refusal) → said {A = A} (Err why) ≡ refusal why
unfolding said
said-refused why = refl

-- what follows a value or a refusal
pub next-given : {A B : Type 0} (x : A) (next : A → Said B) → (gives x >>= next) ≡ next x
unfolding ◌>>=◌
next-given x next = refl

pub next-refused : {A B : Type 0} (number place : ℕ) (told : List ℕ) (next : A → Said B) → (refuses number place told >>= next) ≡ refuses number place told
unfolding ◌>>=◌
next-refused number place told next = refl

-- and a test
pub next-passed : {B : Type 0} (why : Reason) (place : ℕ) (next : Said B) → (must true why place >> next) ≡ next
unfolding must ◌>>◌
next-passed why place next = refl

pub next-failed : {B : Type 0} (why : Reason) (place : ℕ) (next : Said B) → (must false why place >> next) ≡ refuse why place
unfolding must ◌>>◌
next-failed why place next = refl

-- by these, and by what a number says, the search goes through the code
pub ruleset steps = (said-given, said-refused, next-given, next-refused, next-passed, next-failed, number-said, known-said)
