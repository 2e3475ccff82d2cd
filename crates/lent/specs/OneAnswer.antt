-- No second answer fits a contract: two results, with the lent memory that they leave, that meet it for the same arguments are the same. The
-- contract is the function's own `ensures`, which the toolchain gives as a term (`Reads.Post`), so that a weaker one is refused.
use Rattle.std.specs.Prelude.{ℕ, ◌≡◌, List}
use borrow.Fn.Kind.{ParamKind, ResultKind}
use borrow.Fn.Kinds.{Out, Dens, res_t, ended_of}
use denote.Triple.Clauses.{AtExit}
use contract.Lifetimes.{Lfts}

-- what is told of a result, and of what the parameters then hold, is the same of any two that meet the contract
abbrev pub One : {n : ℕ} (ps : List (ParamKind n)) (r : ResultKind n) {A : Type 0} → ((κs : Lfts n) → (res_t r κs).Denot → AtExit (ended_of n ps r) κs → A)
    → Out n ps r → Type 0
One {n} ps r told post =
    (κs : Lfts n) (a : Dens κs ps) (z z' : (res_t r κs).Denot) (e e' : AtExit (ended_of n ps r) κs) → post κs a z e → post κs a z' e' → told κs z e
    ≡ told κs z' e'

-- the result
abbrev pub OneAnswer : {n : ℕ} (ps : List (ParamKind n)) (r : ResultKind n) → Out n ps r → Type 0
OneAnswer {n} ps r post =
    (κs : Lfts n) (a : Dens κs ps) (z z' : (res_t r κs).Denot) (e e' : AtExit (ended_of n ps r) κs) → post κs a z e → post κs a z' e' → z ≡ z'

-- what a parameter holds at exit
abbrev pub OneRoom : {n : ℕ} (ps : List (ParamKind n)) (r : ResultKind n) {A : Type 0} → ((κs : Lfts n) → AtExit (ended_of n ps r) κs → A) → Out n ps r → Type 0
OneRoom ps r room post = One ps r (λ κs z e. room κs e) post
