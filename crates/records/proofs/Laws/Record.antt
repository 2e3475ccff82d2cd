-- What is common to the records, whatever they answer.
use Prim.Native.Nat.{ℕ}
use mathlib.Core.Path.{◌≡◌, refl, sym, ap, ◌∙◌}
use mathlib.Core.List.{List}
use Rattle.std.specs.Prelude.{Option, Some, None, Result, Ok, Err, ok_or, IsErrAnd}
use Rattle.std.proofs.lemmas.Result.{err_from_is_err_and}
use Rattle.format.specs.declared.refusal.Refusal.{Refusal}
use Rattle.format.specs.Said.{Said, said, gives, refuses, refusal, ◌>>=◌, ◌>>◌, in_room, in_rooms}
use Rattle.lent.specs.Outcome.{Outcome, outcome, Outcomes, outcomes}
use Rattle.format.proofs.Laws.Said.{goes-past, refused-here}
use Rattle.records.specs.declared.scan.Run.{Run}

-- ---- `ok_or(why)?`

module _ {A : Type 0} (found : Option A) (why : Refusal) {told : Result A Refusal} (is : told ≡ ok_or found why) where
  pub was-there : {x : A} → told ≡ Ok x → found ≡ Some x
  was-there {x} was = go found (sym was ∙ is)
    where
      go : (o : Option A) → Ok x ≡ ok_or o why → o ≡ Some x
      go None p = cc
      go (Some y) p = cc

  module _ {other : Refusal} (was : told ≡ Err other) where
    missing : (found ≡ None) × (other ≡ why)
    missing = go found (sym was ∙ is)
      where
        go : (o : Option A) → Err other ≡ ok_or o why → (o ≡ None) × (other ≡ why)
        go None p = (refl, cc)
        go (Some y) p = cc

    pub was-missing : found ≡ None
    was-missing = missing.0

    -- what is returned then
    pub missed-here : {B : Type 0} (z : Result B Refusal) → IsErrAnd z (λ e. e ≡ other) → said z ≡ refusal why
    missed-here z exits = refused-here refl was z exits ∙ ap refusal missing.1

-- nothing is wrong before the fields: the answer is what the run of the row says
pub fields-said : {A : Type 0} (fields : Run → Said A) {told : Result Unit Refusal} {fault : Said Unit} {run x : Run} {z : Said A} → said told ≡ fault → told ≡ Ok tt
    → run ≡ x → z ≡ fields run → z ≡ (fault >> fields x)
unfolding said ◌>>◌
fields-said fields is p q h = goes-past said is p _ (h ∙ ap fields q)
