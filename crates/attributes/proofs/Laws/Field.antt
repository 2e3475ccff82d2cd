-- What is made of a field that is not there, and goes out by `?`: what `ok_or(why)?` comes to.
use Rattle.std.specs.Prelude.{Option, Some, None, Result, Ok, Err, IsErrAnd, ok_or}
use mathlib.Core.Path.{◌≡◌, refl, sym, ap, ◌∙◌}
use Rattle.std.proofs.lemmas.Option.{none-some}
use Rattle.std.proofs.lemmas.Result.{err_from_is_err_and}

module _ {A E : Type 0} (o : Option A) (why : E) {r : Result A E} (is : r ≡ ok_or o why) where
  pub field_there : {x : A} → r ≡ Ok x → o ≡ Some x
  field_there {x} was = go o (sym was ∙ is)
    where
      go : (o : Option A) → Ok x ≡ ok_or o why → o ≡ Some x
      go None p = cc
      go (Some y) p = cc

  pub field_missing : {d : E} → r ≡ Err d → (o ≡ None) × (d ≡ why)
  field_missing {d} was = go o (sym was ∙ is)
    where
      go : (o : Option A) → Err d ≡ ok_or o why → (o ≡ None) × (d ≡ why)
      go None p = (refl, cc)
      go (Some y) p = let none : None ≡ Some y = cc in absurd (none-some y none)

  pub field_told : {d : E} → r ≡ Err d → {B : Type 0} (z : Result B E) → IsErrAnd z (λ e. e ≡ d) → z ≡ Err why
  field_told was z exits = let p = err_from_is_err_and z exits in p.1 ∙ ap Err (p.2 ∙ (field_missing was).1)
