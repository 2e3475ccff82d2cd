-- What goes on by `?` where the answer says its value in a way of its own, and what `map_err` makes of a refusal that it places at a row.
use Rattle.std.specs.Prelude.{Result, Ok, Err, IsErrAnd}
use Rattle.std.specs.Result.{MatchResult}
use Rattle.std.proofs.lemmas.Result.{err_from_is_err_and}
use Prim.Native.Nat.{ℕ}
use mathlib.Core.Path.{◌≡◌, refl, sym, ap, ◌∙◌, subst}
use Rattle.format.specs.Said.{Said, gives, refuses, refusal, said, placed, ◌>>=◌, ◌>>◌}
use Rattle.format.proofs.Laws.Said.{refused-there, given-refused}
use Rattle.format.specs.declared.refusal.Refusal.{Refusal}
use Rattle.tables.specs.Inside.Keyed.{refused_at}

-- what holds of a refusal holds of the exit with it
pub exit-as : {B : Type 0} (P : Result B Refusal → Type 0) (why : Refusal) (z : Result B Refusal) → IsErrAnd z (λ e. e ≡ why) → P (Err why) → P z
exit-as P why z exits h = let p = err_from_is_err_and z exits in subst P (sym p.1) (subst (λ (e : Refusal). P (Err e)) (sym p.2) h)

-- so it says the refusal
pub exit-said : {B : Type 0} (why : Refusal) (z : Result B Refusal) → IsErrAnd z (λ e. e ≡ why) → said z ≡ refusal why
unfolding said
exit-said {B} why z exits = exit-as (λ (r : Result B Refusal). said r ≡ refusal why) why z exits refl

-- ---- a way to say answers that says a refusal as it is

module _ {B C : Type 0} (saying : Result B Refusal → Said C) (says : (e : Refusal) → saying (Err e) ≡ refusal e) where
  module _ {A : Type 0} {r : Result A Refusal} {d : Said A} {why : Refusal} (is : said r ≡ d) (was : r ≡ Err why) (z : Result B Refusal)
      (exits : IsErrAnd z (λ e. e ≡ why)) where
    exit-is : {x : Said C} → x ≡ refusal why → saying z ≡ x
    exit-is {x} h = exit-as (λ (r : Result B Refusal). saying r ≡ x) why z exits (says why ∙ sym h)

    -- what would have followed is refused with it
    pub gone_by : (next : A → Said C) → saying z ≡ (d >>= next)
    unfolding ◌>>=◌
    gone_by next = exit-is (ap (λ (y : Said A). y >>= next) (refused-there is was))

    -- the same after a test
    pub gone-past_by : (next : Said C) → saying z ≡ (d >> next)
    unfolding ◌>>◌
    gone-past_by next = exit-is (ap (λ (y : Said A). y >> next) (refused-there is was))

  -- a refusal that is told at a row, where no value says a refusal
  module _ (key : ℕ) (values : (x : B) → saying (Ok x) ≡ placed key (saying (Ok x))) where
    pub placed_by : (r z : Result B Refusal) (Q : Refusal → Refusal → Type 0) → MatchResult r (λ x. z ≡ Ok x) (λ e. IsErrAnd z (Q e))
        → ((e w : Refusal) → Q e w → w ≡ refused_at key e.reason) → saying z ≡ placed key (saying r)
    unfolding placed
    placed_by (Ok x) z Q h at = ap saying h ∙ values x
    placed_by (Err why) z Q h at =
        let p = err_from_is_err_and z h in
        ap saying p.1 ∙ says p.0 ∙ ap refusal (at why p.0 p.2) ∙ ap (placed key) (sym (says why))

-- what was placed and gave a value gave it before
pub placed-gave : {A : Type 0} (key : ℕ) (d : Said A) {x : A} → placed key d ≡ gives x → d ≡ gives x
unfolding placed
placed-gave key (gives y) p = p
placed-gave key (refuses number place counts) p = absurd (given-refused (sym p))
