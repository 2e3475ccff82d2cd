-- What follows from `Attribute`, for each way that the code comes to an answer.
use Rattle.std.specs.Prelude.{Option, Some, None}
use Prim.Native.Nat.{ℕ, zero, suc, ◌+◌, ◌-◌, ◌≤◌, ◌<◌}
use native.Mathlib.Nat.{le_refl}
use native.Mathlib.Omega.{arith}
use mathlib.Core.Path.{◌≡◌, sym, ap, ◌∙◌, subst}
use mathlib.Core.Bool.{Bool, true, false}
use mathlib.Core.List.{List}
use Rattle.numbers.proofs.Laws.Tests.{cond-all}
use Rattle.tables.specs.Row.{row_at, attr_at}
use Rattle.tables.specs.declared.row.Attr.{Attr}
use Rattle.links.specs.Attribute.{wants, attr_from, attribute_of}
use Rattle.links.specs.declared.lookup.Wanted.{Wanted}

module _ (w : Wanted) (attrs : List ℕ) (first n k : ℕ) where
  -- the attribute at first + k is the first wanted
  pub attr-wanted : {a : Attr} {b : Bool} → k < n → a ≡ attr_at attrs (first + k) → b ≡ wants w a.number → b ≡ true
      → Some (first + k) ≡ attr_from w attrs (first + k) (n - k)
  unfolding attr_from
  attr-wanted h p q t =
      let step : n - k ≡ suc (n - suc k) = omega arith in
      let test : wants w (attr_at attrs (first + k)).number ≡ true = ap (λ (x : Attr). wants w x.number) (sym p) ∙ sym q ∙ t in
      rw (step, test)

  -- it is not, and the search goes on
  pub attr-unwanted : {a : Attr} {b : Bool} → k < n → a ≡ attr_at attrs (first + k) → b ≡ wants w a.number → b ≡ false
      → attr_from w attrs (first + (k + 1)) (n - (k + 1)) ≡ attr_from w attrs (first + k) (n - k)
  unfolding attr_from
  attr-unwanted h p q t =
      let step : n - k ≡ suc (n - (k + 1)) = omega arith in
      let place : first + (k + 1) ≡ suc (first + k) = omega arith in
      let test : wants w (attr_at attrs (first + k)).number ≡ false = ap (λ (x : Attr). wants w x.number) (sym p) ∙ sym q ∙ t in
      rw (step, test, place)

  pub attr-none : n ≤ k → None ≡ attr_from w attrs (first + k) (n - k)
  unfolding attr_from
  attr-none h = let step : n - k ≡ 0 = omega arith in rw step

-- what is found is one of the attributes looked through, and is wanted
abbrev Among : Wanted → List ℕ → ℕ → ℕ → Option ℕ → Type 0
Among w attrs first end (Some k) = (first ≤ k) × (k < end) × (wants w (attr_at attrs k).number ≡ true)
Among w attrs first end None = Unit

among-more : (w : Wanted) (attrs : List ℕ) (first end : ℕ) (found : Option ℕ) → Among w attrs (suc first) end found → Among w attrs first end found
among-more w attrs first end (Some k) g = (omega arith, g.1, g.2)
among-more w attrs first end None g = tt

among : (w : Wanted) (attrs : List ℕ) (first n end : ℕ) → first + n ≡ end → Among w attrs first end (attr_from w attrs first n)
unfolding attr_from
among w attrs first zero end q = tt
among w attrs first (suc n) end q =
    cond-all (Among w attrs first end) (wants w (attr_at attrs first).number) (λ t. (le_refl first, omega arith, t))
    (λ f. among-more w attrs first end (attr_from w attrs (suc first) n) (among w attrs (suc first) n end (omega arith)))

-- an attribute of row i that was found is one of the row's, and is wanted
pub attribute-found : (rows attrs : List ℕ) (i : ℕ) (w : Wanted) {k : ℕ} → attribute_of rows attrs i w ≡ Some k
    → ((row_at rows i).first ≤ k) × (k < (row_at rows i).first + (row_at rows i).count) × (wants w (attr_at attrs k).number ≡ true)
unfolding attribute_of
attribute-found rows attrs i w p =
    let first : ℕ = (row_at rows i).first in
    let n : ℕ = (row_at rows i).count in
    subst (Among w attrs first (first + n)) p (among w attrs first n (first + n) (omega arith))
