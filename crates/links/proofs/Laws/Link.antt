-- What follows from `Links`, for each way that the code comes to an answer.
use Prim.Native.Nat.{ℕ, suc, ◌+◌, ◌-◌, ◌≤◌, ◌<◌}
use native.Mathlib.Omega.{arith}
use mathlib.Core.Path.{◌≡◌, sym, ap, ◌∙◌, subst}
use mathlib.Core.Bool.{Bool, true, false}
use mathlib.Core.List.{List}
use Rattle.tables.specs.Row.{row_at, erased_row}
use Rattle.tables.specs.declared.row.Row.{Row}
use Rattle.links.specs.Links.{next_from}

module _ (rows : List ℕ) (asking : Bool) (n j : ℕ) where
  -- an erased row that asks passes over none
  pub next-asked : j < n → asking ≡ true → j ≡ next_from rows asking j (n - j)
  unfolding next_from
  next-asked h t = let step : n - j ≡ suc (n - suc j) = omega arith in rw (step, t)

  -- row j is not erased
  pub next_here : {row : Row} {b : Bool} → j < n → asking ≡ false → row ≡ row_at rows j → b ≡ erased_row row.flags → b ≡ false
      → j ≡ next_from rows asking j (n - j)
  unfolding next_from
  next_here h t p q e =
      let step : n - j ≡ suc (n - suc j) = omega arith in
      let test : erased_row (row_at rows j).flags ≡ false = ap (λ (r : Row). erased_row r.flags) (sym p) ∙ sym q ∙ e in
      rw (step, t, test)

  -- it is, and is passed over
  pub next-passed : {row : Row} {b : Bool} → j < n → asking ≡ false → row ≡ row_at rows j → b ≡ erased_row row.flags → b ≡ true
      → next_from rows asking (j + 1) (n - (j + 1)) ≡ next_from rows asking j (n - j)
  unfolding next_from
  next-passed h t p q e =
      let step : n - j ≡ suc (n - (j + 1)) = omega arith in
      let place : j + 1 ≡ suc j = omega arith in
      let test : erased_row (row_at rows j).flags ≡ true = ap (λ (r : Row). erased_row r.flags) (sym p) ∙ sym q ∙ e in
      subst (λ (a : Bool). next_from rows a (j + 1) (n - (j + 1)) ≡ next_from rows a j (n - j)) (sym t) (rw (step, test, ← place))

  pub next-none : n ≤ j → j ≤ n → n ≡ next_from rows asking j (n - j)
  unfolding next_from
  next-none h l = let step : n - j ≡ 0 = omega arith in rw step (omega arith)
