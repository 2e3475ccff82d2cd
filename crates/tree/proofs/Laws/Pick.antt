-- What follows from `Pick`: which number the first and the nearest one is, and when any passes.
use Prim.Native.Nat.{ℕ, zero, suc, ◌+◌, ◌-◌, ◌≤◌, ◌<◌}
use native.Mathlib.Nat.{le_refl}
use native.Mathlib.Decide.{ℕ_discrete, dec_le}
use native.Mathlib.Omega.{arith}
use mathlib.Core.Path.{◌≡◌, sym, ap, subst, ◌∙◌}
use mathlib.Core.Logic.{◌↔◌}
use mathlib.Core.Bool.{Bool, true, false, cond, true≢false}
use mathlib.Core.List.{List, [], ◌∷◌}
use borrow.Author.Tests.{lt-ltb, ltb-true}
use Rattle.numbers.proofs.Laws.Tests.{cond-all}
use Rattle.tree.specs.Pick.{nearest_below, any_below, first_from}

-- ---- the first

-- r is the first of the k numbers from i on that passes, or i + k: none before it passes, and it does if it is one of them
pub record First (p : ℕ → Bool) (i k r : ℕ) : Type 0 where
  pub from : i ≤ r
  pub to : r ≤ i + k
  pub before : (j : ℕ) → i ≤ j → j < r → p j ≡ false
  pub here : r < i + k → p r ≡ true

-- `first_from` is that number
pub first-from-is : (p : ℕ → Bool) (i k : ℕ) → First p i k (first_from p i k)
unfolding first_from
first-from-is p i zero = record { from = le_refl i; to = omega arith; before = λ j h l. absurd (omega arith); here = λ h. absurd (omega arith) }
first-from-is p i (suc k) =
    cond-all (First p i (suc k)) (p i)
    (λ t. record { from = le_refl i; to = omega arith; before = λ j h l. absurd (omega arith); here = λ h. t })
    (λ f. let rest = first-from-is p (suc i) k in record {
      from = omega (arith, rest.from);
      to = omega (arith, rest.to);
      before = λ j h l. elim (ℕ_discrete i j) [ yes e ↦ ap p (sym e) ∙ f | no d ↦ rest.before j (omega arith) l ];
      here = λ h. rest.here (omega arith);
    })

first-least : {p : ℕ → Bool} {i k r q : ℕ} → First p i k r → First p i k q → r ≤ q
first-least {r = r} {q} a b =
    elim (dec_le r q) [ yes h ↦ h | no h ↦ absurd (true≢false (sym (b.here (omega arith)) ∙ a.before q b.from (omega arith))) ]

-- no other number is
pub first-unique : {p : ℕ → Bool} {i k r : ℕ} → First p i k r → r ≡ first_from p i k
first-unique {p} {i} {k} a = let b = first-from-is p i k in omega (arith, first-least a b, first-least b a)

-- it is past the end exactly where none passes
pub first-none : (p : ℕ → Bool) (n : ℕ) → (first_from p 0 n ≡ n) ↔ ((j : ℕ) → j < n → p j ≡ false)
first-none p n = (
  λ e j h. (first-from-is p 0 n).before j (omega arith) (omega arith),
  λ none. sym (first-unique (record { from = omega arith; to = omega arith; before = λ j h l. none j l; here = λ h. absurd (omega arith) })),
)

-- ---- the nearest

-- r is the greatest of the numbers below k that passes, plus one, or 0: none from r on passes, and the one before r does
pub record Nearest (p : ℕ → Bool) (k r : ℕ) : Type 0 where
  pub to : r ≤ k
  pub after : (j : ℕ) → r ≤ j → j < k → p j ≡ false
  pub here : (j : ℕ) → suc j ≡ r → p j ≡ true

-- `nearest_below` is that number
pub nearest-below-is : (p : ℕ → Bool) (k : ℕ) → Nearest p k (nearest_below p k)
unfolding nearest_below
nearest-below-is p zero = record { to = le_refl 0; after = λ j h l. absurd (omega arith); here = λ j e. absurd (omega arith) }
nearest-below-is p (suc k) =
    cond-all (Nearest p (suc k)) (p k)
    (λ t. record {
      to = le_refl (suc k);
      after = λ j h l. absurd (omega arith);
      here = λ j e. (let same : k ≡ j = omega arith in subst (λ (m : ℕ). p m ≡ true) same t);
    })
    (λ f. let rest = nearest-below-is p k in record {
      to = omega (arith, rest.to);
      after = λ j h l. elim (ℕ_discrete k j) [ yes e ↦ ap p (sym e) ∙ f | no d ↦ rest.after j h (omega arith) ];
      here = rest.here;
    })

-- `any_below` says yes exactly where some number below k passes
pub any_below_lem : (p : ℕ → Bool) (k : ℕ) → (any_below p k ≡ true) ↔ ((i : ℕ) × (i < k) × (p i ≡ true))
any_below_lem p k =
    let near : Nearest p k (nearest_below p k) = nearest-below-is p k in (
      λ t. (let some : 0 < nearest_below p k = ltb-true 0 (nearest_below p k) t in
          (nearest_below p k - 1, omega arith, near.here (nearest_below p k - 1) (omega arith))),
      λ w. elim (dec_le 1 (nearest_below p k)) [
        | yes h ↦ lt-ltb 0 (nearest_below p k) h
        | no h ↦ absurd (true≢false (sym w.2 ∙ near.after w.0 (omega arith) w.1))
      ],
    )

-- ---- all

-- those of the k numbers from i on that pass, in their order
unfoldable pub all_from : (ℕ → Bool) → ℕ → ℕ → List ℕ
all_from p i zero = []
all_from p i (suc k) = cond (p i) (i ∷ all_from p (suc i) k) (all_from p (suc i) k)
