-- What is demanded of references, in the words of the demand; `first_fault` finds no row exactly where it is met.
use Prim.Native.Nat.{ℕ, ◌-◌, ◌≤◌, ◌<◌}
use native.Mathlib.Nat.{le_refl}
use native.Mathlib.Decide.{ℕ_discrete, dec_le}
use native.Mathlib.Omega.{arith}
use mathlib.Core.Path.{◌≡◌, subst}
use mathlib.Core.Logic.{inl, inr, ◌↔◌}
use Rattle.tree.specs.Nest.{first_fault}
use Rattle.tree.proofs.Laws.Ends.{Reaching, Overlap, Holds, Good, NoneCross}
use Rattle.tree.proofs.Laws.Nested.{Nested}
use Rattle.tree.proofs.Laws.Fault.{good-later, fault-none, nested-no-fault}

-- of two nested reaches that overlap, the one that begins first holds the other
earlier-holds : {n : ℕ} {reach : ℕ → ℕ} → Nested n reach → (i j : ℕ) → i ≤ j → j < n → Overlap n reach i j → Holds n reach i j
earlier-holds {n} {reach} nested i j h l (k, own, other) =
    elim (ℕ_discrete i j) [
      | yes e ↦ subst (λ (m : ℕ). Holds n reach i m) e (λ m a. a)
      | no d ↦ (let inside : reach j ≤ reach i = nested.nests i j (omega arith) l (omega arith) in λ m a. (omega arith, omega arith))
    ]

-- where no row is at fault, references are good and none cross
pub nests-then : (n : ℕ) (reach : ℕ → ℕ) → Reaching n reach → first_fault n reach ≡ n → Good n reach × NoneCross n reach
nests-then n reach reaching e =
    let nested = fault-none n reach reaching e in (
      λ i h z. omega (arith, nested.later i h),
      λ i j h l o. elim (dec_le i j) [
        | yes a ↦ inl (earlier-holds nested i j a l o)
        | no a ↦ inr (earlier-holds nested j i (omega arith) h (o.0, o.2, o.1))
      ],
    )

-- where they are and do not, no row is at fault
pub nests-when : (n : ℕ) (reach : ℕ → ℕ) → Reaching n reach → Good n reach → NoneCross n reach → first_fault n reach ≡ n
nests-when n reach reaching good none = nested-no-fault n reach (record {
  later = λ i h. (own i h).0;
  within = λ i h. (own i h).1;
  nests = λ i j h l m. (let later : j < reach j = (own j l).0 in elim (none i j (omega arith) l (j, (omega arith, m), (le_refl j, later))) [
    | inl holds ↦ (let last : (i ≤ reach j - 1) × (reach j - 1 < reach i) = holds (reach j - 1) (omega arith, omega arith) in omega arith)
    | inr holds ↦ (let first : (j ≤ i) × (i < reach j) = holds i (le_refl i, omega arith) in absurd (omega arith))
  ]);
})
  where
    own : (i : ℕ) → i < n → (i < reach i) × (reach i ≤ n)
    own i h = good-later reaching i h (good i h)

-- `first_fault` finds no row exactly where the demand is met
pub nests-exactly : (n : ℕ) (reach : ℕ → ℕ) → Reaching n reach → (first_fault n reach ≡ n) ↔ (Good n reach × NoneCross n reach)
nests-exactly n reach reaching = (nests-then n reach reaching, λ d. nests-when n reach reaching d.0 d.1)
