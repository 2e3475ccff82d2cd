-- A walk is refused as endless exactly where it would never stop. It may meet n rows; where it wants more, it has met one twice and goes round for ever.
use Prim.Native.Nat.{ℕ, zero, suc, ◌+◌, ◌-◌, ◌≤◌, ◌<◌}
use native.Mathlib.Nat.{le_refl, not-suc-le-zero}
use native.Mathlib.Decide.{ℕ_discrete, dec_le}
use native.Mathlib.Numerals.{unary_clauses}
use native.Mathlib.Omega.{arith}
use mathlib.Core.Path.{◌≡◌, refl, sym, ap, ◌∙◌}
use mathlib.Core.Logic.{◌⊎◌, inl, inr}
use mathlib.Core.Bool.{Bool, true, false, cond, ◌||◌, true≢false}
use mathlib.Core.List.{[]}
use lib.Dec.{leb, eqb}
use borrow.Author.Tests.{leb-false, eqb-true, eqb-false}
use Rattle.numbers.proofs.Laws.Tests.{cond-all}
use Rattle.links.specs.Walk.{Walk, ends, endless, meets, stops, walk_from, walked}

-- ---- among n + 1 numbers below n, two are the same

-- v is f's value at a place below k, or at none
value-met : (f : ℕ → ℕ) (v k : ℕ) → ((a : ℕ) × (a < k) × (f a ≡ v)) ⊎ ((a : ℕ) → a < k → f a ≡ v → ⊥)
value-met f v zero = inr (λ a h p. not-suc-le-zero h)
value-met f v (suc k) =
    elim (ℕ_discrete (f k) v) [
      | yes here ↦ inl (k, le_refl (suc k), here)
      | no other ↦ elim (value-met f v k) [
        | inl met ↦ inl (met.0, omega (arith, met.1), met.2)
        | inr none ↦ inr (λ a h p. elim (ℕ_discrete a k) [ yes e ↦ other (ap f (sym e) ∙ p) | no d ↦ none a (omega arith) p ])
      ]
    ]

-- x, with v in the place of n
replaced : ℕ → ℕ → ℕ → ℕ
replaced n v x = cond (eqb x n) v x

replaced-below : (n v x : ℕ) → v < suc n → x < suc n → (x ≡ v → ⊥) → replaced n v x < n
unfolding replaced
replaced-below n v x h l other =
    cond-all (λ r. r < n) (eqb x n) (λ t. (let top : x ≡ n = eqb-true x n t in omega arith)) (λ f. (let lower = eqb-false x n f in omega arith))

-- where neither was v before, they were the same before
replaced-same : (n v x y : ℕ) → (x ≡ v → ⊥) → (y ≡ v → ⊥) → replaced n v x ≡ replaced n v y → x ≡ y
unfolding replaced
replaced-same n v x y x-other y-other =
    cond-all (λ r. r ≡ cond (eqb y n) v y → x ≡ y) (eqb x n)
    (λ t. cond-all (λ r. v ≡ r → x ≡ y) (eqb y n) (λ u e. eqb-true x n t ∙ sym (eqb-true y n u)) (λ u e. absurd (y-other (sym e))))
    (λ t. cond-all (λ r. x ≡ r → x ≡ y) (eqb y n) (λ u e. absurd (x-other e)) (λ u e. e))

-- f has one value at two places up to n
record Twice (f : ℕ → ℕ) (n : ℕ) : Type 0 where
  early : ℕ
  late : ℕ
  apart : early < late
  late_within : late ≤ n
  same : f early ≡ f late

twice : (n : ℕ) (f : ℕ → ℕ) → ((k : ℕ) → k ≤ n → f k < n) → Twice f n
twice zero f low = absurd (not-suc-le-zero (low 0 (le_refl 0)))
twice (suc n) f low =
    elim (value-met f (f (suc n)) (suc n)) [
      | inl met ↦ record { early = met.0; late = suc n; apart = met.1; late_within = le_refl (suc n); same = met.2 }
      | inr none ↦
          (let t = twice n (λ (k : ℕ). replaced n (f (suc n)) (f k))
          (λ k h. replaced-below n (f (suc n)) (f k) (low (suc n) (le_refl (suc n))) (low k (omega arith)) (none k (omega arith))) in
          record {
            early = t.early;
            late = t.late;
            apart = t.apart;
            late_within = omega arith;
            same = replaced-same n (f (suc n)) (f t.early) (f t.late) (none t.early (omega arith)) (none t.late (omega arith)) t.same;
          })
    ]

-- ---- the places of a walk

module _ (next : ℕ → ℕ) (c : ℕ) where
  walked_next : (k : ℕ) → walked next c (suc k) ≡ walked next (next c) k
  unfolding walked
  walked_next zero = refl
  walked_next (suc k) = ap next (walked_next k)

  walked-again : (a b : ℕ) → walked next c a ≡ walked next c b → (d : ℕ) → walked next c (a + d) ≡ walked next c (b + d)
  unfolding walked
  walked-again a b same zero = simp unary_clauses same
  walked-again a b same (suc d) = simp unary_clauses (ap next (walked-again a b same d))

-- ---- a walk that is refused

meets-endless : (c : ℕ) (rest : Walk) → meets c rest ≡ endless → rest ≡ endless
unfolding meets
meets-endless c (ends rows) p = cc
meets-endless c endless p = refl

-- it has not stopped, and goes on endless
goes_on : (stopped : Bool) (rest : Walk) → cond stopped (ends []) rest ≡ endless → (stopped ≡ false) × (rest ≡ endless)
goes_on true rest p = let z : ◌≡◌ {A = ℕ} 0 1 = cc in absurd (omega arith)
goes_on false rest p = (refl, p)

or-false-right : (a b : Bool) → (a || b) ≡ false → b ≡ false
or-false-right true b p = absurd (true≢false p)
or-false-right false b p = p

module _ (n : ℕ) (next : ℕ → ℕ) (end : ℕ) where
  pub on_below : (c : ℕ) → stops n next end c ≡ false → c < n
  unfolding stops
  on_below c p = leb-false n c (or-false-right (eqb c end) (leb n c) p)

  -- a walk that may meet m rows and wants more stops at none of its first places
  endless-first : (m c : ℕ) → walk_from n next end m c ≡ endless → (k : ℕ) → k ≤ m → stops n next end (walked next c k) ≡ false
  unfolding walk_from walked
  endless-first zero c p zero h = (goes_on (stops n next end c) endless p).0
  endless-first zero c p (suc k) h = absurd (not-suc-le-zero h)
  endless-first (suc m) c p zero h = (goes_on (stops n next end c) (meets c (walk_from n next end m (next c))) p).0
  endless-first (suc m) c p (suc k) h =
      let rest = (goes_on (stops n next end c) (meets c (walk_from n next end m (next c))) p).1 in
      ap (stops n next end) (walked_next next c k) ∙ endless-first m (next c) (meets-endless c (walk_from n next end m (next c)) rest) k (omega arith)

  -- one that comes to a place twice stops at none, where it stops at none of the first
  round-never : (c : ℕ) → Twice (walked next c) n → ((k : ℕ) → k ≤ n → stops n next end (walked next c k) ≡ false) → (m k : ℕ) → k ≤ m
      → stops n next end (walked next c k) ≡ false
  round-never c t first zero k h = first k (omega arith)
  round-never c t first (suc m) k h =
      elim (dec_le k n) [
        | yes early ↦ first k early
        | no late ↦
            (let back : ℕ = t.early + (k - t.late) in
            let place : t.late + (k - t.late) ≡ k = omega arith in
            let same : walked next c back ≡ walked next c k = rw place at (walked-again next c t.early t.late t.same (k - t.late)) in
            ap (stops n next end) (sym same) ∙ round-never c t first m back (omega arith))
      ]

  pub endless-never : (c : ℕ) → walk_from n next end n c ≡ endless → (k : ℕ) → stops n next end (walked next c k) ≡ false
  endless-never c p k =
      let first = endless-first n c p in
      round-never c (twice n (walked next c) (λ j h. on_below (walked next c j) (first j h))) first k k (le_refl k)

  -- however many rows it may meet
  never-any : (m c : ℕ) → ((k : ℕ) → stops n next end (walked next c k) ≡ false) → walk_from n next end m c ≡ endless
  unfolding walk_from walked meets
  never-any zero c never = rw (never 0)
  never-any (suc m) c never =
      rw (never 0) (ap (meets c) (never-any m (next c) (λ k. ap (stops n next end) (sym (walked_next next c k)) ∙ never (suc k))))

  pub never-endless : (c : ℕ) → ((k : ℕ) → stops n next end (walked next c k) ≡ false) → walk_from n next end n c ≡ endless
  never-endless c never = never-any n c never
