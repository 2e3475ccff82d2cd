-- What follows from `Text`, byte by byte.
use Prim.Native.Nat.{ℕ, zero, suc, ◌+◌, ◌≤◌, ◌<◌}
use native.Mathlib.Nat.{add-zero, lt_of_not-le}
use native.Mathlib.Decide.{dec_le}
use native.Mathlib.Omega.{arith}
use mathlib.Core.Path.{◌≡◌, refl, sym, ap, subst, ◌∙◌}
use mathlib.Core.List.{List}
use lib.ListN.{length, get_or}
use Rattle.format.proofs.Laws.Lookup.{index-here, index-next, index-end}
use Rattle.attributes.specs.Text.{zero_from}

-- the zero at or after i
module _ (s : List ℕ) (i : ℕ) where
  pub zero-here : i < length s → get_or s i 0 ≡ 0 → zero_from s i ≡ i
  unfolding zero_from
  zero-here h p = sym (index-here s i 0 refl h p)

  pub zero-next : i < length s → (get_or s i 0 ≡ 0 → ⊥) → zero_from s i ≡ zero_from s (i + 1)
  unfolding zero_from
  zero-next h p = sym (index-next s i 0 refl h p)

  pub zero-end : length s ≤ i → zero_from s i ≡ i
  unfolding zero_from
  zero-end h = sym (index-end s i 0 refl h)

  pub zero-after : {z : ℕ} → z ≡ zero_from s i → i ≤ z
  unfolding zero_from
  zero-after p = omega arith

-- what a loop over the bytes goes by
pub ruleset zero_steps = (zero-here, zero-next, zero-end)

-- ---- the first zero

module _ (s : List ℕ) where
  pub zero-behind : (n at : ℕ) → at + n < length s → ((i : ℕ) → i < n → get_or s (at + i) 0 ≡ 0 → ⊥) → get_or s (at + n) 0 ≡ 0 → zero_from s at ≡ at + n
  zero-behind zero at h before here = zero-here s at (omega arith) (ap (λ (k : ℕ). get_or s k 0) (sym (add-zero at)) ∙ here) ∙ sym (add-zero at)
  zero-behind (suc n) at h before here =
      let place : at + suc n ≡ at + 1 + n = omega arith in
      zero-next s at (omega arith) (λ p. before 0 (omega arith) (ap (λ (k : ℕ). get_or s k 0) (add-zero at) ∙ p))
      ∙ zero-behind n (at + 1) (omega arith)
      (λ i b p. let there : at + suc i ≡ at + 1 + i = omega arith in before (suc i) (omega arith) (ap (λ (k : ℕ). get_or s k 0) there ∙ p))
      (ap (λ (k : ℕ). get_or s k 0) (sym place) ∙ here)
      ∙ sym place

  -- a zero stands at z, and none from `at` on before it
  pub record FirstZero (at z : ℕ) : Type 0 where
    pub here : get_or s z 0 ≡ 0
    pub before : (i : ℕ) → at ≤ i → i < z → get_or s i 0 ≡ 0 → ⊥

  pub first-zero : (n at : ℕ) → length s ≤ at + n → zero_from s at < length s → FirstZero at (zero_from s at)
  first-zero zero at h found = let end : zero_from s at ≡ at = zero-end s at (omega arith) in absurd (omega arith)
  first-zero (suc n) at h found =
      elim (dec_le (length s) at) [
        | yes past ↦ let end : zero_from s at ≡ at = zero-end s at past in absurd (omega arith)
        | no inside ↦ elim (dec_le (get_or s at 0) 0) [
          | yes none ↦
              let is : get_or s at 0 ≡ 0 = omega arith in
              subst (FirstZero at) (sym (zero-here s at (lt_of_not-le inside) is))
              (record { here = is; before = λ i from b p. omega arith })
          | no some ↦
              let other : get_or s at 0 ≡ 0 → ⊥ = λ p. omega arith in
              let next : zero_from s at ≡ zero_from s (at + 1) = zero-next s at (lt_of_not-le inside) other in
              let later : FirstZero (at + 1) (zero_from s (at + 1)) = first-zero n (at + 1) (omega arith) (omega arith) in
              subst (FirstZero at) (sym next) (record { here = later.here; before = λ i from b p. earlier later.before i from b p other })
        ]
      ]
    where
      earlier : {at z : ℕ} → ((i : ℕ) → at + 1 ≤ i → i < z → get_or s i 0 ≡ 0 → ⊥) → (i : ℕ) → at ≤ i → i < z → get_or s i 0 ≡ 0 → (get_or s at 0 ≡ 0 → ⊥) → ⊥
      earlier {at} later i from b p other =
          elim (dec_le (at + 1) i) [
            | yes more ↦ later i more b p
            | no same ↦ let here : i ≡ at = omega arith in other (ap (λ (k : ℕ). get_or s k 0) (sym here) ∙ p)
          ]

-- where a zero is there, the first one is found
pub zero-found : (s : List ℕ) (n at : ℕ) → at + n < length s → get_or s (at + n) 0 ≡ 0 → zero_from s at < length s
zero-found s zero at h p =
    let here : get_or s at 0 ≡ 0 = ap (λ (k : ℕ). get_or s k 0) (sym (add-zero at)) ∙ p in
    let is : zero_from s at ≡ at = zero-here s at (omega arith) here in
    omega arith
zero-found s (suc n) at h p =
    elim (dec_le (get_or s at 0) 0) [
      | yes none ↦ let is : zero_from s at ≡ at = zero-here s at (omega arith) (omega arith) in omega arith
      | no some ↦
          let same : at + suc n ≡ at + 1 + n = omega arith in
          let is : zero_from s at ≡ zero_from s (at + 1) = zero-next s at (omega arith) (λ q. omega arith) in
          let later : zero_from s (at + 1) < length s = zero-found s n (at + 1) (omega arith) (ap (λ (k : ℕ). get_or s k 0) (sym same) ∙ p) in
          omega arith
    ]
