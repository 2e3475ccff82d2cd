-- A rule that holds of every number below a bound, or of every number on a list, by a test that antt computes; and numbers beyond a list.
use Prim.Native.Nat.{ℕ, zero, suc, ◌≤◌, ◌<◌}
use native.Mathlib.Nat.{not-suc-le-zero}
use native.Mathlib.Decide.{ℕ_discrete}
use native.Mathlib.Omega.{arith}
use mathlib.Core.Path.{◌≡◌, refl, sym, ap, ◌∙◌}
use mathlib.Core.Bool.{Bool, true, false, ◌&&◌, beq, false≢true}
use mathlib.Core.List.{List, [], ◌∷◌}
use lib.ListN.{take, drop}
use lib.Dec.{ltb, eqb}
use borrow.Author.Tests.{ltb-true, eqb-true, ne_eqb}
use Rattle.numbers.proofs.Laws.Tests.{cond-all}
use Rattle.format.specs.Lookup.{is_on}

pub and_left : (a b : Bool) → (a && b) ≡ true → a ≡ true
and_left true b t = refl
and_left false b t = t

pub and_right : (a b : Bool) → (a && b) ≡ true → b ≡ true
and_right true b t = t
and_right false b t = absurd (false≢true t)

-- the test passes at every number below n
unfoldable pub below : ℕ → (ℕ → Bool) → Bool
below zero f = true
below (suc n) f = f n && below n f

pub below_at : (n : ℕ) (f : ℕ → Bool) → below n f ≡ true → (k : ℕ) → k < n → f k ≡ true
unfolding below
below_at zero f t k h = absurd (not-suc-le-zero h)
below_at (suc n) f t k h =
    elim (ℕ_discrete k n) [
      | yes e ↦ ap f e ∙ and_left (f n) (below n f) t
      | no d ↦ below_at n f (and_right (f n) (below n f) t) k (omega arith)
    ]

beq_same : (a b : Bool) → beq a b ≡ true → a ≡ b
beq_same true true t = refl
beq_same true false t = sym t
beq_same false true t = t
beq_same false false t = refl

-- two tests that are the same at every number below n
pub same-below : (n : ℕ) (f g : ℕ → Bool) → below n (λ k. beq (f k) (g k)) ≡ true → (k : ℕ) → k < n → f k ≡ g k
same-below n f g t k h = beq_same (f k) (g k) (below_at n (λ j. beq (f j) (g j)) t k h)

-- every number on the list is below b
unfoldable pub all_below : ℕ → List ℕ → Bool
all_below b [] = true
all_below b (x ∷ xs) = ltb x b && all_below b xs

-- a number beyond the first k of a list is among the others or not on it
pub beyond : (b k : ℕ) (xs : List ℕ) (n : ℕ) → all_below b (take k xs) ≡ true → b ≤ n → is_on n xs ≡ is_on n (drop k xs)
unfolding all_below is_on
beyond b zero xs n t h = refl
beyond b (suc k) [] n t h = refl
beyond b (suc k) (x ∷ xs) n t h =
    let small : x < b = ltb-true x b (and_left (ltb x b) (all_below b (take k xs)) t) in
    rw (ne_eqb x n (λ e. omega arith)) (beyond b k xs n (and_right (ltb x b) (all_below b (take k xs)) t) h)

-- the test passes at every number on the list
unfoldable pub all_on : (ℕ → Bool) → List ℕ → Bool
all_on f [] = true
all_on f (x ∷ xs) = f x && all_on f xs

pub all-on : (f : ℕ → Bool) (xs : List ℕ) (n : ℕ) → all_on f xs ≡ true → is_on n xs ≡ true → f n ≡ true
unfolding all_on is_on
all-on f [] n t h = absurd (false≢true h)
all-on f (x ∷ xs) n t h =
    cond-all (λ (k : ℕ). f n ≡ true) (eqb x n) {x = 0} {y = 0} (λ e. ap f (sym (eqb-true x n e)) ∙ and_left (f x) (all_on f xs) t)
    (λ d. all-on f xs n (and_right (f x) (all_on f xs) t) (rw d at h))
