-- Where a number first stands on a list: it stands there, and not before.
use Prim.Native.Nat.{ℕ, zero, suc, ◌<◌}
use native.Mathlib.Nat.{not-suc-le-zero, le_of_suc-le-suc}
use mathlib.Core.Path.{◌≡◌, refl}
use mathlib.Core.Bool.{Bool, true, false, cond}
use mathlib.Core.List.{List, [], ◌∷◌}
use lib.ListN.{length, get_or}
use lib.Dec.{eqb}
use borrow.Author.Tests.{eq-eqb, eqb-true}
use Rattle.format.specs.Lookup.{index_of}

pub index_at : (x : ℕ) (xs : List ℕ) → index_of x xs < length xs → get_or xs (index_of x xs) 0 ≡ x
unfolding index_of
index_at x [] h = absurd (not-suc-le-zero h)
index_at x (y ∷ xs) h = go (eqb y x) refl (index_at x xs) h
  where
    go : (b : Bool) → eqb y x ≡ b → (index_of x xs < length xs → get_or xs (index_of x xs) 0 ≡ x) → cond b 0 (suc (index_of x xs)) < suc (length xs)
        → get_or (y ∷ xs) (cond b 0 (suc (index_of x xs))) 0 ≡ x
    go true t f g = eqb-true y x t
    go false t f g = f (le_of_suc-le-suc g)

pub index-before : (x : ℕ) (xs : List ℕ) (i : ℕ) → i < index_of x xs → get_or xs i 0 ≡ x → ⊥
unfolding index_of
index-before x [] i h p = not-suc-le-zero h
index-before x (y ∷ xs) zero h p = not-suc-le-zero (rw (eq-eqb y x p) at h)
index-before x (y ∷ xs) (suc i) h p = index-before x xs i (past (eqb y x) (index_of x xs) h) p
  where
    past : (b : Bool) (k : ℕ) → suc i < cond b 0 (suc k) → i < k
    past true k g = absurd (not-suc-le-zero g)
    past false k g = le_of_suc-le-suc g
