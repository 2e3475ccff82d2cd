-- What follows from `Lookup`: by index, from a place on, for loops; and by key, for tables that the code has as a `match`.
use Prim.Native.Nat.{ℕ, suc, ◌+◌, ◌≤◌, ◌<◌}
use native.Mathlib.Nat.{not-suc-le-zero, le_of_suc-le-suc}
use native.Mathlib.Numerals.{add-one}
use native.Mathlib.Omega.{arith}
use mathlib.Core.Path.{◌≡◌, refl, sym, ap, ◌∙◌}
use mathlib.Core.Bool.{Bool, true, false, ◌||◌, cond, or_assoc, or-false}
use mathlib.Core.List.{List, [], ◌∷◌, ◌++◌}
use lib.ListN.{length, get_or, drop, drop_of_length-le}
use lib.Seq.{drop-cons}
use lib.Dec.{eqb, ltb, leb-suc-suc}
use borrow.Author.Tests.{eq-eqb, ne_eqb, lt-ltb}
use Rattle.format.specs.Lookup.{Line, ◌means◌, is_on, index_of, lookup}

-- from i on: the element at i, or one after it
pub member-step : (xs : List ℕ) (i x : ℕ) → i < length xs → is_on x (drop i xs) ≡ (eqb (get_or xs i 0) x || is_on x (drop (i + 1) xs))
unfolding is_on
member-step xs i x h = rw (add-one, drop-cons xs i 0)

pub member-end : (xs : List ℕ) (i x : ℕ) → length xs ≤ i → false ≡ is_on x (drop i xs)
unfolding is_on
member-end xs i x h = rw (drop_of_length-le xs h)

-- what was found before i, with what stands from i on, comes to the whole list
module _ (xs : List ℕ) (i x : ℕ) (found : Bool) {all : Bool} (left : (found || is_on x (drop i xs)) ≡ all) where
  pub scan-next : i < length xs → ((found || eqb (get_or xs i 0) x) || is_on x (drop (i + 1) xs)) ≡ all
  scan-next h = or_assoc found _ _ ∙ ap (λ (b : Bool). found || b) (sym (member-step xs i x h)) ∙ left

  pub scan-end : length xs ≤ i → found ≡ all
  scan-end h = sym (or-false found) ∙ ap (λ (b : Bool). found || b) (member-end xs i x h) ∙ left

-- the place of x on the whole list, counted from i on
module _ (xs : List ℕ) (i x : ℕ) {place : ℕ} (left : i + index_of x (drop i xs) ≡ place) where
  pub index-here : i < length xs → get_or xs i 0 ≡ x → i ≡ place
  unfolding index_of
  index-here h p = let none : index_of x (drop i xs) ≡ 0 = rw (drop-cons xs i 0, eq-eqb (get_or xs i 0) x p) in omega arith

  pub index-next : i < length xs → (get_or xs i 0 ≡ x → ⊥) → i + 1 + index_of x (drop (i + 1) xs) ≡ place
  unfolding index_of
  index-next h p =
      let more : index_of x (drop i xs) ≡ suc (index_of x (drop (i + 1) xs)) = rw (add-one, drop-cons xs i 0, ne_eqb (get_or xs i 0) x p) in
      omega arith

  pub index-end : length xs ≤ i → i ≡ place
  unfolding index_of
  index-end h = let none : index_of x (drop i xs) ≡ 0 = rw (drop_of_length-le xs h) in omega arith

one_more : (here later : Bool) (k n : ℕ) → later ≡ ltb k n → (here || later) ≡ ltb (cond here 0 (suc k)) (suc n)
one_more true later k n p = sym (lt-ltb 0 (suc n) (omega arith))
one_more false later k n p = p ∙ sym (leb-suc-suc (suc k) n)

-- a number is on the list where its place is below the list's length
pub member-index : (xs : List ℕ) (x : ℕ) → is_on x xs ≡ ltb (index_of x xs) (length xs)
unfolding is_on index_of
member-index [] x = refl
member-index (y ∷ xs) x = one_more (eqb y x) (is_on x xs) (index_of x xs) (length xs) (member-index xs x)

-- numbers put behind a list do not change the place of one that is on it
pub index-append : (xs ys : List ℕ) (x : ℕ) → index_of x xs < length xs → index_of x (xs ++ ys) ≡ index_of x xs
unfolding index_of
index-append [] ys x h = absurd (not-suc-le-zero h)
index-append (y ∷ xs) ys x h = past (eqb y x) (index_of x xs) (index_of x (xs ++ ys)) (length xs) (index-append xs ys x) h
  where
    past : (b : Bool) (k l n : ℕ) → (k < n → l ≡ k) → cond b 0 (suc k) < suc n → cond b 0 (suc l) ≡ cond b 0 (suc k)
    past true k l n f g = refl
    past false k l n f g = ap suc (f (le_of_suc-le-suc g))

-- ---- tables

-- n is none of a table's numbers, as a `match` on n tells it: after what it told before, one line after the other
abbrev pub NoneOf : {A : Type 0} → Type 0 → ℕ → List (Line A) → Type 0
NoneOf before n [] = before
NoneOf before n (l ∷ ls) = NoneOf (before × (n ≡ l.number → ⊥)) n ls

told-before : {A : Type 0} (P : Type 0) (n : ℕ) (ls : List (Line A)) → NoneOf P n ls → P
told-before P n [] t = t
told-before P n (l ∷ ls) t = (told-before (P × (n ≡ l.number → ⊥)) n ls t).0

pub lookup-none : {A : Type 0} (P : Type 0) (ls : List (Line A)) (other : A) (n : ℕ) → NoneOf P n ls → other ≡ lookup ls other n
unfolding lookup
lookup-none P [] other n t = refl
lookup-none P (l ∷ ls) other n t =
    rw (ne_eqb l.number n (λ e. (told-before (P × (n ≡ l.number → ⊥)) n ls t).1 (sym e)))
    (lookup-none (P × (n ≡ l.number → ⊥)) ls other n t)

-- ---- a list that the code has as a `match`: numbers are on it, any other is not

-- the list as a table
abbrev pub lines : List ℕ → List (Line Bool)
lines [] = []
lines (x ∷ xs) = x means true ∷ lines xs

either_is : (b c : Bool) → cond b true c ≡ (b || c)
either_is true c = refl
either_is false c = refl

lines-member : (xs : List ℕ) (n : ℕ) → lookup (lines xs) false n ≡ is_on n xs
unfolding lookup is_on
lines-member [] n = refl
lines-member (x ∷ xs) n = ap (cond (eqb x n) true) (lines-member xs n) ∙ either_is (eqb x n) (is_on n xs)

-- none of the list's numbers
pub unlisted : (P : Type 0) (xs : List ℕ) (n : ℕ) → NoneOf P n (lines xs) → false ≡ is_on n xs
unlisted P xs n t = lookup-none P (lines xs) false n t ∙ lines-member xs n

-- nor has such a number a place on it
pub unplaced : (P : Type 0) (xs : List ℕ) (n : ℕ) → NoneOf P n (lines xs) → length xs ≡ index_of n xs
unfolding index_of
unplaced P [] n t = refl
unplaced P (x ∷ xs) n t =
    rw (ne_eqb x n (λ e. (told-before (P × (n ≡ x → ⊥)) n (lines xs) t).1 (sym e))) (ap suc (unplaced (P × (n ≡ x → ⊥)) xs n t))
