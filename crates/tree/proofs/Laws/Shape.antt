-- Forests of rows as first child and next sibling. Where each row's reach ends behind what lies below it, the reaches nest, and depth and parent of
-- each row are those of the forest.
use Prim.Native.Nat.{ℕ, zero, suc, ◌+◌, ◌≤◌, ◌<◌}
use native.Mathlib.Nat.{le_refl}
use native.Mathlib.Decide.{ℕ_discrete, dec_lt}
use native.Mathlib.Omega.{arith}
use mathlib.Core.Path.{◌≡◌, refl, ap, ◌∙◌}
use mathlib.Core.Bool.{Bool, true, false, not, ◌&&◌}
use mathlib.Core.List.{List, [], ◌∷◌, ◌++◌}
use lib.Dec.{eqb}
use borrow.Author.Tests.{lt-ltb, le-ltb, le-leb, lt-leb, eq-eqb, ne_eqb}
use Rattle.tree.specs.Pick.{count_below, nearest_below}
use Rattle.tree.specs.Nest.{lies, depth, parent}
use Rattle.tree.specs.Tree.{places_from}
use Rattle.tree.proofs.Laws.Nested.{Nested}
use Rattle.tree.proofs.Laws.Open.{count-below}

-- no rows; or a first row with those below it, and its siblings with theirs
pub data Shape : Type 0 where
  none : Shape
  node : (below siblings : Shape) → Shape

-- its rows
unfoldable pub size : Shape → ℕ
size none = 0
size (node below siblings) = suc (size below + size siblings)

-- depth and parent of each row, as `forest_places` has them
unfoldable pub places : Shape → (row depth parent : ℕ) → List ℕ
places none row depth parent = []
places (node below siblings) row depth parent =
    depth ∷ parent ∷ (places below (suc row) (suc depth) (suc row) ++ places siblings (suc row + size below) depth parent)

-- each row's reach, of those from `row` on, ends behind the rows below it
abbrev pub Spans : (ℕ → ℕ) → Shape → ℕ → Type 0
Spans reach none row = Unit
Spans reach (node below siblings) row = (reach row ≡ suc row + size below) × Spans reach below (suc row) × Spans reach siblings (suc row + size below)

-- where row i stands, of a first row's, those of the k rows below it, and those behind
data Place (row k i : ℕ) : Type 0 where
  first : i ≡ row → Place row k i
  inside : suc row ≤ i → i < suc row + k → Place row k i
  behind : suc row + k ≤ i → Place row k i

place_of : (row k i : ℕ) → row ≤ i → Place row k i
place_of row k i h =
    elim (ℕ_discrete i row) [
      | yes e ↦ first e
      | no d ↦ elim (dec_lt i (suc row + k)) [ yes l ↦ inside (omega arith) l | no l ↦ behind (omega arith) ]
    ]

-- ---- such reaches nest

module _ (reach : ℕ → ℕ) where
  -- a reach ends behind its row and inside the forest
  spans-inside : (t : Shape) (row : ℕ) → Spans reach t row → (i : ℕ) → row ≤ i → i < row + size t → (i < reach i) × (reach i ≤ row + size t)
  unfolding size
  spans-inside none row s i h l = absurd (omega arith)
  spans-inside (node below siblings) row s i h l =
      elim (place_of row (size below) i h) [
        | first e ↦ (let end : reach i ≡ suc row + size below = ap reach e ∙ s.0 in (omega arith, omega arith))
        | inside a b ↦ (let rest = spans-inside below (suc row) s.1 i a b in (rest.0, omega (arith, rest.1)))
        | behind a ↦ (let rest = spans-inside siblings (suc row + size below) s.2 i a (omega arith) in (rest.0, omega (arith, rest.1)))
      ]

  spans-nest : (t : Shape) (row : ℕ) → Spans reach t row → (i j : ℕ) → row ≤ i → i < j → j < row + size t → j < reach i → reach j ≤ reach i
  unfolding size
  spans-nest none row s i j h l m o = absurd (omega arith)
  spans-nest (node below siblings) row s i j h l m o =
      elim (place_of row (size below) i h) [
        | first e ↦ (let end : reach i ≡ suc row + size below = ap reach e ∙ s.0 in
            omega (arith, (spans-inside below (suc row) s.1 j (omega arith) (omega arith)).1))
        | inside a b ↦ (let end : reach i ≤ suc row + size below = (spans-inside below (suc row) s.1 i a b).1 in
            spans-nest below (suc row) s.1 i j a l (omega arith) o)
        | behind a ↦ spans-nest siblings (suc row + size below) s.2 i j a l (omega arith) o
      ]

  pub spans-nested : (t : Shape) → Spans reach t 0 → Nested (size t) reach
  spans-nested t s = record {
    later = λ i h. (spans-inside t 0 s i (omega arith) (omega arith)).0;
    within = λ i h. omega (arith, (spans-inside t 0 s i (omega arith) (omega arith)).1);
    nests = λ i j l h m. spans-nest t 0 s i j (omega arith) l (omega arith) m;
  }

-- ---- depth and parent

-- tests that say the same count the same
count_same : (p q : ℕ → Bool) (k : ℕ) → ((i : ℕ) → i < k → p i ≡ q i) → count_below p k ≡ count_below q k
unfolding count_below
count_same p q zero same = refl
count_same p q (suc k) same = rw (same k (le_refl (suc k)), count_same p q k (λ i h. same i (omega arith)))

-- numbers that do not pass change no nearest one
nearest-below : (p : ℕ → Bool) (j n : ℕ) → j ≤ n → ((i : ℕ) → j ≤ i → i < n → p i ≡ false) → nearest_below p n ≡ nearest_below p j
unfolding nearest_below
nearest-below p j zero h fail = let last : j ≡ 0 = omega arith in rw last
nearest-below p j (suc n) h fail =
    elim (ℕ_discrete j (suc n)) [
      | yes all ↦ rw all
      | no fewer ↦ rw (fail n (omega arith) (le_refl (suc n))) (nearest-below p j n (omega arith) (λ i l m. fail i l (omega arith)))
    ]

module _ (n : ℕ) (reach : ℕ → ℕ) where
  lies_in : (i j : ℕ) → i ≤ j → j < reach i → lies n reach i j ≡ true
  unfolding lies
  lies_in i j h l = rw (le-leb i j h, lt-ltb j (reach i) l)

  lies-past : {i j : ℕ} → i ≤ j → reach i ≤ j → lies n reach i j ≡ false
  unfolding lies
  lies-past {i} {j} h l = rw (le-leb i j h, le-ltb j (reach i) l)

  -- only earlier rows count for a row's depth
  depth-before : (j : ℕ) → j < n → depth n reach j ≡ count_below (λ i. lies n reach i j) j
  unfolding depth lies
  depth-before j h =
      let test : ℕ → Bool = λ (i : ℕ). not (eqb i j) && lies n reach i j in
      count-below test j n (omega arith) (λ i l m.
      elim (ℕ_discrete i j) [ yes e ↦ rw (eq-eqb i j e) | no d ↦ rw (ne_eqb i j d, lt-leb i j (omega arith)) ])
      ∙ count_same test (λ i. lies n reach i j) j (λ i l. rw (ne_eqb i j (λ e. omega arith)))

  -- of each of the k rows from `row` on, so many earlier rows' reaches hold it, and this is the nearest of them
  record Around (row k depth parent : ℕ) : Type 0 where
    counted : (j : ℕ) → row ≤ j → j < row + k → count_below (λ i. lies n reach i j) row ≡ depth
    nearest : (j : ℕ) → row ≤ j → j < row + k → nearest_below (λ i. lies n reach i j) row ≡ parent

  -- no reach holds the first row
  around-all : (k : ℕ) → Around 0 k 0 0
  unfolding count_below nearest_below
  around-all k = record { counted = λ j h l. refl; nearest = λ j h l. refl }

  -- a row's reach holds the rows below it
  around-below : {row k depth parent : ℕ} (below : ℕ) → Around row k depth parent → reach row ≡ suc row + below → suc below ≤ k
      → Around (suc row) below (suc depth) (suc row)
  unfolding count_below nearest_below
  around-below {row} below around end h = record {
    counted = λ j l m. rw (lies_in row j (omega arith) (omega arith)) (ap suc (around.counted j (omega arith) (omega arith)));
    nearest = λ j l m. rw (lies_in row j (omega arith) (omega arith));
  }

  -- and none behind them, as no row's below it does
  around-behind : {row k depth parent : ℕ} (next rest : ℕ) → Around row k depth parent → row ≤ next → next + rest ≡ row + k
      → ((i : ℕ) → row ≤ i → i < next → reach i ≤ next) → Around next rest depth parent
  around-behind {row} next rest around h whole ends = record {
    counted = λ j l m. (let fail = past j l in count-below (λ i. lies n reach i j) row next h fail ∙ around.counted j (omega arith) (omega arith));
    nearest = λ j l m. (let fail = past j l in nearest-below (λ i. lies n reach i j) row next h fail ∙ around.nearest j (omega arith) (omega arith));
  }
    where
      past : (j : ℕ) → next ≤ j → (i : ℕ) → row ≤ i → i < next → lies n reach i j ≡ false
      past j l i a b = lies-past (omega arith) (omega (arith, ends i a b))

  places-append : (i a b : ℕ) → places_from n reach i (a + b) ≡ places_from n reach i a ++ places_from n reach (i + a) b
  unfolding places_from
  places-append i zero b = let none : 0 + b ≡ b = omega arith in let here : i + 0 ≡ i = omega arith in rw (none, here)
  places-append i (suc a) b =
      let more : suc a + b ≡ suc (a + b) = omega arith in
      let place : i + suc a ≡ suc i + a = omega arith in
      rw (more, place) (ap (λ (xs : List ℕ). depth n reach i ∷ parent n reach i ∷ xs) (places-append (suc i) a b))

  -- the rows from `row` on have these depths and parents
  spans-places : (t : Shape) (row d p : ℕ) → Spans reach t row → Around row (size t) d p → row + size t ≤ n
      → places_from n reach row (size t) ≡ places t row d p
  unfolding size places places_from parent
  spans-places none row d p s around h = refl
  spans-places (node below siblings) row d p s around h =
      let next : ℕ = suc row + size below in
      let own : depth n reach row ≡ d = depth-before row (omega arith) ∙ around.counted row (le_refl row) (omega arith) in
      let its : nearest_below (λ i. lies n reach i row) row ≡ p = around.nearest row (le_refl row) (omega arith) in
      let ends : (i : ℕ) → row ≤ i → i < next → reach i ≤ next =
      λ i a b. omega (arith, (spans-inside reach (node below none) row (s.0, s.1, tt) i a (omega arith)).1)
      in
      let first = spans-places below (suc row) (suc d) (suc row) s.1 (around-below (size below) around s.0 (omega arith)) (omega arith) in
      let others = spans-places siblings next d p s.2 (around-behind next (size siblings) around (omega arith) (omega arith) ends) (omega arith) in
      rw (own, its, places-append (suc row) (size below) (size siblings), first, others)

-- of all rows
pub spans-listed : (reach : ℕ → ℕ) (t : Shape) → Spans reach t 0 → places_from (size t) reach 0 (size t) ≡ places t 0 0 0
spans-listed reach t s = spans-places (size t) reach t 0 0 0 s (around-all (size t) reach (size t)) (omega arith)
