-- Where reaches nest, the walk over siblings from row i + 1 on, from a row to the end of its reach, up to the end of row i's, meets the children of row i.
use Prim.Native.Nat.{ℕ, zero, suc, ◌+◌, ◌-◌, ◌≤◌, ◌<◌}
use native.Mathlib.Nat.{le_refl, not-suc-le-zero}
use native.Mathlib.Decide.{ℕ_discrete, dec_lt}
use native.Mathlib.Omega.{arith}
use mathlib.Core.Path.{◌≡◌, sym, ap, ◌∙◌}
use mathlib.Core.Bool.{Bool, true, false, false≢true}
use mathlib.Core.List.{List, [], ◌∷◌}
use lib.Dec.{eqb}
use borrow.Author.Tests.{lt-ltb, le-ltb, le-leb, lt-leb, eq-eqb, ne_eqb}
use Rattle.numbers.proofs.Laws.Tests.{cond-all}
use Rattle.links.specs.Walk.{ends, meets, stops, walk_from}
use Rattle.tree.specs.Pick.{nearest_below}
use Rattle.tree.proofs.Laws.Pick.{all_from}
use Rattle.tree.specs.Nest.{lies, parent}
use Rattle.tree.proofs.Laws.Nested.{Nested}

-- ---- numbers that pass a test

module _ (test : ℕ → Bool) where
  -- one that passes, and none after it
  nearest-is : (k i : ℕ) → i < k → test i ≡ true → ((j : ℕ) → i < j → j < k → test j ≡ false) → nearest_below test k ≡ suc i
  unfolding nearest_below
  nearest-is zero i h passes none = absurd (not-suc-le-zero h)
  nearest-is (suc k) i h passes none =
      elim (ℕ_discrete i k) [
        | yes e ↦ rw (← e, passes)
        | no d ↦ rw (none k (omega arith) (le_refl (suc k))) (nearest-is k i (omega arith) passes (λ j l m. none j l (omega arith)))
      ]

  -- the nearest is none before one that passes
  nearest-least : (k i : ℕ) → i < k → test i ≡ true → i < nearest_below test k
  unfolding nearest_below
  nearest-least zero i h passes = absurd (not-suc-le-zero h)
  nearest-least (suc k) i h passes =
      cond-all (λ r. i < r) (test k) (λ t. omega arith) (λ f. elim (ℕ_discrete i k) [
        | yes e ↦ absurd (false≢true (sym f ∙ ap test (sym e) ∙ passes))
        | no d ↦ nearest-least k i (omega arith) passes
      ])

  -- the nearest stands before k, and passes
  nearest-told : (k i : ℕ) → nearest_below test k ≡ suc i → (i < k) × (test i ≡ true)
  unfolding nearest_below
  nearest-told zero i p = absurd (omega arith)
  nearest-told (suc k) i p =
      cond-all (λ r. r ≡ suc i → (i < suc k) × (test i ≡ true)) (test k)
      (λ t q. (let same : k ≡ i = omega arith in (omega arith, ap test (sym same) ∙ t)))
      (λ f q. (let told = nearest-told k i q in (omega (arith, told.0), told.1))) p

  -- of the numbers up to n, those before c may be left out where none of them passes
  all-skip : (n i c m k : ℕ) → i + m ≡ n → c + k ≡ n → i ≤ c → ((j : ℕ) → i ≤ j → j < c → test j ≡ false) → all_from test i m ≡ all_from test c k
  unfolding all_from
  all-skip n i c zero k p q h none = let last : k ≡ 0 = omega arith in rw last
  all-skip n i c (suc m) k p q h none =
      elim (ℕ_discrete i c) [
        | yes e ↦ (let size : k ≡ suc m = omega arith in rw (size, e))
        | no d ↦ rw (none i (le_refl i) (omega arith)) (all-skip n (suc i) c m k (omega arith) q (omega arith) (λ j l o. none j (omega arith) o))
      ]

-- ---- lying in a reach

module _ (n : ℕ) (reach : ℕ → ℕ) (i j : ℕ) where
  lies_in : i ≤ j → j < reach i → lies n reach i j ≡ true
  unfolding lies
  lies_in h l = rw (le-leb i j h, lt-ltb j (reach i) l)

  lies-past : i ≤ j → reach i ≤ j → lies n reach i j ≡ false
  unfolding lies
  lies-past h l = rw (le-leb i j h, le-ltb j (reach i) l)

-- ---- the walk

-- row i is the parent of row j
is_child : ℕ → (ℕ → ℕ) → ℕ → ℕ → Bool
is_child n reach i j = eqb (parent n reach j) (suc i)

module _ {n : ℕ} {reach : ℕ → ℕ} (nested : Nested n reach) (i : ℕ) (i-is-row : i < n) where
  -- the walk over row i's children comes to row c, and so no reach between goes past it
  record Comes (c : ℕ) : Type 0 where
    after : i < c
    within : c ≤ reach i
    ended : (j : ℕ) → i < j → j < c → reach j ≤ c

  comes-first : Comes (suc i)
  comes-first = record { after = le_refl (suc i); within = nested.later i i-is-row; ended = λ j h l. omega arith }

  module _ (c : ℕ) (comes : Comes c) (before : c < reach i) where
    c-is-row : c < n
    c-is-row = let inside : reach i ≤ n = nested.within i i-is-row in omega arith

    comes-next : Comes (reach c)
    comes-next =
        let later : c < reach c = nested.later c c-is-row in
        let start : i < c = comes.after in
        record {
          after = omega arith;
          within = nested.nests i c comes.after c-is-row before;
          ended = λ j h l. elim (dec_lt j c) [
            | yes earlier ↦ (let old : reach j ≤ c = comes.ended j h earlier in omega arith)
            | no rest ↦ elim (ℕ_discrete j c) [
              | yes e ↦ (let same : reach j ≡ reach c = ap reach e in omega arith)
              | no d ↦ (let inside : reach c ≤ n = nested.within c c-is-row in nested.nests c j (omega arith) (omega arith) l)
            ]
          ];
        }

    -- row c is a child
    child-here : is_child n reach i c ≡ true
    unfolding is_child parent
    child-here =
        let start : i < c = comes.after in
        eq-eqb (parent n reach c) (suc i)
        (nearest-is (λ (j : ℕ). lies n reach j c) c i start (lies_in n reach i c (omega arith) before)
        (λ j h l. lies-past n reach j c (omega arith) (comes.ended j h l)))

    -- a row inside it has a nearer parent
    child-inside : (j : ℕ) → c < j → j < reach c → is_child n reach i j ≡ false
    unfolding is_child parent
    child-inside j h l =
        let start : i < c = comes.after in
        let nearer : c < nearest_below (λ (k : ℕ). lies n reach k j) j =
        nearest-least (λ (k : ℕ). lies n reach k j) j c h (lies_in n reach c j (omega arith) l) in
        ne_eqb (parent n reach j) (suc i) (λ e. omega arith)

    -- so of the rows from c on the children are row c and those from the end of its reach on
    children-from : (m k : ℕ) → c + m ≡ n → reach c + k ≡ n → all_from (is_child n reach i) c m ≡ c ∷ all_from (is_child n reach i) (reach c) k
    unfolding all_from
    children-from zero k p q = let row : c < n = c-is-row in absurd (omega arith)
    children-from (suc m) k p q =
        let later : c < reach c = nested.later c c-is-row in
        rw child-here (ap (λ (rows : List ℕ). c ∷ rows) (all-skip (is_child n reach i) n (suc c) (reach c) m k (omega arith) q later child-inside))

  -- a row up to row i, or past its reach, is no child
  child-none : (j : ℕ) → (i < j → reach i ≤ j) → is_child n reach i j ≡ false
  unfolding is_child parent
  child-none j outside =
      ne_eqb (parent n reach j) (suc i) (λ e.
      (let told = nearest-told (λ (k : ℕ). lies n reach k j) j i e in
      false≢true (sym (lies-past n reach i j (omega (arith, told.0)) (outside told.0)) ∙ told.1)))

  -- at the end of row i's reach the walk stops, and no child is left
  walk-done : (k c m : ℕ) → c ≡ reach i → c + m ≡ n → walk_from n reach (reach i) k c ≡ ends (all_from (is_child n reach i) c m)
  unfolding walk_from stops all_from
  walk-done k c m e p =
      stopped k
      ∙ ap ends (sym (all-skip (is_child n reach i) n c n m 0 p (omega arith) (omega arith) (λ j h l. child-none j (λ o. omega arith))))
    where
      stopped : (k : ℕ) → walk_from n reach (reach i) k c ≡ ends []
      stopped zero = rw (eq-eqb c (reach i) e)
      stopped (suc k) = rw (eq-eqb c (reach i) e)

  walk_from_lem : (k c m : ℕ) → c + m ≡ n → m ≤ k → Comes c → walk_from n reach (reach i) k c ≡ ends (all_from (is_child n reach i) c m)
  unfolding walk_from stops meets
  walk_from_lem zero c m p h comes =
      let inside : reach i ≤ n = nested.within i i-is-row in
      let within : c ≤ reach i = comes.within in
      walk-done 0 c m (omega arith) p
  walk_from_lem (suc k) c m p h comes =
      let within : c ≤ reach i = comes.within in
      elim (dec_lt c (reach i)) [
        | no done ↦ walk-done (suc k) c m (omega arith) p
        | yes before ↦
            (let row : c < n = c-is-row c comes before in
            let later : c < reach c = nested.later c row in
            let inside : reach c ≤ n = nested.within c row in
            rw (ne_eqb c (reach i) (λ e. omega arith), lt-leb n c row)
            (ap (meets c) (walk_from_lem k (reach c) (n - reach c) (omega arith) (omega arith) (comes-next c comes before))
            ∙ ap ends (sym (children-from c comes before m (n - reach c) p (omega arith)))))
      ]

-- the children of row i, by the walk and by their parents
pub walk-children : (n : ℕ) (reach : ℕ → ℕ) → Nested n reach → (i : ℕ) → i < n
    → walk_from n reach (reach i) n (suc i) ≡ ends (all_from (λ j. eqb (parent n reach j) (suc i)) 0 n)
unfolding is_child
walk-children n reach nested i h =
    walk_from_lem nested i h n (suc i) (n - suc i) (omega arith) (omega arith) (comes-first nested i h)
    ∙ ap ends (sym (all-skip (is_child n reach i) n 0 (suc i) n (n - suc i) (omega arith) (omega arith) (omega arith)
    (λ j l m. child-none nested i h j (λ o. omega arith))))
