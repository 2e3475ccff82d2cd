-- From the ends of reaches as numbers to the demand's own words: which row a reach ends at, what lies in it, depth, parent and children.
use Rattle.std.specs.Prelude.{Option, Some, None}
use Prim.Native.Nat.{ℕ, zero, suc, ◌+◌, ◌≤◌, ◌<◌}
use native.Mathlib.Nat.{le_refl}
use native.Mathlib.Decide.{ℕ_discrete, dec_le}
use native.Mathlib.Omega.{arith}
use mathlib.Core.Path.{◌≡◌, refl, sym, ap, subst, ◌∙◌}
use mathlib.Core.Logic.{inl, inr, ⊎_elim}
use mathlib.Core.Bool.{Bool, true, false, not, cond, ◌&&◌, true≢false}
use mathlib.Core.List.{List, [], ◌∷◌}
use lib.ListN.{length}
use lib.Dec.{leb, ltb, eqb}
use borrow.Author.Tests.{lt-ltb, le-leb, ltb-true, leb-true, eq-eqb, ne_eqb, eqb-true}
use Rattle.entries.proofs.Laws.KnownRun.{by-test}
use Rattle.numbers.proofs.Laws.Tests.{cond-all}
use Rattle.numbers.specs.declared.Endian.{Endian}
use Rattle.tables.specs.Table.{Rows, lent_rows}
use Rattle.tables.specs.Row.{row_at}
use Rattle.tables.specs.Find.{row_of_key}
use Rattle.tables.proofs.Laws.Find.{row-found, row-of-own-key}
use Rattle.links.specs.Links.{null_row}
use Rattle.tree.specs.Pick.{count_below}
use Rattle.tree.proofs.Laws.Pick.{all_from, Nearest, nearest-below-is}
use Rattle.tree.specs.Reach.{later_row, reach_by, reach_end}
use Rattle.tree.specs.Nest.{lies, depth, parent}
use Rattle.tree.specs.Demand.{Among, RiseFrom, Exactly, key_of, sibling_of, ReachEnds, alone, rest, up_to, Lies, Depth, Parent, none, nearest, ChildOf}
use Rattle.tree.proofs.Laws.Reach.{reach-all, reach-row, reach-alone, later-named}
use Rattle.tree.proofs.Laws.WalkTree.{Plain}
use Rattle.tree.proofs.Laws.Ends.{children_in}

-- ---- lists that hold exactly what passes a test

both_true : {b c : Bool} → b ≡ true → c ≡ true → b && c ≡ true
both_true p q = rw (p, q)

first-true : (b c : Bool) → b && c ≡ true → b ≡ true
first-true true c p = refl
first-true false c p = p

second-true : (b c : Bool) → b && c ≡ true → c ≡ true
second-true true c p = p
second-true false c p = absurd (true≢false (sym p))

rise-less : {a b : ℕ} (xs : List ℕ) → a ≤ b → RiseFrom b xs → RiseFrom a xs
rise-less [] h r = tt
rise-less (x ∷ xs) h r = (omega (arith, r.0), r.1)

-- those from i on rise
all-rise : (p : ℕ → Bool) (i k : ℕ) → RiseFrom i (all_from p i k)
unfolding all_from
all-rise p i zero = tt
all-rise p i (suc k) =
    cond-all (RiseFrom i) (p i) (λ t. (le_refl i, all-rise p (suc i) k)) (λ f. rise-less (all_from p (suc i) k) (omega arith) (all-rise p (suc i) k))

-- what passes stands among them
all_among : (p : ℕ → Bool) (i k n : ℕ) → i ≤ n → n < i + k → p n ≡ true → Among n (all_from p i k)
unfolding all_from
all_among p i zero n h l t = absurd (omega arith)
all_among p i (suc k) n h l t =
    elim (ℕ_discrete i n) [
      | yes e ↦ cond-all (Among n) (p i) (λ u. inl e) (λ f. absurd (true≢false (sym t ∙ ap p (sym e) ∙ f)))
      | no d ↦ cond-all (Among n) (p i) (λ u. inr (all_among p (suc i) k n (omega arith) (omega arith) t))
          (λ f. all_among p (suc i) k n (omega arith) (omega arith) t)
    ]

-- what stands among them passes
among-passes : (p : ℕ → Bool) (i k n : ℕ) → Among n (all_from p i k) → (n < i + k) × (p n ≡ true)
unfolding all_from
among-passes p i zero n = λ a. absurd a
among-passes p i (suc k) n =
    cond-all (λ (xs : List ℕ). Among n xs → (n < i + suc k) × (p n ≡ true)) (p i)
    (λ t a. ⊎_elim (λ e. (let same : i ≡ n = e in (omega arith, ap p (sym same) ∙ t)))
    (λ b. (let later = among-passes p (suc i) k n b in (omega (arith, later.0), later.1))) a)
    (λ f a. (let later = among-passes p (suc i) k n a in (omega (arith, later.0), later.1)))

-- a test that says a property
pub tested-exactly : (P : ℕ → Type 0) (p : ℕ → Bool) (k : ℕ) → ((n : ℕ) → P n → (n < k) × (p n ≡ true)) → ((n : ℕ) → n < k → p n ≡ true → P n)
    → Exactly P (all_from p 0 k)
tested-exactly P p k to from =
    record {
      rising = all-rise p 0 k;
      all = λ n h. all_among p 0 k n (omega arith) (omega (arith, (to n h).0)) (to n h).1;
      only = λ n a. (let is = among-passes p 0 k n a in from n (omega (arith, is.0)) is.1);
    }

-- how many pass
add-more : (p : ℕ → Bool) (i k : ℕ) → length (all_from p i (suc k)) ≡ length (all_from p i k) + cond (p (i + k)) 1 0
unfolding all_from
add-more p i zero =
    let place : i + 0 ≡ i = omega arith in
    by-test (p i) (λ t. rw (place, t)) (λ f. rw (place, f))
add-more p i (suc k) =
    let place : i + suc k ≡ suc i + k = omega arith in
    let later : length (all_from p (suc i) (suc k)) ≡ length (all_from p (suc i) k) + cond (p (suc i + k)) 1 0 = add-more p (suc i) k in
    let one_more : suc (length (all_from p (suc i) k) + cond (p (suc i + k)) 1 0) ≡ suc (length (all_from p (suc i) k)) + cond (p (suc i + k)) 1 0 =
    omega arith
    in
    by-test (p i) (λ t. rw (place, t) (ap suc later ∙ one_more)) (λ f. rw (place, f) later)

pub all-counted : (p : ℕ → Bool) (k : ℕ) → length (all_from p 0 k) ≡ count_below p k
unfolding count_below all_from
all-counted p zero = refl
all-counted p (suc k) =
    let whole : length (all_from p 0 (suc k)) ≡ length (all_from p 0 k) + cond (p (0 + k)) 1 0 = add-more p 0 k in
    let before : length (all_from p 0 k) ≡ count_below p k = all-counted p k in
    let place : 0 + k ≡ k = omega arith in
    whole ∙ by-test (p k) (λ t. rw (place, t, before) (omega arith)) (λ f. rw (place, f, before) (omega arith))

-- ---- the same rising list

-- no number of a rising list lies below its least
among-least : (least n : ℕ) (xs : List ℕ) → RiseFrom least xs → Among n xs → least ≤ n
among-least least n [] r a = absurd a
among-least least n (x ∷ xs) r a = ⊎_elim (λ e. (let same : x ≡ n = e in omega (arith, r.0))) (λ b. omega (arith, r.0, among-least (suc x) n xs r.1 b)) a

-- a number on a list is its first or lies above it
first-or-above : (x n : ℕ) (xs : List ℕ) → RiseFrom (suc x) xs → Among n (x ∷ xs) → x ≤ n
first-or-above x n xs r a = ⊎_elim (λ e. (let same : x ≡ n = e in omega arith)) (λ b. omega (arith, among-least (suc x) n xs r b)) a

-- a number above the first stands behind it
behind-first : (x n : ℕ) (xs : List ℕ) → x < n → Among n (x ∷ xs) → Among n xs
behind-first x n xs h a = ⊎_elim (λ e. (let same : x ≡ n = e in absurd (omega arith))) (λ b. b) a

-- two rising lists with the same numbers are the same
pub same-rising : (least least' : ℕ) (xs ys : List ℕ) → RiseFrom least xs → RiseFrom least' ys → ((n : ℕ) → Among n xs → Among n ys)
    → ((n : ℕ) → Among n ys → Among n xs) → xs ≡ ys
same-rising least least' [] [] r q to from = refl
same-rising least least' [] (y ∷ ys) r q to from = absurd (from y (inl refl))
same-rising least least' (x ∷ xs) [] r q to from = absurd (to x (inl refl))
same-rising least least' (x ∷ xs) (y ∷ ys) r q to from =
    let heads : x ≡ y = omega (arith, first-or-above y x ys q.1 (to x (inl refl)), first-or-above x y xs r.1 (from y (inl refl))) in
    let tails : xs ≡ ys =
    same-rising (suc x) (suc y) xs ys r.1 q.1 (λ n a. behind-first y n ys (omega (arith, among-least (suc x) n xs r.1 a)) (to n (inr a)))
    (λ n a. behind-first x n xs (omega (arith, among-least (suc y) n ys q.1 a)) (from n (inr a)))
    in
    cc

-- one property, one list
pub exactly-one : {P : ℕ → Type 0} {xs ys : List ℕ} → Exactly P xs → Exactly P ys → xs ≡ ys
exactly-one {P} {xs} {ys} a b =
    same-rising 0 0 xs ys a.rising b.rising (λ n m. b.all n (a.only n m)) (λ n m. a.all n (b.only n m))

-- ---- reaches

module _ {s rows : List ℕ} {n : ℕ} (plain : Plain s rows n) (e : Endian) (attrs : List ℕ) where
  abbrev t : Rows
  t = lent_rows e s rows attrs n

  abbrev reach : ℕ → ℕ
  reach i = reach_end (lent_rows e s rows attrs n) i

  -- the row that a reach ends at is the one that the code's number says
  pub reach-is : {i end : ℕ} → ReachEnds t i end → (i < n) × (reach i ≡ end) × (i < end) × (end ≤ n)
  reach-is (alone i h p) = (h, sym (reach-alone e s rows attrs n i refl p), omega arith, omega arith)
  reach-is (rest i h p) = (h, sym (reach-all e s rows attrs n i refl p refl), h, le_refl n)
  reach-is (up_to i j h l p) =
      let below : key_of t j < length s = plain.inside j l in
      (omega arith, sym (reach-row e s rows attrs n i refl p (λ same. omega arith) (later-named i refl (row-of-own-key plain.rising j l) h)), h, omega arith)

  -- a later row that is found is named
  found-named : {i key : ℕ} → i < n → sibling_of t i ≡ Some key → (found : Option ℕ) → row_of_key rows n key ≡ found → (later_row i found ≡ 0 → ⊥)
      → ReachEnds t i (later_row i found)
  unfolding later_row
  found-named {i} {key} h p (Some j) q other =
      let is = row-found rows n key q in
      by-test (ltb i j)
      (λ b. rw b (up_to i j (ltb-true i j b) is.0 (p ∙ ap Some (sym is.1))))
      (λ b. absurd (other (rw b)))
  found-named h p None q other = absurd (other refl)

  by-named : {i : ℕ} → i < n → (told : Option ℕ) → sibling_of t i ≡ told → (reach_by s rows n i told ≡ 0 → ⊥) → ReachEnds t i (reach_by s rows n i told)
  unfolding reach_by
  by-named {i} h (Some key) p other =
      by-test (eqb key (length s))
      (λ b. rw b (rest i h (p ∙ ap Some (eqb-true key (length s) b))))
      (λ b. rw b (found-named h p (row_of_key rows n key) refl (λ z. other (rw b z))))
  by-named {i} h None p other = alone i h p

  -- a reference that is not bad names a row
  pub reach-named : {i : ℕ} → i < n → (reach i ≡ 0 → ⊥) → ReachEnds t i (reach i)
  unfolding reach_end
  reach-named {i} h other = by-named h (sibling_of t i) refl other

  -- ---- what lies in a reach

  pub lies-then : {i j : ℕ} → Lies t i j → (i < n) × (i ≤ j) × (j < reach i) × (j < n)
  lies-then l =
      let is = reach-is l.ends in
      let same : reach _ ≡ l.end = is.1 in
      (is.0, l.from, omega (arith, l.before), omega (arith, l.before, is.3))

  pub lies-when : {i j : ℕ} → i < n → i ≤ j → j < reach i → Lies t i j
  lies-when {i} {j} h from before = record { end = reach i; ends = reach-named h (λ z. omega arith); from = from; before = before }

  -- by the code's test
  lies-tested : {i j : ℕ} → i < n → lies n reach i j ≡ true → Lies t i j
  unfolding lies
  lies-tested {i} {j} h b = lies-when h (leb-true i j (first-true (leb i j) _ b)) (ltb-true j (reach i) (second-true (leb i j) _ b))

  tested-lies : {i j : ℕ} → Lies t i j → lies n reach i j ≡ true
  unfolding lies
  tested-lies {i} {j} l = let is = lies-then l in both_true (le-leb i j is.1) (lt-ltb j (reach i) is.2)

  -- ---- depth

  abbrev is_other : ℕ → ℕ → Bool
  is_other j i = not (eqb i j) && lies n reach i j

  not_same : {i j : ℕ} → not (eqb i j) ≡ true → i ≡ j → ⊥
  not_same {i} {j} b e = true≢false (sym b ∙ ap not (eq-eqb i j e))

  pub depth_is : (j : ℕ) → Depth t j (depth n reach j)
  unfolding depth
  depth_is j =
      record {
        others = all_from (is_other j) 0 n;
        exactly = tested-exactly (λ (i : ℕ). (i ≡ j → ⊥) × Lies t i j) (is_other j) n
            (λ i p. ((lies-then p.1).0, both_true (ap not (ne_eqb i j p.0)) (tested-lies p.1)))
            (λ i h b. (not_same (first-true (not (eqb i j)) _ b), lies-tested h (second-true (not (eqb i j)) _ b)));
        many = all-counted (is_other j) n;
      }

  -- and no other number is
  pub depth-one : {j d : ℕ} → Depth t j d → d ≡ depth n reach j
  depth-one {j} a = let b = depth_is j in sym a.many ∙ ap length (exactly-one a.exactly b.exactly) ∙ b.many

  -- ---- parent

  near : (j : ℕ) → Nearest (λ i. lies n reach i j) j (parent n reach j)
  unfolding parent
  near j = nearest-below-is (λ i. lies n reach i j) j

  not-lies : {i j : ℕ} → lies n reach i j ≡ false → Lies t i j → ⊥
  not-lies b l = true≢false (sym (tested-lies l) ∙ b)

  by-parent : (j : ℕ) → j < n → (p : ℕ) → Nearest (λ i. lies n reach i j) j p → Parent t j p
  by-parent j h zero near = none (λ i l a. not-lies (near.after i (omega arith) l) a)
  by-parent j h (suc i) near =
      let below : suc i ≤ j = near.to in
      nearest i below (lies-tested (omega arith) (near.here i refl)) (λ k l m a. not-lies (near.after k l m) a)

  pub parent_is : (j : ℕ) → j < n → Parent t j (parent n reach j)
  parent_is j h = by-parent j h (parent n reach j) (near j)

  -- and no other row is
  none-nearest : (j : ℕ) → j < n → (p : ℕ) → Nearest (λ i. lies n reach i j) j p → ((i : ℕ) → i < j → Lies t i j → ⊥) → 0 ≡ p
  none-nearest j h zero at never = refl
  none-nearest j h (suc i) at never = absurd (never i at.to (lies-tested (omega (arith, at.to)) (at.here i refl)))

  one-nearest : (j i p : ℕ) → j < n → Nearest (λ i. lies n reach i j) j p → i < j → Lies t i j → ((k : ℕ) → i < k → k < j → Lies t k j → ⊥) → suc i ≡ p
  one-nearest j i zero h at before l last = absurd (not-lies (at.after i (omega arith) before) l)
  one-nearest j i (suc k) h at before l last =
      let below : suc k ≤ j = at.to in
      elim (ℕ_discrete i k) [
        | yes e ↦ ap suc e
        | no d ↦ elim (dec_le k i) [
          | yes b ↦ absurd (not-lies (at.after i (omega arith) before) l)
          | no b ↦ absurd (last k (omega arith) below (lies-tested (omega arith) (at.here k refl)))
        ]
      ]

  pub parent-one : {j p : ℕ} → j < n → Parent t j p → p ≡ parent n reach j
  parent-one {j} h (none never) = none-nearest j h (parent n reach j) (near j) never
  parent-one {j} h (nearest i before l last) = one-nearest j i (parent n reach j) h (near j) before l last

  -- ---- children

  abbrev is_child_of : ℕ → ℕ → Bool
  is_child_of i c = eqb (parent n reach c) (suc i) && not (null_row rows c)

  pub children-are : (i : ℕ) → Exactly (ChildOf t i) (children_in rows n reach i)
  unfolding null_row
  children-are i =
      tested-exactly (ChildOf t i) (is_child_of i) n
      (λ c p. (p.0, both_true (eq-eqb (parent n reach c) (suc i) (sym (parent-one p.0 p.2))) (ap not (ne_eqb (row_at rows c).kind 0 p.1))))
      (λ c h b. (
        h,
        not_same (second-true (eqb (parent n reach c) (suc i)) _ b),
        subst (Parent t c) (eqb-true (parent n reach c) (suc i) (first-true (eqb (parent n reach c) (suc i)) _ b)) (parent_is c h),
      ))
