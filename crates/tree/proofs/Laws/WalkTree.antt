-- The child walk in a table whose reaches nest: it meets exactly the rows with that parent.
use Rattle.std.specs.Prelude.{Option, Some, None}
use Prim.Native.Nat.{ℕ, zero, suc, ◌+◌, ◌-◌, ◌≤◌, ◌<◌}
use native.Mathlib.Nat.{lt_irrefl}
use native.Mathlib.Omega.{arith}
use mathlib.Core.Path.{◌≡◌, refl, ◌∙◌, subst}
use mathlib.Core.Bool.{Bool, true, false, cond, not, ◌&&◌, ◌||◌}
use mathlib.Core.List.{List}
use lib.ListN.{length}
use lib.Seq.{sets}
use lib.Dec.{leb, ltb, eqb}
use borrow.Author.Tests.{le-leb, leb-false, eqb-true}
use Rattle.lent.specs.Outcome.{outcome}
use Rattle.numbers.specs.declared.Endian.{Endian}
use Rattle.format.specs.Said.{gives, in_room, fills_room}
use Rattle.tables.specs.Table.{lent_rows}
use Rattle.tables.specs.Row.{row_at, erased_row}
use Rattle.tables.specs.Find.{row_of_key}
use Rattle.tables.specs.Inside.Find.{Rising}
use Rattle.tables.proofs.Laws.Find.{row-found}
use Rattle.entries.proofs.Laws.KnownRun.{by-test}
use Rattle.links.specs.Attribute.{sibling_number, reference_of}
use Rattle.links.specs.Walk.{ends, stops, walk_from}
use Rattle.links.specs.Links.{next_from, next_row, row_number, sibling_by, sibling_row, child_walk, null_row, non_null}
use Rattle.links.specs.Children.{children_met}
use Rattle.links.specs.Inside.Children.{listed_into}
use Rattle.tree.proofs.Laws.Pick.{all_from}
use Rattle.tree.specs.Reach.{later_row, reach_by, reach_end}
use Rattle.tree.specs.Nest.{parent}
use Rattle.tree.proofs.Laws.Nested.{Nested}
use Rattle.tree.proofs.Laws.Child.{walk-children}
use Rattle.tree.proofs.Laws.Ends.{children_in}

-- what is known of a table that was read with erased entries left out
pub record Plain (s rows : List ℕ) (n : ℕ) : Type 0 where
  pub rising : Rising rows n
  pub inside : (j : ℕ) → j < n → (row_at rows j).key < length s
  pub unerased : (j : ℕ) → j < n → erased_row (row_at rows j).flags ≡ false

-- ---- walks that go the same way are the same

second-false : (a b : Bool) → (a || b) ≡ false → b ≡ false
second-false true b h = absurd (subst (λ (x : Bool). elim x as (λ y. Type 0) [ true ↦ Unit | false ↦ ⊥ ]) h tt)
second-false false b h = h

walk_same : (n : ℕ) (next next' : ℕ → ℕ) (end : ℕ) → ((c : ℕ) → c < n → next c ≡ next' c) → (f c : ℕ)
    → walk_from n next end f c ≡ walk_from n next' end f c
unfolding walk_from stops
walk_same n next next' end same zero c = refl
walk_same n next next' end same (suc f) c =
    by-test (eqb c end || leb n c) (λ t. rw t)
    (λ t. let low : c < n = leb-false n c (second-false (eqb c end) (leb n c) t) in rw (t, same c low, walk_same n next next' end same f (next' c)))

-- a number that is picked where nothing lies below it
or-none : (i j : ℕ) (b : Bool) → i < cond b j 0 → j ≡ cond b j 0
or-none i j true h = refl
or-none i j false h = absurd (omega arith)

-- ---- in a plain table the next row is the next one, and the sibling is where the reach ends

module _ {s rows : List ℕ} {n : ℕ} (plain : Plain s rows n) where
  next-from-plain : (asking : Bool) (i k : ℕ) → i + k ≡ n → next_from rows asking i k ≡ i
  unfolding next_from
  next-from-plain asking i zero h = refl
  next-from-plain true i (suc k) h = refl
  next-from-plain false i (suc k) h = rw (plain.unerased i (omega arith))

  next-plain : (i : ℕ) → i < n → next_row rows n i ≡ suc i
  unfolding next_row
  next-plain i h = next-from-plain (erased_row (row_at rows i).flags) (suc i) (n - suc i) (omega arith)

  -- the section's end is no row's key
  end-nowhere : (key : ℕ) → key ≡ length s → (found : Option ℕ) → row_of_key rows n key ≡ found → row_number n found ≡ n
  unfolding row_number
  end-nowhere key h (Some j) p =
      let there = row-found rows n key p in
      let low : (row_at rows j).key < length s = plain.inside j there.0 in
      let same : (row_at rows j).key ≡ key = there.1 in
      absurd (lt_irrefl (length s) (subst (λ (k : ℕ). k < length s) (same ∙ h) low))
  end-nowhere key h None p = refl

  later-found : (i : ℕ) (found : Option ℕ) → i < later_row i found → row_number n found ≡ later_row i found
  unfolding row_number later_row
  later-found i (Some j) h = or-none i j (ltb i j) h
  later-found i None h = absurd (omega arith)

  sibling-by-reach : (i : ℕ) → i < n → (told : Option ℕ) → i < reach_by s rows n i told → sibling_by rows n i told ≡ reach_by s rows n i told
  unfolding sibling_by reach_by
  sibling-by-reach i l (Some key) h =
      by-test (eqb key (length s)) (λ t. rw t (end-nowhere key (eqb-true key (length s) t) (row_of_key rows n key) refl))
      (λ t. rw t (later-found i (row_of_key rows n key) (rw t at h)))
  sibling-by-reach i l None h = next-plain i l

  module _ (e : Endian) (attrs : List ℕ) (nested : Nested n (λ i. reach_end (lent_rows e s rows attrs n) i)) where
    abbrev pub reach : ℕ → ℕ
    reach i = reach_end (lent_rows e s rows attrs n) i

    sibling-reach : (i : ℕ) → i < n → sibling_row (lent_rows e s rows attrs n) i ≡ reach_end (lent_rows e s rows attrs n) i
    unfolding sibling_row reach_end
    sibling-reach i l = sibling-by-reach i l (reference_of e s rows attrs i sibling_number) (nested.later i l)

    -- the walk meets the rows with that parent
    walk-parent : (i : ℕ) → i < n
        → child_walk (lent_rows e s rows attrs n) i ≡ ends (all_from (λ j. eqb (parent n (λ k. reach_end (lent_rows e s rows attrs n) k) j) (suc i)) 0 n)
    unfolding child_walk
    walk-parent i l =
        rw (sibling-reach i l, next-plain i l)
        (walk_same n (λ c. sibling_row (lent_rows e s rows attrs n) c) (λ k. reach_end (lent_rows e s rows attrs n) k)
        (reach_end (lent_rows e s rows attrs n) i) sibling-reach n (suc i)
        ∙ walk-children n (λ k. reach_end (lent_rows e s rows attrs n) k) nested i l)

-- ---- null entries are left out

non-null-all : (rows : List ℕ) (p : ℕ → Bool) (i k : ℕ) → non_null rows (all_from p i k) ≡ all_from (λ j. p j && not (null_row rows j)) i k
unfolding non_null all_from
non-null-all rows p i zero = refl
non-null-all rows p i (suc k) =
    by-test (p i)
    (λ t. by-test (null_row rows i) (λ u. rw (t, u) (non-null-all rows p (suc i) k)) (λ u. rw (t, u, non-null-all rows p (suc i) k)))
    (λ t. rw t (non-null-all rows p (suc i) k))

-- with room enough they are what the walk of row i gives
pub children-given : {s rows : List ℕ} {n : ℕ} → Plain s rows n → (e : Endian) (attrs : List ℕ) → Nested n (λ i. reach_end (lent_rows e s rows attrs n) i)
    → (i : ℕ) → i < n → (room : List ℕ) → length (children_in rows n (λ k. reach_end (lent_rows e s rows attrs n) k) i) ≤ length room
    → listed_into rows (row_at rows i).key room (child_walk (lent_rows e s rows attrs n) i)
    ≡ outcome (gives (length (children_in rows n (λ k. reach_end (lent_rows e s rows attrs n) k) i)))
    (sets room 0 (children_in rows n (λ k. reach_end (lent_rows e s rows attrs n) k) i))
unfolding listed_into children_met in_room fills_room
children-given {s} {rows} {n} plain e attrs nested i l room h =
    let given : List ℕ = children_in rows n (λ k. reach_end (lent_rows e s rows attrs n) k) i in
    rw (
      walk-parent plain e attrs nested i l,
      non-null-all rows (λ j. eqb (parent n (λ k. reach_end (lent_rows e s rows attrs n) k) j) (suc i)) 0 n,
      le-leb (length given) (length room) h,
    )
