-- What follows from `EachChild`: a walk that ends also ends from each row that it meets, so that its children can be taken one at a time.
use Rattle.std.specs.Prelude.{Option, Some, None}
use Prim.Native.Nat.{ℕ, zero, suc, ◌+◌, ◌≤◌, ◌<◌}
use native.Mathlib.Nat.{le_refl, le_trans, lt_of_not-le}
use native.Mathlib.Decide.{dec_le}
use native.Mathlib.Omega.{arith}
use mathlib.Core.Path.{◌≡◌, refl, sym, ap, ◌∙◌, subst}
use mathlib.Core.Logic.{◌⊎◌, inl, inr}
use mathlib.Core.Bool.{Bool, true, false, true≢false}
use mathlib.Core.List.{List, [], ◌∷◌}
use lib.ListN.{length}
use borrow.Author.Tests.{eq-eqb, ne_eqb}
use Rattle.numbers.proofs.Laws.Tests.{cond-all}
use Rattle.numbers.specs.declared.Endian.{Endian}
use Rattle.tables.specs.Table.{lent_rows}
use Rattle.tables.specs.Row.{row_at}
use Rattle.tables.specs.declared.row.Row.{Row}
use Rattle.links.specs.Walk.{Walk, ends, endless, meets, stops, walk_from}
use Rattle.links.specs.Links.{next_row, sibling_row, child_walk, null_row, non_null}
use Rattle.links.specs.Inside.Links.{RowsHold}
use Rattle.links.specs.Inside.Children.{gathered_into}
use Rattle.links.proofs.Laws.Children.{at-end, past-last, goes, stopped, unended, met, IsEndless, IsCount}
use Rattle.links.proofs.Laws.Endless.{on_below}
use Rattle.links.specs.Inside.EachChild.{rows_met, is_ending, walk_on, children_from, children_at, Ends, first_or}

-- what follows from both answers of a test
by-test : {P : Type 0} (b : Bool) → (b ≡ true → P) → (b ≡ false → P) → P
by-test true f g = f refl
by-test false f g = g refl

-- ---- one turn of a walk that ends

ending-met : (c : ℕ) (w : Walk) → is_ending (meets c w) ≡ is_ending w
unfolding is_ending meets
ending-met c (ends cs) = refl
ending-met c endless = refl

rows-met : (c : ℕ) (w : Walk) → is_ending w ≡ true → rows_met (meets c w) ≡ c ∷ rows_met w
unfolding rows_met meets is_ending
rows-met c (ends cs) h = refl
rows-met c endless h = absurd (true≢false (sym h))

module _ (n : ℕ) (next : ℕ → ℕ) (end : ℕ) where
  never_ends : (c : ℕ) → stops n next end c ≡ false → is_ending (walk_from n next end zero c) ≡ true → ⊥
  unfolding is_ending
  never_ends c h p = true≢false (sym p ∙ ap is_ending (unended n next end c h))

  rest-ends : (k c : ℕ) → stops n next end c ≡ false → is_ending (walk_from n next end (suc k) c) ≡ true → is_ending (walk_from n next end k (next c)) ≡ true
  rest-ends k c h p = sym (ending-met c (walk_from n next end k (next c))) ∙ sym (ap is_ending (met n next end c h k)) ∙ p

  -- more turns than it takes do not matter
  one_more : (k c : ℕ) → is_ending (walk_from n next end k c) ≡ true → walk_from n next end (suc k) c ≡ walk_from n next end k c
  one_more zero c p =
      by-test (stops n next end c) (λ h. stopped n next end c h 1 ∙ sym (stopped n next end c h 0)) (λ h. absurd (never_ends c h p))
  one_more (suc k) c p =
      by-test (stops n next end c) (λ h. stopped n next end c h (suc (suc k)) ∙ sym (stopped n next end c h (suc k)))
      (λ h. met n next end c h (suc k) ∙ ap (meets c) (one_more k (next c) (rest-ends k c h p)) ∙ sym (met n next end c h k))

  -- so it goes on from the next row with as many
  turn : (k c : ℕ) → stops n next end c ≡ false → is_ending (walk_from n next end k c) ≡ true
      → walk_from n next end k c ≡ meets c (walk_from n next end k (next c))
  turn zero c h p = absurd (never_ends c h p)
  turn (suc k) c h p = met n next end c h k ∙ ap (meets c) (sym (one_more k (next c) (rest-ends k c h p)))

-- ---- the children from a row on

module _ (e : Endian) (s rows attrs : List ℕ) (n end : ℕ) where
  abbrev Stops : ℕ → Bool
  Stops c = stops n (λ d. sibling_row (lent_rows e s rows attrs n) d) end c

  abbrev rest : ℕ → ℕ
  rest c = length (rows_met (walk_on e s rows attrs n end c))

  abbrev after : ℕ → ℕ
  after c = sibling_row (lent_rows e s rows attrs n) c

  stopped-children : (c : ℕ) → Stops c ≡ true → children_from e s rows attrs n end c ≡ []
  unfolding children_from walk_on rows_met non_null
  stopped-children c h = ap (λ (w : Walk). non_null rows (rows_met w)) (stopped n (λ d. sibling_row (lent_rows e s rows attrs n) d) end c h n)

  module _ {c : ℕ} (w : Ends e s rows attrs n end c) (h : Stops c ≡ false) where
    on-turn : walk_on e s rows attrs n end c ≡ meets c (walk_on e s rows attrs n end (after c))
    unfolding walk_on
    on-turn = turn n (λ d. sibling_row (lent_rows e s rows attrs n) d) end n c h w.ending

    ends-after : Ends e s rows attrs n end (after c)
    ends-after =
        record { table = w.table; ending = sym (ending-met c (walk_on e s rows attrs n end (after c))) ∙ sym (ap is_ending on-turn) ∙ w.ending }

    met-after : rows_met (walk_on e s rows attrs n end c) ≡ c ∷ rows_met (walk_on e s rows attrs n end (after c))
    met-after = ap rows_met on-turn ∙ rows-met c (walk_on e s rows attrs n end (after c)) ends-after.ending

    fewer : rest c ≡ suc (rest (after c))
    fewer = ap length met-after

    null-children : null_row rows c ≡ true → children_from e s rows attrs n end c ≡ children_from e s rows attrs n end (after c)
    unfolding children_from non_null
    null-children t = ap (non_null rows) met-after ∙ rw t

    row-children : null_row rows c ≡ false → children_from e s rows attrs n end c ≡ c ∷ children_from e s rows attrs n end (after c)
    unfolding children_from non_null
    row-children t = ap (non_null rows) met-after ∙ rw t

  -- d is the first child from c on
  record First (c d : ℕ) : Type 0 where
    there : d < n
    kept : null_row rows d ≡ false
    here : Ends e s rows attrs n end d
    own : children_from e s rows attrs n end d ≡ d ∷ children_from e s rows attrs n end (after d)
    on : Ends e s rows attrs n end (after d)
    list : children_from e s rows attrs n end c ≡ d ∷ children_from e s rows attrs n end (after d)

  abbrev Firsts : ℕ → Type 0
  Firsts c = (children_from e s rows attrs n end c ≡ []) ⊎ ((d : ℕ) × First c d)

  -- past a null entry, it is the first from its sibling on
  first_on : {c d : ℕ} → children_from e s rows attrs n end c ≡ children_from e s rows attrs n end (after c) → First (after c) d → First c d
  first_on same f = record { there = f.there; kept = f.kept; here = f.here; own = f.own; on = f.on; list = same ∙ f.list }

  firsts-on : {c : ℕ} → children_from e s rows attrs n end c ≡ children_from e s rows attrs n end (after c) → Firsts (after c) → Firsts c
  firsts-on same (inl none) = inl (same ∙ none)
  firsts-on same (inr more) = inr (more.0, first_on same more.1)

  -- among so many rows
  firsts : (m c : ℕ) → rest c ≤ m → Ends e s rows attrs n end c → Firsts c
  firsts zero c l w =
      by-test (Stops c) (λ h. inl (stopped-children c h)) (λ h. (let less : rest c ≡ suc (rest (after c)) = fewer w h in absurd (omega arith)))
  firsts (suc m) c l w =
      by-test (Stops c) (λ h. inl (stopped-children c h))
      (λ h. by-test (null_row rows c)
      (λ t. (let less : rest c ≡ suc (rest (after c)) = fewer w h in firsts-on (null-children w h t) (firsts m (after c) (omega arith) (ends-after w h))))
      (λ t. inr (
        c,
        record {
          there = on_below n (λ d. sibling_row (lent_rows e s rows attrs n) d) end c h;
          kept = t;
          here = w;
          own = row-children w h t;
          on = ends-after w h;
          list = row-children w h t;
        },
      )))

  -- from a row that is not there on, there are none
  past-children : (c : ℕ) → n ≤ c → children_from e s rows attrs n end c ≡ []
  past-children c l = stopped-children c (past-last n (λ d. sibling_row (lent_rows e s rows attrs n) d) end c l)

  past-ends : (c : ℕ) → n ≤ c → is_ending (walk_on e s rows attrs n end c) ≡ true
  unfolding walk_on is_ending
  past-ends c l =
      let next : ℕ → ℕ = λ d. sibling_row (lent_rows e s rows attrs n) d in ap is_ending (stopped n next end c (past-last n next end c l) n)

  module _ {c : ℕ} (w : Ends e s rows attrs n end c) {d : ℕ} (is : d ≡ first_or n (children_from e s rows attrs n end c)) where
    first : d < n → First c d
    unfolding first_or
    first l =
        elim (firsts (rest c) c (le_refl (rest c)) w) [
          | inl none ↦ (let past : d ≡ n = is ∙ ap (first_or n) none in absurd (omega arith))
          | inr more ↦ subst (First c) (sym (is ∙ ap (first_or n) more.1.list)) more.1
        ]

    -- the first child, and those from its sibling on
    pub children-more : d < n → children_from e s rows attrs n end c ≡ d ∷ children_from e s rows attrs n end (sibling_row (lent_rows e s rows attrs n) d)
    children-more l = (first l).list

    pub ends_more : d < n → Ends e s rows attrs n end (sibling_row (lent_rows e s rows attrs n) d)
    ends_more l = (first l).on

    pub children-none : n ≤ d → children_from e s rows attrs n end c ≡ []
    unfolding first_or
    children-none l =
        elim (firsts (rest c) c (le_refl (rest c)) w) [
          | inl none ↦ none
          | inr more ↦ (let there' : more.0 < n = more.1.there in let same : d ≡ more.0 = is ∙ ap (first_or n) more.1.list in absurd (omega arith))
        ]

    -- from the first child on, or from n where there is none, the children are the same
    pub children-same : children_from e s rows attrs n end d ≡ children_from e s rows attrs n end c
    children-same =
        elim (dec_le n d) [
          | yes l ↦ past-children d l ∙ sym (children-none l)
          | no l ↦ (let f : First c d = first (lt_of_not-le l) in f.own ∙ sym f.list)
        ]

    pub ends_same : Ends e s rows attrs n end d
    ends_same = elim (dec_le n d) [ yes l ↦ record { table = w.table; ending = past-ends d l } | no l ↦ (first (lt_of_not-le l)).here ]

    pub first-same : d ≡ first_or n (children_from e s rows attrs n end d)
    first-same = is ∙ ap (first_or n) (sym children-same)

  -- ---- the loop that looks for a child: the children from c on are those from the start on

  pub record Seeking (from c : ℕ) : Type 0 where
    pub on : Ends e s rows attrs n end c
    pub left : children_from e s rows attrs n end c ≡ children_from e s rows attrs n end from

  module _ {from c : ℕ} (w : Seeking from c) where
    none_left : Stops c ≡ true → n ≡ first_or n (children_from e s rows attrs n end from)
    unfolding first_or
    none_left h = ap (first_or n) (sym (stopped-children c h) ∙ w.left)

    pub seeking-end : c ≡ end → n ≡ first_or n (children_from e s rows attrs n end from)
    seeking-end h = none_left (at-end n (λ d. sibling_row (lent_rows e s rows attrs n) d) end c h)

    pub seeking-past : n ≤ c → n ≡ first_or n (children_from e s rows attrs n end from)
    seeking-past h = none_left (past-last n (λ d. sibling_row (lent_rows e s rows attrs n) d) end c h)

    module _ (h : c ≡ end → ⊥) (l : c < n) where
      on-way : Stops c ≡ false
      on-way = goes n (λ d. sibling_row (lent_rows e s rows attrs n) d) end c h l

      pub seeking-found : {row : Row} → row ≡ row_at rows c → (row.kind ≡ 0 → ⊥) → c ≡ first_or n (children_from e s rows attrs n end from)
      unfolding first_or null_row
      seeking-found p k =
          ap (first_or n) (sym (row-children w.on on-way (ne_eqb (row_at rows c).kind 0 (λ z. k (ap (λ (r : Row). r.kind) p ∙ z)))) ∙ w.left)

      pub seeking-on : {row : Row} {c' : ℕ} → row ≡ row_at rows c → row.kind ≡ 0 → c' ≡ sibling_row (lent_rows e s rows attrs n) c → Seeking from c'
      unfolding null_row
      seeking-on p k q =
          let test : null_row rows c ≡ true = eq-eqb (row_at rows c).kind 0 (ap (λ (r : Row). r.kind) (sym p) ∙ k) in
          subst (Seeking from) (sym q) (record { on = ends-after w.on on-way; left = sym (null-children w.on on-way test) ∙ w.left })

      -- fewer rows are left to meet
      pub seeking-less : {c' : ℕ} → c' ≡ sibling_row (lent_rows e s rows attrs n) c
          → length (rows_met (walk_on e s rows attrs n end c')) < length (rows_met (walk_on e s rows attrs n end c))
      seeking-less {c'} q =
          let less : rest c ≡ suc (rest (after c)) = fewer w.on on-way in
          let same : rest c' ≡ rest (after c) = ap rest q in
          omega arith

-- ---- what counting tells

counted-by : (rows : List ℕ) (w : Walk) {told : Option ℕ} → told ≡ (gathered_into rows 0 [] w).answer → {k : ℕ} → told ≡ Some k
    → (is_ending w ≡ true) × (k ≡ length (non_null rows (rows_met w)))
unfolding gathered_into is_ending rows_met
counted-by rows (ends cs) p {k} q =
    let many : k ≡ 0 + length (non_null rows cs) = subst (IsCount k) (sym q ∙ p) refl in
    (refl, omega arith)
counted-by rows endless p {k} q = absurd (subst (IsCount k) (sym q ∙ p) refl)

endless-by : (rows : List ℕ) (w : Walk) {told : Option ℕ} → told ≡ (gathered_into rows 0 [] w).answer → told ≡ None → w ≡ endless
unfolding gathered_into
endless-by rows (ends cs) p q = absurd (subst IsEndless (sym q ∙ p) tt)
endless-by rows endless p q = refl

ending-walk : (w : Walk) → is_ending w ≡ true → w ≡ ends (rows_met w)
unfolding is_ending rows_met
ending-walk (ends cs) h = refl
ending-walk endless h = absurd (true≢false (sym h))

module _ (e : Endian) (s rows attrs : List ℕ) (n i : ℕ) where
  module _ {end c : ℕ} (p : end ≡ sibling_row (lent_rows e s rows attrs n) i) (q : c ≡ next_row rows n i) where
    pub children-at : children_from e s rows attrs n end c ≡ children_at e s rows attrs n i
    unfolding children_at
    children-at = ap (λ (x : ℕ). children_from e s rows attrs n x c) p ∙ ap (children_from e s rows attrs n (sibling_row (lent_rows e s rows attrs n) i)) q

    pub ends_at : Ends e s rows attrs n (sibling_row (lent_rows e s rows attrs n) i) (next_row rows n i) → Ends e s rows attrs n end c
    ends_at w =
        subst (λ (x : ℕ). Ends e s rows attrs n x c) (sym p) (subst (Ends e s rows attrs n (sibling_row (lent_rows e s rows attrs n) i)) (sym q) w)

  pub walk-children : {cs : List ℕ} → child_walk (lent_rows e s rows attrs n) i ≡ ends cs → children_at e s rows attrs n i ≡ non_null rows cs
  unfolding children_at children_from walk_on child_walk rows_met
  walk-children p = ap (λ (w : Walk). non_null rows (rows_met w)) p

  module _ {told : Option ℕ} (is : told ≡ (gathered_into rows 0 [] (child_walk (lent_rows e s rows attrs n) i)).answer) where
    pub counted-ends : {k : ℕ} → RowsHold rows n → told ≡ Some k → Ends e s rows attrs n (sibling_row (lent_rows e s rows attrs n) i) (next_row rows n i)
    unfolding walk_on child_walk
    counted-ends table p = record { table = table; ending = (counted-by rows _ is p).0 }

    pub counted-children : {k : ℕ} → told ≡ Some k → k ≡ length (children_at e s rows attrs n i)
    unfolding children_at children_from walk_on child_walk
    counted-children p = (counted-by rows _ is p).1

    pub counted-walk : {k : ℕ} → told ≡ Some k → child_walk (lent_rows e s rows attrs n) i ≡ ends (rows_met (child_walk (lent_rows e s rows attrs n) i))
    counted-walk p = ending-walk (child_walk (lent_rows e s rows attrs n) i) (counted-by rows _ is p).0

    pub endless-walk : told ≡ None → child_walk (lent_rows e s rows attrs n) i ≡ endless
    endless-walk p = endless-by rows _ is p

-- ---- how many children there are at most

few-met : (c : ℕ) (w : Walk) → length (rows_met (meets c w)) ≤ suc (length (rows_met w))
unfolding meets rows_met
few-met c (ends cs) = omega arith
few-met c endless = omega arith

few-walked : (n : ℕ) (next : ℕ → ℕ) (end turns c : ℕ) → length (rows_met (walk_from n next end turns c)) ≤ turns
unfolding walk_from rows_met
few-walked n next end zero c = cond-all (λ (w : Walk). length (rows_met w) ≤ 0) (stops n next end c) (λ t. omega arith) (λ t. omega arith)
few-walked n next end (suc turns) c =
    cond-all (λ (w : Walk). length (rows_met w) ≤ suc turns) (stops n next end c) (λ t. omega arith)
    (λ t. (let more : Walk = walk_from n next end turns (next c) in
    let here : length (rows_met (meets c more)) ≤ suc (length (rows_met more)) = few-met c more in
    let rest : length (rows_met more) ≤ turns = few-walked n next end turns (next c) in
    omega arith))

few-kept : (rows cs : List ℕ) → length (non_null rows cs) ≤ length cs
unfolding non_null
few-kept rows [] = omega arith
few-kept rows (c ∷ cs) =
    let rest : length (non_null rows cs) ≤ length cs = few-kept rows cs in
    cond-all (λ (xs : List ℕ). length xs ≤ suc (length cs)) (null_row rows c) (λ t. omega arith) (λ t. omega arith)

pub few-children : (e : Endian) (s rows attrs : List ℕ) (n end c : ℕ) → length (children_from e s rows attrs n end c) ≤ n
unfolding children_from walk_on
few-children e s rows attrs n end c = le_trans (few-kept rows _) (few-walked n (λ d. sibling_row (lent_rows e s rows attrs n) d) end n c)
