-- Where reaches nest, the rows that the code holds open at row j are those whose reach holds it: so they tell its depth and its parent.
use Prim.Native.Nat.{ℕ, zero, suc, ◌≤◌, ◌<◌}
use native.Mathlib.Nat.{le_refl}
use native.Mathlib.Decide.{ℕ_discrete, dec_lt}
use native.Mathlib.Omega.{arith}
use mathlib.Core.Path.{◌≡◌, refl, sym, ap, ◌∙◌}
use mathlib.Core.Bool.{Bool, false, not, cond, ◌&&◌}
use mathlib.Core.List.{List, [], ◌∷◌}
use lib.ListN.{length}
use lib.Dec.{ltb, eqb}
use borrow.Author.Tests.{lt-ltb, le-ltb, le-leb, lt-leb, eq-eqb, ne_eqb}
use Rattle.numbers.proofs.Laws.Tests.{cond_map, same_test}
use Rattle.tree.specs.Pick.{count_below, nearest_below}
use Rattle.tree.specs.Nest.{lies, depth, parent}
use Rattle.tree.specs.Inside.Passing.{closing, opened, open_at, nearest}
use Rattle.tree.proofs.Laws.Nested.{Nested}

-- ---- the numbers below k that pass a test, the nearest first

passing : (ℕ → Bool) → ℕ → List ℕ
passing test zero = []
passing test (suc k) = cond (test k) (k ∷ passing test k) (passing test k)

passing-same : (test other : ℕ → Bool) (k : ℕ) → ((i : ℕ) → i < k → test i ≡ other i) → passing test k ≡ passing other k
unfolding passing
passing-same test other zero same = refl
passing-same test other (suc k) same = rw (same k (le_refl (suc k)), passing-same test other k (λ i h. same i (omega arith)))

module _ (test : ℕ → Bool) where
  passing-count : (k : ℕ) → length (passing test k) ≡ count_below test k
  unfolding passing count_below
  passing-count zero = refl
  passing-count (suc k) = cond_map length (test k) (k ∷ passing test k) (passing test k) ∙ rw (passing-count k)

  passing-nearest : (k : ℕ) → nearest (passing test k) ≡ nearest_below test k
  unfolding passing nearest_below nearest
  passing-nearest zero = refl
  passing-nearest (suc k) = cond_map nearest (test k) (k ∷ passing test k) (passing test k) ∙ rw (passing-nearest k)

  -- only numbers below j pass
  pub count-below : (j n : ℕ) → j ≤ n → ((i : ℕ) → j ≤ i → i < n → test i ≡ false) → count_below test n ≡ count_below test j
  unfolding count_below
  count-below j zero h none = let last : j ≡ 0 = omega arith in rw last
  count-below j (suc n) h none =
      elim (ℕ_discrete j (suc n)) [
        | yes all ↦ rw all
        | no fewer ↦ rw (none n (omega arith) (le_refl (suc n))) (count-below j n (omega arith) (λ i l m. none i l (omega arith)))
      ]

-- ---- the rows held open

-- the rows below k whose reach goes past row j, the nearest first
abbrev open_rows : (ℕ → ℕ) → ℕ → ℕ → List ℕ
open_rows reach j k = passing (λ i. ltb j (reach i)) k

module _ (reach : ℕ → ℕ) (j k : ℕ) where
  rows_in : j < reach k → open_rows reach j (suc k) ≡ k ∷ open_rows reach j k
  unfolding passing
  rows_in h = rw (lt-ltb j (reach k) h)

  rows_out : reach k ≤ j → open_rows reach j (suc k) ≡ open_rows reach j k
  unfolding passing
  rows_out h = rw (le-ltb j (reach k) h)

  closing-open : (rows : List ℕ) → j < reach k → closing reach j (k ∷ rows) ≡ k ∷ rows
  unfolding closing
  closing-open rows h = rw (lt-ltb j (reach k) h)

  closing-ended : (rows : List ℕ) → reach k ≤ j → closing reach j (k ∷ rows) ≡ closing reach j rows
  unfolding closing
  closing-ended rows h = rw (le-ltb j (reach k) h)

module _ {n : ℕ} {reach : ℕ → ℕ} (nested : Nested n reach) where
  -- where row k's reach goes past row j + 1, so do those of the rows before it that are open at row j
  rows_kept : (j k : ℕ) → k ≤ j → k < n → suc j < reach k → open_rows reach j k ≡ open_rows reach (suc j) k
  rows_kept j k h l stays =
      passing-same (λ i. ltb j (reach i)) (λ i. ltb (suc j) (reach i)) k (λ i m.
      same_test (suc j) (reach i) (suc (suc j)) (reach i)
      (λ past. (let inside : reach k ≤ reach i = nested.nests i k m l (omega arith) in omega arith)) (λ ended. omega arith))

  -- so closing, which stops at the first row that stays open, drops all that end
  closing-rows : (j k : ℕ) → k ≤ suc j → k ≤ n → closing reach (suc j) (open_rows reach j k) ≡ open_rows reach (suc j) k
  unfolding passing closing
  closing-rows j zero h l = refl
  closing-rows j (suc k) h l =
      let rest : closing reach (suc j) (open_rows reach j k) ≡ open_rows reach (suc j) k = closing-rows j k (omega arith) (omega arith) in
      elim (dec_lt j (reach k)) [
        | no ended ↦ ap (closing reach (suc j)) (rows_out reach j k (omega arith)) ∙ rest ∙ sym (rows_out reach (suc j) k (omega arith))
        | yes past ↦ ap (closing reach (suc j)) (rows_in reach j k past) ∙ elim (dec_lt (suc j) (reach k)) [
          | no ends ↦ closing-ended reach (suc j) k (open_rows reach j k) (omega arith) ∙ rest ∙ sym (rows_out reach (suc j) k (omega arith))
          | yes stays ↦ closing-open reach (suc j) k (open_rows reach j k) stays
              ∙ ap (λ (rows : List ℕ). k ∷ rows) (rows_kept j k (omega arith) l stays) ∙ sym (rows_in reach (suc j) k stays)
        ]
      ]

  open-rows : (j : ℕ) → j < n → open_at reach j ≡ open_rows reach j j
  unfolding open_at opened passing closing
  open-rows zero h = refl
  open-rows (suc j) h =
      let before : j < n = omega arith in
      ap (λ (rows : List ℕ). closing reach (suc j) (j ∷ rows)) (open-rows j before)
      ∙ ap (closing reach (suc j)) (sym (rows_in reach j j (nested.later j before)))
      ∙ closing-rows j (suc j) (le_refl (suc j)) before

-- ---- their number and the nearest

module _ {n : ℕ} {reach : ℕ → ℕ} (nested : Nested n reach) (j : ℕ) (h : j < n) where
  open-passing : (test : ℕ → Bool) → ((i : ℕ) → i < j → ltb j (reach i) ≡ test i) → open_at reach j ≡ passing test j
  open-passing test same = open-rows nested j h ∙ passing-same (λ i. ltb j (reach i)) test j same

  pub open-depth : length (open_at reach j) ≡ depth n reach j
  unfolding depth lies
  open-depth =
      let test : ℕ → Bool = λ (i : ℕ). not (eqb i j) && lies n reach i j in
      ap length (open-passing test (λ i l. rw (ne_eqb i j (λ e. omega arith), le-leb i j (omega arith))))
      ∙ passing-count test j
      ∙ sym (count-below test j n (omega arith) (λ i l m.
      elim (ℕ_discrete i j) [ yes e ↦ rw (eq-eqb i j e) | no d ↦ rw (ne_eqb i j d, lt-leb i j (omega arith)) ]))

  pub open-parent : nearest (open_at reach j) ≡ parent n reach j
  unfolding parent lies
  open-parent =
      let test : ℕ → Bool = λ (i : ℕ). lies n reach i j in
      ap nearest (open-passing test (λ i l. rw (le-leb i j (omega arith)))) ∙ passing-nearest test j
