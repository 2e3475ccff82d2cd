-- What follows from `Tree`, for each way that the code comes to an answer.
use Rattle.format.specs.Said.{gives}
use Prim.Native.Nat.{ℕ, zero, suc, ◌+◌, ◌-◌, ◌≤◌, ◌<◌}
use native.Mathlib.Omega.{arith}
use mathlib.Core.Path.{◌≡◌, refl, sym, ap, ◌∙◌}
use mathlib.Core.Bool.{Bool, true, false, cond}
use mathlib.Core.List.{List}
use lib.Seq.{sets}
use lib.Dec.{ltb}
use borrow.Author.Tests.{leb-true}
use Rattle.format.specs.Limits.{depth_limit}
use Rattle.format.proofs.Laws.Said.{last-gave, tests-gave}
use Rattle.format.specs.declared.refusal.Reason.{Reason}
use Rattle.format.specs.declared.refusal.Reason.TheVariants as reason
use Rattle.tables.specs.Row.{row_at, erased_row}
use Rattle.tables.specs.declared.row.Row.{Row}
use Rattle.tree.specs.Pick.{first_from}
use Rattle.tree.proofs.Laws.Pick.{first-from-is}
use Rattle.tree.specs.Nest.{deep, first_fault, first_deep}
use Rattle.tree.proofs.Laws.Ends.{Reaching}
use Rattle.tree.proofs.Laws.Nested.{Nested}
use Rattle.tree.specs.Inside.Passing.{fault_from, open_deep, open_words, OpenListed}
use Rattle.tree.proofs.Laws.Fault.{first-fault, fault-none}
use Rattle.tree.proofs.Laws.Open.{open-depth, open-parent}
use Rattle.tree.specs.Tree.{places_from, first_erased, none_of, tree_tests}

-- ---- the first erased row

module _ (rows : List ℕ) (n i : ℕ) where
  erased-step : (b : Bool) → erased_row (row_at rows i).flags ≡ b → i < n
      → first_from (λ j. erased_row (row_at rows j).flags) i (n - i) ≡ cond b i (first_from (λ j. erased_row (row_at rows j).flags) (suc i) (n - suc i))
  unfolding first_from
  erased-step b t h = let step : n - i ≡ suc (n - suc i) = omega arith in rw (step, t)

  pub erased-here : {row : Row} {b : Bool} → i < n → row ≡ row_at rows i → b ≡ erased_row row.flags → b ≡ true
      → i ≡ first_from (λ j. erased_row (row_at rows j).flags) i (n - i)
  erased-here h p q t = sym (erased-step true (ap (λ (r : Row). erased_row r.flags) (sym p) ∙ sym q ∙ t) h)

  pub erased-not : {row : Row} {b : Bool} → i < n → row ≡ row_at rows i → b ≡ erased_row row.flags → b ≡ false
      → first_from (λ j. erased_row (row_at rows j).flags) (i + 1) (n - (i + 1)) ≡ first_from (λ j. erased_row (row_at rows j).flags) i (n - i)
  erased-not h p q t =
      let one : i + 1 ≡ suc i = omega arith in
      ap (λ (k : ℕ). first_from (λ j. erased_row (row_at rows j).flags) k (n - k)) one
      ∙ sym (erased-step false (ap (λ (r : Row). erased_row r.flags) (sym p) ∙ sym q ∙ t) h)

  pub erased-none : n ≤ i → i ≤ n → n ≡ first_from (λ j. erased_row (row_at rows j).flags) i (n - i)
  unfolding first_from
  erased-none h l = let step : n - i ≡ 0 = omega arith in rw step (omega arith)

-- ---- where reaches nest, the open rows tell depth and parent

first-same : (p q : ℕ → Bool) (i k : ℕ) → ((j : ℕ) → j < i + k → p j ≡ q j) → first_from p i k ≡ first_from q i k
unfolding first_from
first-same p q i zero h = refl
first-same p q i (suc k) h = rw (h i (omega arith), first-same p q (suc i) k (λ j l. h j (omega arith)))

module _ {n : ℕ} {reach : ℕ → ℕ} (nested : Nested n reach) where
  deep-same : first_from (open_deep reach) 0 n ≡ first_deep n reach
  unfolding first_deep open_deep deep
  deep-same =
      first-same (open_deep reach) (deep n reach) 0 n (λ j h. let l : j < n = omega arith in ap (λ (k : ℕ). ltb depth_limit k) (open-depth nested j l))

  places_same : (i k : ℕ) → i + k ≤ n → open_words reach i k ≡ places_from n reach i k
  unfolding open_words places_from
  places_same i zero h = refl
  places_same i (suc k) h =
      let here : i < n = omega arith in
      rw (open-depth nested i here, open-parent nested i here, places_same (suc i) k (omega arith))

-- ---- the tests in their order

pub erased-tested : (rows : List ℕ) (n : ℕ) {erased : ℕ} → erased ≡ first_erased rows n → (why : Reason)
    → none_of rows n erased why ≡ none_of rows n (first_erased rows n) why
erased-tested rows n e why = ap (λ (k : ℕ). none_of rows n k why) e

module _ (rows : List ℕ) (n : ℕ) (reach : ℕ → ℕ) (reaching : Reaching n reach) where
  -- the first row at fault, as the code finds it
  pub fault-tested : {fault : ℕ} → fault ≡ fault_from n reach 0 n → (why : Reason) → none_of rows n fault why ≡ none_of rows n (first_fault n reach) why
  fault-tested f why = ap (λ (k : ℕ). none_of rows n k why) (f ∙ first-fault n reach reaching)

  module _ (sound : none_of rows n (first_fault n reach) reason.Link ≡ gives tt) where
    -- no row is at fault, so reaches nest
    all-nest : Nested n reach
    unfolding first_fault
    all-nest =
        let most : first_fault n reach ≤ 0 + n = (first-from-is _ 0 n).to in
        let least : n ≤ first_fault n reach = leb-true n (first_fault n reach) (last-gave _ reason.Link _ sound) in
        let same : first_fault n reach ≡ n = omega arith in
        fault-none n reach reaching same

    -- and the open rows tell which lies too deep
    pub deep-tested : {deepest : ℕ} → deepest ≡ first_from (open_deep reach) 0 n → (why : Reason)
        → none_of rows n deepest why ≡ none_of rows n (first_deep n reach) why
    deep-tested d why = ap (λ (k : ℕ). none_of rows n k why) (d ∙ deep-same all-nest)

-- what the tests have told
pub record Passed (rows : List ℕ) (n : ℕ) (reach : ℕ → ℕ) : Type 0 where
  pub nested : Nested n reach
  pub shallow : n ≤ first_deep n reach

pub tests-passed : (rows : List ℕ) (n : ℕ) (reach : ℕ → ℕ) → Reaching n reach → tree_tests rows n reach ≡ gives tt → Passed rows n reach
unfolding tree_tests
tests-passed rows n reach reaching p =
    let whole = tests-gave _ _ p in
    let sound = tests-gave _ _ whole.1 in
    record {
      nested = all-nest rows n reach reaching sound.0;
      shallow = leb-true n (first_deep n reach) (last-gave _ reason.Depth _ sound.1);
    }

-- the pass over the rows then comes to the end, and leaves the listing in the room
pub all-listed : {rows : List ℕ} {n : ℕ} {reach : ℕ → ℕ} → Passed rows n reach → {room room' : List ℕ} {r : ℕ} → OpenListed reach n r room room'
    → room' ≡ sets room 0 (places_from n reach 0 n)
all-listed {n = n} {reach = reach} passed {room} {r = r} o =
    let deepest : first_from (open_deep reach) 0 n ≡ first_deep n reach = deep-same passed.nested in
    let most : first_from (open_deep reach) 0 n ≤ 0 + n = (first-from-is (open_deep reach) 0 n).to in
    let all : r ≡ n = omega (arith, o.deep_is, passed.shallow) in
    o.room_is ∙ ap (λ (k : ℕ). sets room 0 (open_words reach 0 k)) all ∙ ap (sets room 0) (places_same passed.nested 0 n (omega arith))
