-- What is known of a row that was found, and what the searches come to.
use Rattle.std.specs.Prelude.{Option, Some, None}
use Prim.Native.Nat.{ℕ, zero, suc, ◌+◌, ◌*◌, ◌≤◌, ◌<◌}
use native.Mathlib.Nat.{le_refl, not-suc-le-zero}
use native.Mathlib.Decide.{ℕ_discrete, dec_lt}
use native.Mathlib.Numerals.{add-one}
use native.Mathlib.Omega.{arith}
use mathlib.Core.Path.{◌≡◌, refl, sym, ap, subst, ◌∙◌}
use mathlib.Core.List.{List}
use lib.ListN.{get_or}
use lib.Dec.{eqb}
use borrow.Author.Tests.{eq-eqb, ne_eqb, eqb-true}
use Rattle.numbers.proofs.Laws.Tests.{cond-all}
use Rattle.tables.specs.Row.{row_width, row_at}
use Rattle.tables.specs.Find.{row_from, row_of_key}
use Rattle.tables.specs.Inside.Find.{Rising}
use Rattle.tables.specs.Inside.Find.{FirstFrom, Between}

-- a row's first word is its key
pub key-word : (rows : List ℕ) (i : ℕ) → get_or rows (i * row_width) 0 ≡ (row_at rows i).key
unfolding row_at
key-word rows i = refl

-- ---- keys that rise

pub rises : {rows : List ℕ} {n : ℕ} → Rising rows n → (i j : ℕ) → i < j → j < n → (row_at rows i).key < (row_at rows j).key
rises rising i zero h l = absurd (not-suc-le-zero h)
rises {rows} rising i (suc j) h l =
    let step : (row_at rows j).key < (row_at rows (suc j)).key = rw add-one at (rising.rise j (omega arith)) in
    elim (ℕ_discrete i j) [
      | yes e ↦ let same : (row_at rows i).key ≡ (row_at rows j).key = ap (λ (k : ℕ). (row_at rows k).key) e in omega arith
      | no d ↦ let before : (row_at rows i).key < (row_at rows j).key = rises rising i j (omega arith) (omega arith) in omega arith
    ]

pub rises-or-same : {rows : List ℕ} {n : ℕ} → Rising rows n → (i j : ℕ) → i ≤ j → j < n → (row_at rows i).key ≤ (row_at rows j).key
rises-or-same {rows} rising i j h l =
    elim (ℕ_discrete i j) [
      | yes e ↦ let same : (row_at rows i).key ≡ (row_at rows j).key = ap (λ (k : ℕ). (row_at rows k).key) e in omega arith
      | no d ↦ let less : (row_at rows i).key < (row_at rows j).key = rises rising i j (omega arith) l in omega arith
    ]

-- ---- bisection

pub between-all : (rows : List ℕ) (n key : ℕ) → Between rows n key 0 n
between-all rows n key =
    record { ordered = omega arith; within = le_refl n; lower = λ k h. absurd (not-suc-le-zero h); reaches = λ k h l. omega arith }

module _ {rows : List ℕ} {n key low high : ℕ} (rising : Rising rows n) (b : Between rows n key low high)
    (middle : ℕ) (at_least_lem : low ≤ middle) (less : middle < high) where
  -- the row in the middle has a lower key
  pub between-upper : {w : ℕ} → w ≡ get_or rows (middle * row_width) 0 → w < key → Between rows n key (middle + 1) high
  between-upper {w} p h =
      let word : w ≡ (row_at rows middle).key = p ∙ key-word rows middle in
      record {
        ordered = omega arith;
        within = b.within;
        lower = λ k l. (let before : (row_at rows k).key ≤ (row_at rows middle).key = rises-or-same rising k middle (omega arith) (omega arith) in omega arith);
        reaches = b.reaches;
      }

  -- it has not
  pub between_lower : {w : ℕ} → w ≡ get_or rows (middle * row_width) 0 → key ≤ w → Between rows n key low middle
  between_lower {w} p h =
      let word : w ≡ (row_at rows middle).key = p ∙ key-word rows middle in
      record {
        ordered = at_least_lem;
        within = omega arith;
        lower = b.lower;
        reaches = λ k l m. (let after : (row_at rows middle).key ≤ (row_at rows k).key = rises-or-same rising middle k l m in omega arith);
      }

pub between-one : {rows : List ℕ} {n key low high : ℕ} → Between rows n key low high → high ≤ low → FirstFrom rows n key low
between-one b h = record { within = omega arith; lower = b.lower; reaches = λ k l m. b.reaches k (omega arith) m }

-- ---- the row of a key

from_none : (rows : List ℕ) (key i n : ℕ) → ((k : ℕ) → i ≤ k → k < i + n → (row_at rows k).key ≡ key → ⊥) → None ≡ row_from rows i n key
unfolding row_from
from_none rows key i zero none = refl
from_none rows key i (suc n) none =
    rw (ne_eqb (row_at rows i).key key (none i (le_refl i) (omega arith)))
    (from_none rows key (suc i) n (λ k h l. none k (omega arith) (omega arith)))

from_at : (rows : List ℕ) (key i n j : ℕ) → i ≤ j → j < i + n → ((k : ℕ) → i ≤ k → k < j → (row_at rows k).key ≡ key → ⊥) → (row_at rows j).key ≡ key
    → Some j ≡ row_from rows i n key
unfolding row_from
from_at rows key i zero j h l none p = absurd (omega arith)
from_at rows key i (suc n) j h l none p =
    elim (ℕ_discrete i j) [
      | yes e ↦ rw (e, eq-eqb (row_at rows j).key key p)
      | no d ↦ rw (ne_eqb (row_at rows i).key key (none i (le_refl i) (omega arith)))
          (from_at rows key (suc i) n j (omega arith) (omega arith) (λ k m o. none k (omega arith) o) p)
    ]

module _ (rows : List ℕ) (n key i : ℕ) (first : FirstFrom rows n key i) where
  -- no row reaches the key
  pub row-past : n ≤ i → None ≡ row_of_key rows n key
  unfolding row_of_key
  row-past h = from_none rows key 0 n (λ k l m p. (let low : (row_at rows k).key < key = first.lower k (omega arith) in omega arith))

  -- the first that reaches it has it
  pub row_here : {w : ℕ} → i < n → w ≡ get_or rows (i * row_width) 0 → w ≡ key → Some i ≡ row_of_key rows n key
  unfolding row_of_key
  row_here h q p =
      from_at rows key 0 n i (omega arith) (omega arith) (λ k l m o. (let low : (row_at rows k).key < key = first.lower k m in omega arith))
      (sym (key-word rows i) ∙ sym q ∙ p)

  -- it has another
  pub row_other : {w : ℕ} → Rising rows n → i < n → w ≡ get_or rows (i * row_width) 0 → (w ≡ key → ⊥) → None ≡ row_of_key rows n key
  unfolding row_of_key
  row_other {w} rising h q p =
      let word : w ≡ (row_at rows i).key = q ∙ key-word rows i in
      let high : key ≤ (row_at rows i).key = first.reaches i (le_refl i) h in
      from_none rows key 0 n (λ k l m o. elim (dec_lt k i) [
        | yes before ↦ (let low : (row_at rows k).key < key = first.lower k before in omega arith)
        | no after ↦ (let up : (row_at rows i).key ≤ (row_at rows k).key = rises-or-same rising i k (omega arith) (omega arith) in omega arith)
      ])

-- ---- what is known of the answer

-- of a row that was found among the rows from i on: its place and its key
abbrev Good : List ℕ → ℕ → ℕ → ℕ → Option ℕ → Type 0
Good rows key i end (Some j) = (i ≤ j) × (j < end) × ((row_at rows j).key ≡ key)
Good rows key i end None = Unit

good_more : (rows : List ℕ) (key i end : ℕ) (found : Option ℕ) → Good rows key (suc i) end found → Good rows key i end found
good_more rows key i end (Some j) g = (omega arith, g.1, g.2)
good_more rows key i end None g = tt

good : (rows : List ℕ) (key i n end : ℕ) → i + n ≡ end → Good rows key i end (row_from rows i n key)
unfolding row_from
good rows key i zero end q = tt
good rows key i (suc n) end q =
    cond-all (Good rows key i end) (eqb (row_at rows i).key key) (λ t. (le_refl i, omega arith, eqb-true (row_at rows i).key key t))
    (λ f. good_more rows key i end (row_from rows (suc i) n key) (good rows key (suc i) n end (omega arith)))

-- a row that was found is one of the table's, and has the key
pub row-found : (rows : List ℕ) (n key : ℕ) {i : ℕ} → row_of_key rows n key ≡ Some i → (i < n) × ((row_at rows i).key ≡ key)
unfolding row_of_key
row-found rows n key {i} p = let g = subst (Good rows key 0 n) p (good rows key 0 n n (omega arith)) in (g.1, g.2)

-- a row is the row of its own key
pub row-of-own-key : {rows : List ℕ} {n : ℕ} → Rising rows n → (i : ℕ) → i < n → row_of_key rows n (row_at rows i).key ≡ Some i
unfolding row_of_key
row-of-own-key {rows} {n} rising i h =
    sym (from_at rows (row_at rows i).key 0 n i (omega arith) (omega arith)
    (λ k l m p. (let less : (row_at rows k).key < (row_at rows i).key = rises rising k i m h in omega arith)) refl)

-- a row whose first word is the key is the one
pub row_near : {rows : List ℕ} {n next key : ℕ} {w : ℕ} → Rising rows n → next < n → w ≡ get_or rows (next * row_width) 0 → w ≡ key
    → Some next ≡ row_of_key rows n key
row_near {rows} {n} {next} rising l p q =
    sym (row-of-own-key rising next l) ∙ ap (row_of_key rows n) (sym (key-word rows next) ∙ sym p ∙ q)
