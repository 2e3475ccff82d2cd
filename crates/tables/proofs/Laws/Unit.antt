-- What follows from `Unit`: for each way that the code comes to an answer; that the test passes exactly where each row's field holds its unit; and that a
-- unit is one key alone.
use Prim.Native.Nat.{ℕ, zero, suc, ◌+◌, ◌-◌, ◌*◌, ◌≤◌, ◌<◌}
use native.Mathlib.Nat.{le_refl}
use native.Mathlib.Decide.{ℕ_discrete, dec_lt}
use native.Mathlib.Numerals.{add-one, add-two, add-three, add-four, add_five}
use native.Mathlib.Omega.{arith}
use mathlib.Core.Path.{◌≡◌, refl, sym, ap, ap₂, subst, ◌∙◌}
use mathlib.Core.Bool.{true, ◌&&◌}
use mathlib.Core.List.{List, [], ◌∷◌}
use lib.ListN.{length}
use lib.Seq.{sets, set-get_or, get_or-set_other}
use lib.Dec.{eqb}
use borrow.Author.Tests.{eq-eqb, eqb-true, eqb-false}
use Rattle.format.specs.TagKind as tag
use Rattle.numbers.proofs.Laws.Tests.{cond-all}
use Rattle.tables.specs.Row.{row_width, row_words, rows_words, row_at, rows_from, put_row, put_unit}
use Rattle.tables.specs.Unit.{no_unit, UnitRow, UnitIs, last, none, unit_of, in_unit, units_from, with_units, units_hold}
use Rattle.tables.specs.declared.row.Row.{Row}
use Rattle.tables.proofs.Laws.Row.{row_same, rows_append}
use Rattle.tables.proofs.Laws.Holds.{both}

-- ---- the test, from the i-th row on

module _ (rows : List ℕ) (n i before : ℕ) where
  pub units_step : i < n → units_hold rows i (n - i) before
      ≡ (eqb (row_at rows i).unit (unit_of before (row_at rows i)) && units_hold rows (i + 1) (n - (i + 1)) (unit_of before (row_at rows i)))
  unfolding units_hold
  units_step h = let left : n - i ≡ suc (n - (i + 1)) = omega arith in rw (left, add-one i)

-- ---- the units of rows are stored, one after the other

-- a table with the units of n rows from i on stored
unfoldable pub units_put : List ℕ → ℕ → ℕ → ℕ → List ℕ
units_put t i zero before = t
units_put t i (suc n) before = units_put (put_unit t i (unit_of before (row_at t i))) (suc i) n (unit_of before (row_at t i))

module _ (t : List ℕ) (n i before : ℕ) where
  pub put_next : {r : Row} {unit : ℕ} {t' : List ℕ} → i < n → r ≡ row_at t i → unit ≡ unit_of before r → t' ≡ put_unit t i unit
      → units_put t' (i + 1) (n - (i + 1)) unit ≡ units_put t i (n - i) before
  unfolding units_put
  put_next h p q w = let left : n - i ≡ suc (n - (i + 1)) = omega arith in rw (left, add-one i, w, q, p)

  pub put-end : n ≤ i → t ≡ units_put t i (n - i) before
  unfolding units_put
  put-end h = let left : n - i ≡ 0 = omega arith in rw left

-- only the last of a row's words is another
put-in-unit : (t : List ℕ) (i unit : ℕ) → put_unit t i unit ≡ put_row t i (in_unit unit (row_at t i))
unfolding row_words row_at in_unit put_unit
put-in-unit t i unit =
    let at : ℕ = i * row_width in
    rw (add-one, add-two, add-three, add-four, add_five)
    (rw (
      set-get_or t at 0,
      set-get_or t (suc at) 0,
      set-get_or t (suc (suc at)) 0,
      set-get_or t (suc (suc (suc at))) 0,
      set-get_or t (suc (suc (suc (suc at)))) 0,
    ))

-- the rows behind it are as they were
put-behind : (t : List ℕ) (i unit j : ℕ) → i < j → row_at (put_unit t i unit) j ≡ row_at t j
unfolding put_unit
put-behind t i unit j h =
    row_same (put_unit t i unit) t j (λ k l. get_or-set_other t (i * row_width + 5) (j * row_width + k) unit 0 (λ e. omega arith))

behind-kept : (t : List ℕ) (i unit j n : ℕ) → i < j → rows_from (put_unit t i unit) j n ≡ rows_from t j n
unfolding rows_from
behind-kept t i unit j zero h = refl
behind-kept t i unit j (suc n) h = ap₂ (λ (r : Row) (rs : List Row). r ∷ rs) (put-behind t i unit j h) (behind-kept t i unit (suc j) n (omega arith))

-- so the rows are stored with their units
puts-units : (t : List ℕ) (i n before : ℕ) → units_put t i n before ≡ sets t (i * row_width) (rows_words (units_from before (rows_from t i n)))
unfolding units_put rows_from units_from rows_words row_words
puts-units t i zero before = refl
puts-units t i (suc n) before =
    let unit : ℕ = unit_of before (row_at t i) in
    let later : List Row = units_from unit (rows_from t (suc i) n) in
    puts-units (put_unit t i unit) (suc i) n unit
    ∙ ap (λ (rs : List Row). sets (put_unit t i unit) (suc i * row_width) (rows_words (units_from unit rs))) (behind-kept t i unit (suc i) n (omega arith))
    ∙ ap₂ (λ (u : List ℕ) (k : ℕ). sets u (k * row_width) (rows_words later)) (put-in-unit t i unit) (sym (add-one i))
    ∙ sym (rows_append t i (in_unit unit (row_at t i) ∷ []) later)

pub units-stored : (t : List ℕ) (n : ℕ) → units_put t 0 n no_unit ≡ sets t 0 (rows_words (with_units (rows_from t 0 n)))
units-stored t n = puts-units t 0 n no_unit

-- what the loop that stores them goes by
pub ruleset put_steps = (put_next, put-end, units-stored)

-- ---- rows with their units

pub units-length : (before : ℕ) (rs : List Row) → length (units_from before rs) ≡ length rs
unfolding units_from
units-length before [] = refl
units-length before (r ∷ rs) = ap suc (units-length (unit_of before r) rs)

-- they pass the test
pub units-pass : (t : List ℕ) (i before : ℕ) (rs : List Row) → rows_from t i (length rs) ≡ units_from before rs → units_hold t i (length rs) before ≡ true
unfolding rows_from units_from units_hold unit_of in_unit
units-pass t i before [] p = refl
units-pass t i before (r ∷ rs) p =
    let here : row_at t i ≡ in_unit (unit_of before r) r = cc in
    let others : rows_from t (suc i) (length rs) ≡ units_from (unit_of before r) rs = cc in
    rw (here, eq-eqb (unit_of before r) (unit_of before r) refl) (units-pass t (suc i) (unit_of before r) rs others)

-- ---- what the field holds, where the test passes

module _ (rows : List ℕ) where
  -- the unit of the row before row i
  abbrev Before : ℕ → ℕ → Type 0
  Before zero before = before ≡ no_unit
  Before (suc i) before = UnitIs rows i before

  -- the unit stays where a row is of another kind
  unit-stays : (i unit : ℕ) → (UnitRow rows (suc i) → ⊥) → UnitIs rows i unit → UnitIs rows (suc i) unit
  unit-stays i unit other (last j h u after) =
      last j (omega arith) u (λ k l m p. elim (ℕ_discrete k (suc i)) [ yes e ↦ other (subst (UnitRow rows) e p) | no d ↦ after k l (omega arith) p ])
  unit-stays i unit other (none never) =
      none (λ k m p. elim (ℕ_discrete k (suc i)) [ yes e ↦ other (subst (UnitRow rows) e p) | no d ↦ never k (omega arith) p ])

  other-unit : (i before : ℕ) → (UnitRow rows i → ⊥) → Before i before → UnitIs rows i before
  other-unit zero before other b =
      subst (UnitIs rows 0) (sym b) (none (λ k m p. let e : k ≡ 0 = omega arith in other (subst (UnitRow rows) e p)))
  other-unit (suc i) before other b = unit-stays i before other b

  -- so each row's unit follows from that of the row before it
  unit-follows : (i before : ℕ) → Before i before → UnitIs rows i (unit_of before (row_at rows i))
  unfolding unit_of
  unit-follows i before b =
      cond-all (UnitIs rows i) (eqb (row_at rows i).kind tag.compile_unit)
      (λ t. last i (le_refl i) (eqb-true (row_at rows i).kind tag.compile_unit t) (λ k h l p. omega arith))
      (λ f. other-unit i before (eqb-false (row_at rows i).kind tag.compile_unit f) b)

  -- a unit is one key alone
  pub unit-one : (i : ℕ) {u v : ℕ} → UnitIs rows i u → UnitIs rows i v → u ≡ v
  unit-one i (last j h p after) (last k l q behind) =
      elim (ℕ_discrete j k) [
        | yes e ↦ ap (λ (x : ℕ). (row_at rows x).key) e
        | no d ↦ elim (dec_lt j k) [ yes less ↦ absurd (after k less l q) | no more ↦ absurd (behind j (omega arith) h p) ]
      ]
  unit-one i (last j h p after) (none never) = absurd (never j h p)
  unit-one i (none never) (last k l q behind) = absurd (never k l q)
  unit-one i (none never) (none neither) = refl

  -- where the test passes, each field holds its row's unit
  units-are : (n i before : ℕ) → Before i before → units_hold rows i n before ≡ true → (k : ℕ) → i ≤ k → k < i + n → UnitIs rows k (row_at rows k).unit
  unfolding units_hold
  units-are zero i before b h k l m = absurd (omega arith)
  units-are (suc n) i before b h k l m =
      let passed = both (eqb (row_at rows i).unit (unit_of before (row_at rows i))) (units_hold rows (suc i) n (unit_of before (row_at rows i))) h in
      let here : UnitIs rows i (unit_of before (row_at rows i)) = unit-follows i before b in
      elim (ℕ_discrete i k) [
        | yes e ↦
            subst (λ (x : ℕ). UnitIs rows x (row_at rows x).unit) e
            (subst (UnitIs rows i) (sym (eqb-true (row_at rows i).unit (unit_of before (row_at rows i)) passed.0)) here)
        | no d ↦ units-are n (suc i) (unit_of before (row_at rows i)) here passed.1 k (omega arith) (omega arith)
      ]

  -- and where each field holds it, the test passes
  units-hold : (n i before : ℕ) → Before i before → ((k : ℕ) → i ≤ k → k < i + n → UnitIs rows k (row_at rows k).unit) → units_hold rows i n before ≡ true
  unfolding units_hold
  units-hold zero i before b each = refl
  units-hold (suc n) i before b each =
      let here : UnitIs rows i (unit_of before (row_at rows i)) = unit-follows i before b in
      rw (eq-eqb (row_at rows i).unit (unit_of before (row_at rows i)) (unit-one i (each i (le_refl i) (omega arith)) here))
      (units-hold n (suc i) (unit_of before (row_at rows i)) here (λ k l m. each k (omega arith) (omega arith)))

-- the test passes exactly where each row's field holds its unit
pub units-exactly : (rows : List ℕ) (n : ℕ)
    → (units_hold rows 0 n no_unit ≡ true → (i : ℕ) → i < n → UnitIs rows i (row_at rows i).unit)
    × (((i : ℕ) → i < n → UnitIs rows i (row_at rows i).unit) → units_hold rows 0 n no_unit ≡ true)
units-exactly rows n =
    (λ h i l. units-are rows n 0 no_unit refl h i (omega arith) (omega arith), λ each. units-hold rows n 0 no_unit refl (λ k l m. each k (omega arith)))
