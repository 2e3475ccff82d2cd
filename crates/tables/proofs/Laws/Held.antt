-- What is known of a table that passed the test, `TableHolds`: what the crates above cite.
use Rattle.std.specs.Prelude.{Result, Ok, Err}
use Prim.Native.Nat.{ℕ, zero, suc, ◌+◌, ◌-◌, ◌*◌, ◌≤◌, ◌<◌}
use native.Mathlib.Nat.{sub-zero}
use native.Mathlib.Decide.{ℕ_discrete}
use native.Mathlib.Numerals.{add-one}
use native.Mathlib.Omega.{arith}
use mathlib.Core.Path.{◌≡◌, refl, sym, ◌∙◌, subst}
use mathlib.Core.Bool.{true, true≢false, ◌&&◌}
use mathlib.Core.List.{List}
use lib.ListN.{length}
use Rattle.numbers.specs.declared.Endian.{Endian}
use Rattle.format.specs.Known.{known}
use Rattle.format.specs.FormKind.{form_of}
use Rattle.format.specs.Limits.{entry_limit, section_limit}
use Rattle.attributes.specs.End.{value_end}
use Rattle.attributes.specs.declared.value.Unread.{Unread}
use Rattle.tables.specs.Row.{row_width, row_at, attr_at, endian_of}
use Rattle.tables.specs.Unit.{no_unit, UnitRow, UnitIs, last, none, units_hold}
use Rattle.tables.specs.Holds.{fitting, is_at, attr_holds, run_holds, row_holds, rows_hold, table_holds, TableHolds}
use Rattle.tables.proofs.Laws.Holds.{both, RowPassed, row-passed, rows_step, Fits, fits_all}
use Rattle.tables.proofs.Laws.Unit.{unit-one, units-exactly}
use Rattle.tables.specs.Inside.Find.{Rising}
use Rattle.tables.specs.declared.row.Attr.{Attr}
use Rattle.tables.specs.declared.row.Counts.{Counts}

-- ---- one attribute

-- a known number, and a value that ends inside
pub record AttrKnown (s vendors : List ℕ) (e : Endian) (a : Attr) : Type 0 where
  pub is_known : known vendors a.number ≡ true
  pub next : ℕ
  pub ends : value_end (form_of a.number) e s a.value ≡ Ok next

pub attr-passes : {s vendors : List ℕ} {e : Endian} {a : Attr} → AttrKnown s vendors e a → attr_holds s vendors e a ≡ true
unfolding attr_holds is_at
attr-passes p = rw (p.is_known, p.ends)

told_at : (v : Result ℕ Unread) → is_at v ≡ true → (next : ℕ) × (v ≡ Ok next)
unfolding is_at
told_at (Ok next) h = (next, refl)
told_at (Err why) h = absurd (true≢false (sym h))

-- and the other way round
attr-known : {s vendors : List ℕ} {e : Endian} (a : Attr) → attr_holds s vendors e a ≡ true → AttrKnown s vendors e a
unfolding attr_holds
attr-known {s} {vendors} {e} a h =
    let p = both (known vendors a.number) (is_at (value_end (form_of a.number) e s a.value)) h in
    let end = told_at (value_end (form_of a.number) e s a.value) p.1 in
    record { is_known = p.0; next = end.0; ends = end.1 }

-- each of a run
run-known : {s vendors : List ℕ} {e : Endian} (attrs : List ℕ) (first n : ℕ) → run_holds s vendors e attrs first n ≡ true → (k : ℕ) → first ≤ k → k < first + n
    → AttrKnown s vendors e (attr_at attrs k)
unfolding run_holds
run-known attrs first zero h k l m = absurd (omega arith)
run-known {s} {vendors} {e} attrs first (suc n) h k l m =
    let p = both (attr_holds s vendors e (attr_at attrs first)) (run_holds s vendors e attrs (suc first) n) h in
    elim (ℕ_discrete first k) [
      | yes here ↦ subst (λ (j : ℕ). AttrKnown s vendors e (attr_at attrs j)) here (attr-known (attr_at attrs first) p.0)
      | no later ↦ run-known attrs (suc first) n p.1 k (omega arith) (omega arith)
    ]

-- ---- rows one after the other

module _ (s vendors rows attrs : List ℕ) (total n : ℕ) where
  module _ (i least run : ℕ) (h : i < n) (p : rows_hold s vendors rows attrs total i (n - i) least run ≡ true) where
    parted : (row_holds s vendors attrs total least run (row_at rows i) ≡ true)
        × (rows_hold s vendors rows attrs total (i + 1) (n - (i + 1)) ((row_at rows i).key + 4) (run + (row_at rows i).count) ≡ true)
    parted =
        both (row_holds s vendors attrs total least run (row_at rows i))
        (rows_hold s vendors rows attrs total (i + 1) (n - (i + 1)) ((row_at rows i).key + 4) (run + (row_at rows i).count))
        (sym (rows_step s vendors rows attrs total n i least run h) ∙ p)

    -- row i, and the rows after it
    here : RowPassed s vendors attrs total least run (row_at rows i)
    here = row-passed s vendors attrs total least run (row_at rows i) parted.0

    rest : rows_hold s vendors rows attrs total (i + 1) (n - (i + 1)) ((row_at rows i).key + 4) (run + (row_at rows i).count) ≡ true
    rest = parted.1

  -- the rows from i on hold, with what the row before them leaves
  record From (i : ℕ) : Type 0 where
    least : ℕ
    run : ℕ
    holds : rows_hold s vendors rows attrs total i (n - i) least run ≡ true

  from : rows_hold s vendors rows attrs total 0 n 0 0 ≡ true → (i : ℕ) → i ≤ n → From i
  from p zero h = record { least = 0; run = 0; holds = rw sub-zero p }
  from p (suc i) h =
      let before : From i = from p i (omega arith) in
      record {
        least = (row_at rows i).key + 4;
        run = before.run + (row_at rows i).count;
        holds = rw (add-one i) at (rest i before.least before.run h before.holds);
      }

  -- row i has a key of the section
  inside-at : rows_hold s vendors rows attrs total 0 n 0 0 ≡ true → (i : ℕ) → i < n → (row_at rows i).key < length s
  inside-at p i h = let f : From i = from p i (omega arith) in (here i f.least f.run h f.holds).inside

  -- each attribute of row i's run is known
  known_at : rows_hold s vendors rows attrs total 0 n 0 0 ≡ true → (i : ℕ) → i < n → (k : ℕ) → (row_at rows i).first ≤ k
      → k < (row_at rows i).first + (row_at rows i).count
      → AttrKnown s vendors (endian_of (row_at rows i).flags) (attr_at attrs k)
  known_at p i h k l m =
      let f : From i = from p i (omega arith) in
      let row = here i f.least f.run h f.holds in
      let begins : (row_at rows i).first ≡ f.run = row.run_begins in
      run-known attrs f.run (row_at rows i).count row.run_held k (omega arith) (omega arith)

  -- row i + 1 lies at or after what row i leaves
  above_at : rows_hold s vendors rows attrs total 0 n 0 0 ≡ true → (i : ℕ) → i + 1 < n → (row_at rows i).key + 4 ≤ (row_at rows (i + 1)).key
  above_at p i h =
      let f : From i = from p i (omega arith) in
      let l : i < n = omega arith in
      (here (i + 1) ((row_at rows i).key + 4) (f.run + (row_at rows i).count) h (rest i f.least f.run l f.holds)).above

-- ---- the table

module _ {s vendors rows attrs : List ℕ} {counts : Counts} (checked : TableHolds s vendors rows attrs counts) where
  all-parts : ((fitting counts (length rows) (length attrs) && rows_hold s vendors rows attrs counts.attrs 0 counts.rows 0 0) ≡ true)
      × (units_hold rows 0 counts.rows no_unit ≡ true)
  unfolding table_holds
  all-parts =
      both (fitting counts (length rows) (length attrs) && rows_hold s vendors rows attrs counts.attrs 0 counts.rows 0 0)
      (units_hold rows 0 counts.rows no_unit) checked.holds

  parts : (fitting counts (length rows) (length attrs) ≡ true) × (rows_hold s vendors rows attrs counts.attrs 0 counts.rows 0 0 ≡ true)
  parts = both (fitting counts (length rows) (length attrs)) (rows_hold s vendors rows attrs counts.attrs 0 counts.rows 0 0) all-parts.0

  -- the counts are allowed, and fit the lent words
  pub held_fits : Fits counts (length rows) (length attrs)
  held_fits = fits_all counts (length rows) (length attrs) parts.0

  pub held-rows-few : counts.rows ≤ entry_limit
  held-rows-few = held_fits.rows_few

  -- each row's key lies in the section
  pub held-inside : (i : ℕ) → i < counts.rows → (row_at rows i).key < length s
  held-inside i h = inside-at s vendors rows attrs counts.attrs counts.rows parts.1 i h

  -- each attribute of a row has a known number, and a value that ends inside
  pub held-attr : (i : ℕ) → i < counts.rows → (k : ℕ) → (row_at rows i).first ≤ k → k < (row_at rows i).first + (row_at rows i).count
      → AttrKnown s vendors (endian_of (row_at rows i).flags) (attr_at attrs k)
  held-attr = known_at s vendors rows attrs counts.attrs counts.rows parts.1

  -- keys rise, so that the row of a key is found by bisection
  pub held-rising : Rising rows counts.rows
  held-rising =
      let lent : counts.rows * row_width ≤ length rows = held_fits.rows_lent in
      record {
        few = omega arith;
        rise = λ i h. (let up : (row_at rows i).key + 4 ≤ (row_at rows (i + 1)).key =
            above_at s vendors rows attrs counts.attrs counts.rows parts.1 i h in omega arith);
      }

  -- ---- units: what document 02's K7 demands

  -- in a table that passed, each row's unit is the key of the last row of kind CompileUnit among the rows up to it, or the mark
  pub held-unit : (i : ℕ) → i < counts.rows → UnitIs rows i (row_at rows i).unit
  held-unit = (units-exactly rows counts.rows).0 all-parts.1

  -- so every row from a unit up to the next has it
  pub unit-until-next : (j : ℕ) → UnitRow rows j → (i : ℕ) → j ≤ i → i < counts.rows → ((k : ℕ) → j < k → k ≤ i → UnitRow rows k → ⊥)
      → (row_at rows i).unit ≡ (row_at rows j).key
  unit-until-next j is-unit i h l never = unit-one rows i (held-unit i l) (last j h is-unit never)

  -- and every row before the first has the mark
  pub none-before-first : (i : ℕ) → i < counts.rows → ((k : ℕ) → k ≤ i → UnitRow rows k → ⊥) → (row_at rows i).unit ≡ no_unit
  none-before-first i l never = unit-one rows i (held-unit i l) (none never)

  -- the mark is the key of no row
  pub mark-no-key : length s < section_limit → (i : ℕ) → i < counts.rows → (row_at rows i).key ≡ no_unit → ⊥
  mark-no-key short i h e = let inside : (row_at rows i).key < length s = held-inside i h in omega arith

  -- so a row has the mark only where no row up to it is a unit
  pub marked-none : length s < section_limit → (i : ℕ) → i < counts.rows → (row_at rows i).unit ≡ no_unit → (k : ℕ) → k ≤ i → UnitRow rows k → ⊥
  marked-none short i h e = no-unit (held-unit i h) e
    where
      no-unit : {u : ℕ} → UnitIs rows i u → u ≡ no_unit → (k : ℕ) → k ≤ i → UnitRow rows k → ⊥
      no-unit (last j l is-unit after) e k m p = mark-no-key short j (omega arith) e
      no-unit (none never) e k m p = never k m p
