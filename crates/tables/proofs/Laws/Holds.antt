-- What follows from `Test`: for each way that the code comes to an answer, and what a table that passed is known to hold.
use Prim.Native.Nat.{ℕ, suc, ◌+◌, ◌-◌, ◌*◌, ◌≤◌, ◌<◌}
use native.Mathlib.Numerals.{add-one}
use native.Mathlib.Omega.{arith}
use mathlib.Core.Path.{◌≡◌, refl, sym, ◌∙◌}
use mathlib.Core.Bool.{Bool, true, false, ◌&&◌, and-true, and-eq-true_iff}
use mathlib.Core.List.{List, [], ◌∷◌}
use lib.ListN.{length, get_or}
use lib.Dec.{leb, ltb, eqb}
use borrow.Author.Tests.{lt-ltb, le-leb, eq-eqb, ne_eqb, leb-true, ltb-true, eqb-true}
use Rattle.numbers.specs.declared.Endian.{Endian}
use Rattle.format.specs.Lookup.{is_on}
use Rattle.format.proofs.Laws.Computed.{all_below, beyond}
use Rattle.format.specs.TagKind.{tags}
use Rattle.format.specs.AttributeKind.{attribute_kinds}
use Rattle.format.specs.Known.{known}
use Rattle.format.specs.Limits.{entry_limit, attribute_limit}
use Rattle.tables.specs.Row.{row_width, attr_width, row_at, attr_at, endian_of}
use Rattle.tables.specs.Unit.{no_unit, units_hold}
use Rattle.tables.specs.Holds.{fitting, attr_holds, run_holds, row_holds, rows_hold, table_holds}
use Rattle.tables.specs.declared.row.Row.{Row}
use Rattle.tables.specs.declared.row.Attr.{Attr}
use Rattle.tables.specs.declared.row.Counts.{Counts}
use Rattle.tables.specs.Inside.Holds.{head_holds}

-- ---- a word of more than 16 bits is no tag and no known number

no_member : (n : ℕ) (list : List ℕ) → ((k : ℕ) → get_or list k 0 < 65536) → 65536 ≤ n → is_on n list ≡ false
unfolding is_on
no_member n [] small h = refl
no_member n (x ∷ list) small h =
    let low : x < 65536 = small 0 in
    rw (ne_eqb x n (λ e. omega arith)) (no_member n list (λ k. small (suc k)) h)

pub no_tag : (n : ℕ) → 65536 ≤ n → is_on n tags ≡ false
unfolding tags all_below is_on
no_tag n h = beyond 65536 (length tags) tags n refl h

not_known : (vendors : List ℕ) (n : ℕ) → ((k : ℕ) → get_or vendors k 0 < 65536) → 65536 ≤ n → known vendors n ≡ false
unfolding known attribute_kinds all_below is_on
not_known vendors n small h = rw (beyond 65536 (length attribute_kinds) attribute_kinds n refl h) (no_member n vendors small h)

-- ---- one attribute

module _ (s vendors : List ℕ) (e : Endian) (a : Attr) where
  pub attr-wide : ((k : ℕ) → get_or vendors k 0 < 65536) → 65536 ≤ a.number → false ≡ attr_holds s vendors e a
  unfolding attr_holds
  attr-wide small h = rw (not_known vendors a.number small h)

-- ---- a run of attributes, from its k-th on

module _ (s vendors : List ℕ) (e : Endian) (attrs : List ℕ) (first n k : ℕ) where
  pub run_step : k < n → run_holds s vendors e attrs (first + k) (n - k)
      ≡ (attr_holds s vendors e (attr_at attrs (first + k)) && run_holds s vendors e attrs (first + (k + 1)) (n - (k + 1)))
  unfolding run_holds
  run_step h =
      let left : n - k ≡ suc (n - (k + 1)) = omega arith in
      let next : first + (k + 1) ≡ suc (first + k) = omega arith in
      rw (left, next)

-- ---- one row

module _ (s : List ℕ) (least : ℕ) (r : Row) where
  -- what is left is the kind
  pub head-kind : least ≤ r.key → r.key < length s → r.flags ≤ 7 → is_on r.kind tags ≡ head_holds s least r
  unfolding head_holds
  head-kind h₁ h₂ h₃ = rw (le-leb least r.key h₁, lt-ltb r.key (length s) h₂, le-leb r.flags 7 h₃, and-true)

module _ (s vendors attrs : List ℕ) (total least run : ℕ) (r : Row) where
  row-split : row_holds s vendors attrs total least run r
      ≡ (head_holds s least r && eqb r.first run && leb (run + r.count) total && run_holds s vendors (endian_of r.flags) attrs run r.count)
  unfolding row_holds head_holds
  row-split = refl

  -- what is left is the run
  pub row-run : {e : Endian} → head_holds s least r ≡ true → r.first ≡ run → run + r.count ≤ total → e ≡ endian_of r.flags
      → run_holds s vendors e attrs run r.count ≡ row_holds s vendors attrs total least run r
  row-run h₁ h₂ h₃ p = rw (row-split, p, h₁, eq-eqb r.first run h₂, le-leb (run + r.count) total h₃)

-- ---- rows, from the i-th on

module _ (s vendors rows attrs : List ℕ) (total n i least run : ℕ) where
  pub rows_step : i < n → rows_hold s vendors rows attrs total i (n - i) least run
      ≡ (row_holds s vendors attrs total least run (row_at rows i)
      && rows_hold s vendors rows attrs total (i + 1) (n - (i + 1)) ((row_at rows i).key + 4) (run + (row_at rows i).count))
  unfolding rows_hold
  rows_step h =
      let left : n - i ≡ suc (n - (i + 1)) = omega arith in
      rw (left, add-one i)

-- ---- the table

module _ (s vendors rows attrs : List ℕ) (counts : Counts) where
  -- what is left are the units
  pub table-units : counts.rows ≤ entry_limit → counts.rows * row_width ≤ length rows → counts.attrs ≤ attribute_limit
      → counts.attrs * attr_width ≤ length attrs → rows_hold s vendors rows attrs counts.attrs 0 counts.rows 0 0 ≡ true
      → units_hold rows 0 counts.rows no_unit ≡ table_holds s vendors rows attrs counts
  unfolding table_holds fitting
  table-units h₁ h₂ h₃ h₄ h₅ =
      rw (
        le-leb counts.rows entry_limit h₁,
        le-leb (counts.rows * row_width) (length rows) h₂,
        le-leb counts.attrs attribute_limit h₃,
        le-leb (counts.attrs * attr_width) (length attrs) h₄,
        h₅,
      )

-- ---- what passed

-- both of two tests that pass together
pub both : (a b : Bool) → (a && b) ≡ true → (a ≡ true) × (b ≡ true)
both a b = (and-eq-true_iff a b).0

-- counts that are allowed and fit
pub record Fits (c : Counts) (lent_rows lent_attrs : ℕ) : Type 0 where
  pub rows_few : c.rows ≤ entry_limit
  pub rows_lent : c.rows * row_width ≤ lent_rows
  pub attrs_few : c.attrs ≤ attribute_limit
  pub attrs_lent : c.attrs * attr_width ≤ lent_attrs

pub fits_all : (c : Counts) (lent_rows lent_attrs : ℕ) → fitting c lent_rows lent_attrs ≡ true → Fits c lent_rows lent_attrs
unfolding fitting
fits_all c lent_rows lent_attrs h =
    let a : Bool = leb c.rows entry_limit in
    let b : Bool = leb (c.rows * row_width) lent_rows in
    let d : Bool = leb c.attrs attribute_limit in
    let third = both (a && b && d) (leb (c.attrs * attr_width) lent_attrs) h in
    let second = both (a && b) d third.0 in
    let first = both a b second.0 in
    record {
      rows_few = leb-true c.rows entry_limit first.0;
      rows_lent = leb-true (c.rows * row_width) lent_rows first.1;
      attrs_few = leb-true c.attrs attribute_limit second.1;
      attrs_lent = leb-true (c.attrs * attr_width) lent_attrs third.1;
    }

-- a row that passed
pub record RowPassed (s vendors attrs : List ℕ) (total least run : ℕ) (r : Row) : Type 0 where
  pub above : least ≤ r.key
  pub inside : r.key < length s
  pub is_tag : is_on r.kind tags ≡ true
  pub flags_small : r.flags ≤ 7
  pub run_begins : r.first ≡ run
  pub run_inside : run + r.count ≤ total
  pub run_held : run_holds s vendors (endian_of r.flags) attrs run r.count ≡ true

pub row-passed : (s vendors attrs : List ℕ) (total least run : ℕ) (r : Row) → row_holds s vendors attrs total least run r ≡ true
    → RowPassed s vendors attrs total least run r
unfolding row_holds
row-passed s vendors attrs total least run r h =
    let a : Bool = leb least r.key in
    let b : Bool = ltb r.key (length s) in
    let c : Bool = is_on r.kind tags in
    let d : Bool = leb r.flags 7 in
    let e : Bool = eqb r.first run in
    let f : Bool = leb (run + r.count) total in
    let last : ((a && b && c && d && e && f) ≡ true) × (run_holds s vendors (endian_of r.flags) attrs run r.count ≡ true) =
    both (a && b && c && d && e && f) (run_holds s vendors (endian_of r.flags) attrs run r.count) h
    in
    let sixth = both (a && b && c && d && e) f last.0 in
    let fifth = both (a && b && c && d) e sixth.0 in
    let fourth = both (a && b && c) d fifth.0 in
    let third = both (a && b) c fourth.0 in
    let second = both a b third.0 in
    record {
      above = leb-true least r.key second.0;
      inside = ltb-true r.key (length s) second.1;
      is_tag = third.1;
      flags_small = leb-true r.flags 7 fourth.1;
      run_begins = eqb-true r.first run fifth.1;
      run_inside = leb-true (run + r.count) total sixth.1;
      run_held = last.1;
    }

-- and a row of which all that is known passes
pub row-passes : {s vendors attrs : List ℕ} {total least run : ℕ} {r : Row} → RowPassed s vendors attrs total least run r
    → row_holds s vendors attrs total least run r ≡ true
row-passes {s} {vendors} {attrs} {total} {least} {run} {r} p =
    sym (row-run s vendors attrs total least run r (sym (head-kind s least r p.above p.inside p.flags_small) ∙ p.is_tag) p.run_begins
    p.run_inside refl)
    ∙ p.run_held
