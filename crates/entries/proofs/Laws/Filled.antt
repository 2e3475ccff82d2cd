-- A table that reading filled: it holds the rows and attributes that the walk gave, no more rows than the section has groups of four bytes, and it passes
-- the table test with the same section and vendor list.
use Rattle.format.proofs.Laws.Said.{rooms-gave, fills-gave}
use Prim.Native.Nat.{ℕ, suc, ◌+◌, ◌*◌, ◌≤◌, ◌<◌}
use native.Mathlib.Nat.{add-zero}
use native.Mathlib.Omega.{arith}
use mathlib.Core.Path.{◌≡◌, refl, sym, subst, ap, ◌∙◌}
use mathlib.Core.Bool.{Bool, true, false}
use mathlib.Core.List.{List, [], ◌∷◌, ◌++◌}
use lib.ListN.{length, length-append}
use lib.Seq.{length-sets}
use borrow.Author.Tests.{eq-eqb}
use Rattle.entries.specs.Source.{source, mode}
use Rattle.lent.specs.Outcome.{Outcomes}
use Rattle.numbers.specs.declared.Endian.{Endian}
use Rattle.format.specs.Limits.{erased_limit}
use Rattle.format.specs.Said.{Said, gives}
use Rattle.format.specs.declared.settings.Settings.{Settings}
use Rattle.tables.specs.Row.{rows_words, attrs_words, row_at, attr_at, rows_from, attrs_from, endian_of}
use Rattle.tables.proofs.Laws.Row.{rows_back, attrs-back}
use Rattle.tables.specs.Unit.{no_unit, unit_of, in_unit, units_from, with_units, UnitIs, units_hold}
use Rattle.tables.proofs.Laws.Unit.{units-length, units-pass}
use Rattle.tables.specs.Holds.{run_holds, row_holds, rows_hold, table_holds}
use Rattle.tables.proofs.Laws.Holds.{row-passes, table-units, Fits, fits_all}
use Rattle.tables.proofs.Laws.Held.{attr-passes, held-unit}
use Rattle.tables.specs.declared.row.Row.{Row}
use Rattle.tables.specs.declared.row.Attr.{Attr}
use Rattle.tables.specs.declared.row.Counts.{Counts}
use Rattle.entries.specs.Walk.{entries, read_tags}
use Rattle.entries.specs.Section.{whole_walk, counts_of, section_entries, read_debug_section}
use Rattle.entries.proofs.Laws.Section.{section_gave, read-stored}
use Rattle.entries.proofs.Laws.KnownRun.{AllKnown, none_known, more_known}
use Rattle.entries.proofs.Laws.RowsRead.{RowRead, RowsRead, no_rows, more_rows, WalkRows, walk_rows}
use Rattle.entries.specs.Filled.{KeysRise, TableFilled}

-- ---- keys

-- rows that were read have such keys
rows-rise : {s vendors : List ℕ} {least run place : ℕ} {rs : List Row} {xs : List Attr} → RowsRead s vendors least run rs xs place
    → KeysRise (length s) least rs
rows-rise (no_rows h) = tt
rows-rise (more_rows h r later) = (h, r.fits, rows-rise later)

-- so there is a row for every four bytes at most
rise-few : (top least : ℕ) (rs : List Row) → least ≤ top → KeysRise top least rs → least + length rs * 4 ≤ top
rise-few top least [] h rise = omega arith
rise-few top least (r ∷ rs) h rise =
    let later : r.key + 4 + length rs * 4 ≤ top = rise-few top (r.key + 4) rs rise.1 rise.2 in
    omega arith

-- they so rise in the rows that a walk gives, from the place where it began
pub keys-rise : (vendors : List ℕ) (global : ℕ) (erased : Bool) (s : List ℕ) (levels : ℕ) (is_erased : Bool) (e : Endian) (end a at : ℕ) {rs : List Row}
    {xs : List Attr} {place : ℕ} → read_tags (source vendors global s) erased levels (mode is_erased e) end a at ≡ gives (entries rs xs place)
    → KeysRise (length s) at rs
keys-rise vendors global erased s levels is_erased e end a at whole =
    rows-rise (subst (WalkRows s vendors at a) whole (walk_rows s vendors global erased levels is_erased e end a at))

module _ (settings : Settings) (vendors s : List ℕ) {rs : List Row} {xs : List Attr} {place : ℕ} (whole : whole_walk settings vendors s ≡ gives (entries rs xs place)) where
  -- the rows of the whole walk
  pub whole-rows : RowsRead s vendors 0 0 rs xs place
  unfolding whole_walk
  whole-rows =
      subst (WalkRows s vendors 0 0) whole
      (walk_rows s vendors settings.roles.global_ref settings.erased erased_limit false settings.endian (length s) 0 0)

  pub whole-keys-rise : KeysRise (length s) 0 rs
  whole-keys-rise = rows-rise whole-rows

-- ---- the table test

-- attributes that a table holds, and those behind them
pub held-apart : (t : List ℕ) (i : ℕ) (xs ys : List Attr) → attrs_from t i (length (xs ++ ys)) ≡ xs ++ ys
    → (attrs_from t i (length xs) ≡ xs) × (attrs_from t (i + length xs) (length ys) ≡ ys)
unfolding attrs_from
held-apart t i [] ys p = (refl, rw add-zero p)
held-apart t i (x ∷ xs) ys p =
    let later : attrs_from t (suc i) (length (xs ++ ys)) ≡ xs ++ ys = cc in
    let parts = held-apart t (suc i) xs ys later in
    let place : i + suc (length xs) ≡ suc i + length xs = omega arith in
    (cc parts.0, rw place parts.1)

module _ (s vendors rows attrs : List ℕ) where
  -- a run that the table holds passes
  held-run-passes : (e : Endian) (first : ℕ) {xs : List Attr} → AllKnown s vendors e xs → attrs_from attrs first (length xs) ≡ xs
      → run_holds s vendors e attrs first (length xs) ≡ true
  unfolding run_holds attrs_from
  held-run-passes e first none_known p = refl
  held-run-passes e first (more_known {a} {xs} x known) p =
      let here : attr_at attrs first ≡ a = cc in
      let later : attrs_from attrs (suc first) (length xs) ≡ xs = cc in
      rw (here, attr-passes x, held-run-passes e (suc first) known later)

  -- and so does a row
  held-row-passes : {total least run : ℕ} {r : Row} {own : List Attr} → least ≤ r.key → RowRead s vendors run r own
      → attrs_from attrs run (length own) ≡ own → run + length own ≤ total → row_holds s vendors attrs total least run r ≡ true
  held-row-passes {r = r} h known p fits =
      row-passes record {
        above = h;
        inside = omega arith;
        is_tag = known.is_tag;
        flags_small = known.flags_small;
        run_begins = known.run_begins;
        run_inside = omega arith;
        run_held = rw known.run_long (held-run-passes (endian_of r.flags) _ known.all_known p);
      }

  -- and so do rows one after the other
  held-rows-pass : (total i : ℕ) {least run place : ℕ} {rs : List Row} {xs : List Attr} → RowsRead s vendors least run rs xs place
      → rows_from rows i (length rs) ≡ rs → attrs_from attrs run (length xs) ≡ xs → run + length xs ≡ total
      → rows_hold s vendors rows attrs total i (length rs) least run ≡ true
  unfolding rows_hold rows_from
  held-rows-pass total i (no_rows {run = run} h) p q t = eq-eqb run total (omega arith)
  held-rows-pass total i (more_rows {run = run} {r = r} {own = own} {xs = xs} {rs = rs} h known later) p q t =
      let here : row_at rows i ≡ r = cc in
      let others : rows_from rows (suc i) (length rs) ≡ rs = cc in
      let parts = held-apart attrs run own xs q in
      let whole : length (own ++ xs) ≡ length own + length xs = length-append own xs in
      let room : run + length own ≤ total = omega arith in
      rw (here, held-row-passes h known parts.0 room, known.run_long) (held-rows-pass total (suc i) later others parts.1 (omega arith))

-- ---- units

-- rows that were read are such with their units too
rows-in-units : {s vendors : List ℕ} {least run place : ℕ} {rs : List Row} {xs : List Attr} (before : ℕ) → RowsRead s vendors least run rs xs place
    → RowsRead s vendors least run (units_from before rs) xs place
unfolding units_from in_unit
rows-in-units before (no_rows h) = no_rows h
rows-in-units before (more_rows {r = r} h known later) =
    more_rows h
    (record {
      fits = known.fits;
      is_tag = known.is_tag;
      flags_small = known.flags_small;
      run_begins = known.run_begins;
      run_long = known.run_long;
      all_known = known.all_known;
    })
    (rows-in-units (unit_of before r) later)

-- ---- the theorems

module _ {settings : Settings} {vendors s rows attrs : List ℕ} {c : Counts} {o : Outcomes (Said Counts) ℕ ℕ} (filled : TableFilled settings vendors s rows attrs c o) where
  filled-few : c.rows * 4 ≤ length s
  filled-few =
      let few : 0 + length filled.rs * 4 ≤ length s =
      rise-few (length s) 0 filled.rs (omega arith) (whole-keys-rise settings vendors s filled.whole)
      in
      let count : c.rows ≡ length filled.rs = ap (λ (d : Counts). d.rows) filled.counted in
      omega arith

  filled-passes : table_holds s vendors o.first o.second c ≡ true
  filled-passes =
      let room : Fits c (length rows) (length attrs) = fits_all c (length rows) (length attrs) filled.fits in
      let rows_long : length o.first ≡ length rows = ap length filled.rows_stored ∙ length-sets rows 0 (rows_words (with_units filled.rs)) in
      let attrs-long : length o.second ≡ length attrs = ap length filled.attrs_stored ∙ length-sets attrs 0 (attrs_words filled.xs) in
      let rows-counted : c.rows ≡ length filled.rs = ap (λ (d : Counts). d.rows) filled.counted in
      let attrs-counted : c.attrs ≡ length filled.xs = ap (λ (d : Counts). d.attrs) filled.counted in
      let many : length (with_units filled.rs) ≡ length filled.rs = units-length no_unit filled.rs in
      let rows-hold : rows_hold s vendors o.first o.second c.attrs 0 c.rows 0 0 ≡ true =
      rw (rows-counted, ← many)
      (held-rows-pass s vendors o.first o.second c.attrs 0 (rows-in-units no_unit (whole-rows settings vendors s filled.whole)) (rw many filled.rows_held)
      filled.attrs_held (omega arith))
      in
      let units-hold : units_hold o.first 0 c.rows no_unit ≡ true = rw rows-counted (units-pass o.first 0 no_unit filled.rs filled.rows_held) in
      sym (table-units s vendors o.first o.second c room.rows_few (omega arith) room.attrs_few (omega arith) rows-hold) ∙ units-hold

module _ (settings : Settings) (vendors sizes s rows attrs : List ℕ) (c : Counts) (answers : (read_debug_section settings vendors sizes s rows attrs).answer ≡ gives c) where
  -- an answer of counts filled the tables
  pub answer-read : TableFilled settings vendors s rows attrs c (read_debug_section settings vendors sizes s rows attrs)
  unfolding read_debug_section
  answer-read =
      let read = rooms-gave rows attrs (section_entries settings vendors sizes s) _ answers in
      let stored = fills-gave _ _ _ _ _ rows attrs read.2 in
      let same : counts_of read.0 ≡ c = stored.1 in
      let room : Fits (counts_of read.0) (length rows) (length attrs) = fits_all (counts_of read.0) (length rows) (length attrs) stored.0 in
      let is = read-stored settings vendors sizes s rows attrs read.1 stored.0 in
      let many : length (with_units read.0.rows) ≡ length read.0.rows = units-length no_unit read.0.rows in
      let rows_are = ap (λ (o : Outcomes (Said Counts) ℕ ℕ). o.first) is in
      let attrs-are = ap (λ (o : Outcomes (Said Counts) ℕ ℕ). o.second) is in
      record {
        rs = read.0.rows;
        xs = read.0.attrs;
        place = read.0.stopped;
        whole = (section_gave settings vendors sizes s read.1).2;
        counted = sym same;
        fits = rw (← same) stored.0;
        rows_stored = rows_are;
        attrs_stored = attrs-are;
        rows_held = rw (rows_are, ← many) (rows_back rows (with_units read.0.rows) (rw many room.rows_lent));
        attrs_held = rw attrs-are (attrs-back attrs read.0.attrs room.attrs_lent);
      }

  -- there are no more rows than a quarter of the bytes
  pub rows-at-most-quarter : c.rows * 4 ≤ length s
  rows-at-most-quarter = filled-few answer-read

  -- and the table passes the test, with the same section and vendor list
  pub filled-holds : table_holds s vendors (read_debug_section settings vendors sizes s rows attrs).first (read_debug_section settings vendors sizes s rows attrs).second c ≡ true
  filled-holds = filled-passes answer-read

  -- so each row that was read has its unit
  pub filled-unit : (i : ℕ) → i < c.rows
      → UnitIs (read_debug_section settings vendors sizes s rows attrs).first i (row_at (read_debug_section settings vendors sizes s rows attrs).first i).unit
  filled-unit = held-unit (record { holds = filled-holds })
