-- What follows from `Section`, for each way that the public calls come to an answer.
use Rattle.entries.specs.Inside.Handed.{not_counted, not_read}
use Rattle.std.specs.Prelude.{Result, Ok, Err}
use Prim.Native.Nat.{ℕ, ◌*◌, ◌≤◌, ◌<◌}
use native.Mathlib.Nat.{zero-add}
use native.Mathlib.Omega.{arith}
use mathlib.Core.Path.{◌≡◌, refl, sym, ap, ap₂, ◌∙◌, subst}
use mathlib.Core.Bool.{Bool, true, false}
use mathlib.Core.List.{List, [], ◌∷◌}
use lib.ListN.{length}
use lib.Seq.{sets, length-sets}
use lib.Dec.{ltb}
use borrow.Author.Tests.{lt-ltb, le-ltb, ltb-true}
use Rattle.lent.specs.Outcome.{Outcomes, BothGiven, outcomes}
use Rattle.format.specs.Limits.{section_limit}
use Rattle.format.specs.Settings.{settings_hold}
use Rattle.format.specs.Said.{Said, gives, refuses, wanting, must, ◌>>=◌, ◌>>◌, in_rooms, fills_rooms}
use Rattle.format.proofs.Laws.Said.{case-said, must-gave, step-gave}
use Rattle.format.specs.declared.settings.Settings.{Settings}
use Rattle.format.specs.declared.refusal.Reason.TheVariants as reason
use Rattle.lent.proofs.Laws.Stores.{sets_over}
use Rattle.tables.specs.Row.{row_width, rows_words, attrs_words, rows_from}
use Rattle.tables.specs.Unit.{no_unit, with_units}
use Rattle.tables.proofs.Laws.Row.{rows_long, rows_back}
use Rattle.tables.proofs.Laws.Unit.{units-length}
use Rattle.tables.proofs.Laws.Holds.{fits_all}
use Rattle.tables.specs.declared.row.Row.{Row}
use Rattle.tables.specs.declared.row.Counts.{Counts}
use Rattle.entries.specs.Walk.{Entries}
use Rattle.entries.specs.Inside.Promise.{start, Stored, said_read, walked, WalkStores, WalkRead}
use Rattle.entries.proofs.Laws.Entry.{err-bind}
use Rattle.entries.proofs.Laws.Walk.{told-walked, told-refused}
use Rattle.tables.specs.Holds.{fitting}
use Rattle.entries.specs.Section.{said_count, said_section, whole_walk}
use Rattle.entries.specs.Section.{counts, counts_of, section_entries, read_debug_section, count_debug_section}
use Rattle.entries.specs.declared.section.CountError.{CountError}
use Rattle.entries.specs.declared.section.CountError.TheVariants as count
use Rattle.entries.specs.declared.section.SectionError.{SectionError}
use Rattle.entries.specs.declared.entry.State.{State}
use Rattle.entries.specs.declared.entry.EntryError.{EntryError}
use Rattle.entries.specs.declared.entry.EntryError.TheVariants as entry

-- ---- units

-- the rows that were stored, stored once more with their units
units-over : (t : List ℕ) (rs : List Row) {t₁ : List ℕ} → length rs * row_width ≤ length t → t₁ ≡ sets t 0 (rows_words rs)
    → sets t₁ 0 (rows_words (with_units (rows_from t₁ 0 (length rs)))) ≡ sets t 0 (rows_words (with_units rs))
units-over t rs h p =
    let many : length (with_units rs) ≡ length rs = units-length no_unit rs in
    let first : length (rows_words rs) ≡ length rs * row_width = rows_long rs in
    let second : length (rows_words (with_units rs)) ≡ length (with_units rs) * row_width = rows_long (with_units rs) in
    rw (p, rows_back t rs h) (sets_over t 0 (rows_words rs) (rows_words (with_units rs)) (omega arith))

-- ---- what a section gave

-- what was not read is counted as it was said
not_counted_says : (why : EntryError) → said_count (Err (not_counted why)) ≡ said_read (Err why)
unfolding said_count not_counted said_read
not_counted_says (entry.Nested key) = refl
not_counted_says (entry.Unread why key byte) = refl

module _ (settings : Settings) (vendors sizes s : List ℕ) where
  -- it passed both tests
  pub section_gave : {all : Entries} → section_entries settings vendors sizes s ≡ gives all
      → (settings_hold settings vendors sizes ≡ true) × (ltb (length s) section_limit ≡ true) × (whole_walk settings vendors s ≡ gives all)
  unfolding section_entries
  section_gave p =
      let held = must-gave (settings_hold settings vendors sizes) reason.Settings 0 _ p in
      let short = must-gave (ltb (length s) section_limit) reason.Long 0 _ held.1 in
      (held.0, short.0, short.1)

  -- ---- counting

  pub count-settings : {r : Result Counts CountError} → settings_hold settings vendors sizes ≡ false
      → r ≡ Err (count.Refused (record { reason = reason.Settings; place = 0 }))
      → said_count r ≡ count_debug_section settings vendors sizes s
  unfolding said_count count_debug_section section_entries must ◌>>◌ ◌>>=◌
  count-settings h p = rw h (ap said_count p)

  module _ (h : settings_hold settings vendors sizes ≡ true) where
    pub count_long : {r : Result Counts CountError} → section_limit ≤ length s → r ≡ Err (count.Refused (record { reason = reason.Long; place = 0 }))
        → said_count r ≡ count_debug_section settings vendors sizes s
    unfolding said_count count_debug_section section_entries must ◌>>◌ ◌>>=◌
    count_long k p = rw (h, le-ltb (length s) section_limit k) (ap said_count p)

    count-as : length s < section_limit → {v : Said Entries} → whole_walk settings vendors s ≡ v
        → (v >>= (λ all. gives (counts_of all))) ≡ count_debug_section settings vendors sizes s
    unfolding count_debug_section section_entries must ◌>>◌
    count-as k is = rw (h, lt-ltb (length s) section_limit k) (ap (λ (v : Said Entries). v >>= (λ all. gives (counts_of all))) (sym is))

    module _ (k : length s < section_limit) {r : Result State EntryError} (w : said_read r ≡ walked start (whole_walk settings vendors s)) where
      pub count-read : {to : State} → r ≡ Ok to → said_count (Ok (counts to.rows to.attrs)) ≡ count_debug_section settings vendors sizes s
      unfolding said_count ◌>>=◌
      count-read {to} t =
          let told = told-walked start (whole_walk settings vendors s) w t in
          let n : to.rows ≡ length told.0.rows = ap (λ (x : State). x.rows) told.2 ∙ zero-add (length told.0.rows) in
          let m : to.attrs ≡ length told.0.attrs = ap (λ (x : State). x.attrs) told.2 ∙ zero-add (length told.0.attrs) in
          ap₂ (λ (i j : ℕ). gives (counts i j)) n m ∙ count-as k told.1

      pub count-stopped : {why : EntryError} → r ≡ Err why → {z : Result Counts CountError} → z ≡ Err (not_counted why)
          → said_count z ≡ count_debug_section settings vendors sizes s
      count-stopped {why} t p =
          ap said_count p ∙ not_counted_says why ∙ sym (err-bind why _) ∙ count-as k (told-refused start (whole_walk settings vendors s) w t)

  -- ---- what counting tells

  pub record Countable (c : Counts) : Type 0 where
    pub all : Entries
    pub is : section_entries settings vendors sizes s ≡ gives all
    pub counts_are : counts_of all ≡ c

  pub countable : {r : Result Counts CountError} {c : Counts} → said_count r ≡ count_debug_section settings vendors sizes s → r ≡ Ok c → Countable c
  unfolding said_count count_debug_section
  countable p t =
      let told = step-gave (section_entries settings vendors sizes s) _ (sym (case-said said_count p t)) in
      record { all = told.0; is = told.1; counts_are = cc told.2 }

  pub countable-short : {c : Counts} → Countable c → length s < section_limit
  countable-short told = ltb-true (length s) section_limit (section_gave told.is).1

  -- ---- reading

  module _ (rows attrs : List ℕ) where
    -- what was read, by whether it fits
    read-filled : {all : Entries} {fits : Bool} → section_entries settings vendors sizes s ≡ gives all
        → fitting (counts_of all) (length rows) (length attrs) ≡ fits
        → read_debug_section settings vendors sizes s rows attrs
        ≡ fills_rooms fits (counts_of all) (length all.rows ∷ length all.attrs ∷ []) (rows_words (with_units all.rows)) (attrs_words all.attrs) rows attrs
    unfolding read_debug_section in_rooms
    read-filled p f = rw (p, f)

    pub read-stored : {all : Entries} → section_entries settings vendors sizes s ≡ gives all → fitting (counts_of all) (length rows) (length attrs) ≡ true
        → read_debug_section settings vendors sizes s rows attrs
        ≡ outcomes (gives (counts_of all)) (sets rows 0 (rows_words (with_units all.rows))) (sets attrs 0 (attrs_words all.attrs))
    unfolding fills_rooms
    read-stored p f = read-filled p f

    -- an outcome that is known
    outcome : {o : Outcomes (Said Counts) ℕ ℕ} {r : Said Counts} {rows₁ attrs₁ : List ℕ} → read_debug_section settings vendors sizes s rows attrs ≡ o
        → BothGiven o r rows₁ attrs₁ → BothGiven (read_debug_section settings vendors sizes s rows attrs) r rows₁ attrs₁
    outcome {r = r} {rows₁} {attrs₁} p q = subst (λ (o : Outcomes (Said Counts) ℕ ℕ). BothGiven o r rows₁ attrs₁) (sym p) q

    module _ {c : Counts} (told : Countable c) where
      fits-as : {b : Bool} → fitting c (length rows) (length attrs) ≡ b → fitting (counts_of told.all) (length rows) (length attrs) ≡ b
      fits-as f = ap (λ (x : Counts). fitting x (length rows) (length attrs)) told.counts_are ∙ f

      -- what was counted is what reading stored
      told-stored : {r : Result State EntryError} {rows₁ attrs₁ : List ℕ} → WalkRead start (whole_walk settings vendors s) r rows rows₁ attrs attrs₁
          → Stored start told.all.rows told.all.attrs told.all.stopped rows rows₁ attrs attrs₁
      told-stored {rows₁ = rows₁} {attrs₁} w =
          subst (λ (v : Said Entries). WalkStores start v rows rows₁ attrs attrs₁) (section_gave told.is).2 w.stores

      pub read_done : {r : Result State EntryError} {rows₁ rows₂ attrs₁ : List ℕ} → fitting c (length rows) (length attrs) ≡ true
          → WalkRead start (whole_walk settings vendors s) r rows rows₁ attrs attrs₁ → rows₂ ≡ sets rows₁ 0 (rows_words (with_units (rows_from rows₁ 0 c.rows)))
          → BothGiven (read_debug_section settings vendors sizes s rows attrs) (gives c) rows₂ attrs₁
      read_done {r} {rows₁} {rows₂} {attrs₁} f w u =
          let all : Stored start told.all.rows told.all.attrs told.all.stopped rows rows₁ attrs attrs₁ = told-stored w in
          let count : c.rows ≡ length told.all.rows = ap (λ (x : Counts). x.rows) (sym told.counts_are) in
          outcome (read-stored told.is (fits-as f))
          (record {
            answer_is = ap gives (sym told.counts_are);
            first_is = rw count at u ∙ units-over rows told.all.rows (fits_all (counts_of told.all) (length rows) (length attrs) (fits-as f)).rows_lent all.row_cells;
            second_is = all.attr_cells;
          })

      -- the rows that were read are all there to be told their units
      pub units-fit : {r : Result State EntryError} {rows₁ attrs₁ : List ℕ} → fitting c (length rows) (length attrs) ≡ true
          → WalkRead start (whole_walk settings vendors s) r rows rows₁ attrs attrs₁ → c.rows * row_width ≤ length rows₁
      units-fit {rows₁ = rows₁} {attrs₁} f w =
          let all : Stored start told.all.rows told.all.attrs told.all.stopped rows rows₁ attrs attrs₁ = told-stored w in
          let room = fits_all c (length rows) (length attrs) f in
          let same : length rows₁ ≡ length rows = ap length all.row_cells ∙ length-sets rows (start.rows * row_width) (rows_words told.all.rows) in
          omega (arith, room.rows_lent)

      pub read-room : fitting c (length rows) (length attrs) ≡ false
          → BothGiven (read_debug_section settings vendors sizes s rows attrs) (wanting (c.rows ∷ c.attrs ∷ [])) rows attrs
      unfolding fills_rooms
      read-room f =
          outcome (read-filled told.is (fits-as f))
          (record { answer_is = ap (λ (x : Counts). wanting (x.rows ∷ x.attrs ∷ [])) (sym told.counts_are); first_is = refl; second_is = refl })

    -- what refuses counting refuses reading
    refused_as : (d : Said Entries) (next : Entries → Outcomes (Said Counts) ℕ ℕ) {number place : ℕ} {told : List ℕ}
        → refuses number place told ≡ (d >>= (λ all. gives (counts_of all))) → in_rooms rows attrs d next ≡ outcomes (refuses number place told) rows attrs
    unfolding in_rooms ◌>>=◌
    refused_as (gives all) next p = let z : ◌≡◌ {A = ℕ} 0 1 = cc in absurd (omega arith)
    refused_as (refuses number place told) next p = ap (λ (x : Said Counts). outcomes x rows attrs) (sym p)

    refused-too : {r x : Result Counts CountError} {number place : ℕ} {told : List ℕ} → said_count r ≡ count_debug_section settings vendors sizes s → r ≡ x
        → said_count x ≡ refuses number place told → BothGiven (read_debug_section settings vendors sizes s rows attrs) (refuses number place told) rows attrs
    unfolding count_debug_section read_debug_section
    refused-too p t k =
        outcome (refused_as (section_entries settings vendors sizes s) _ (sym k ∙ case-said said_count p t)) (record { answer_is = refl; first_is = refl; second_is = refl })

    stopped_as : {r : Result Counts CountError} (why : CountError) → said_count r ≡ count_debug_section settings vendors sizes s → r ≡ Err why
        → BothGiven (read_debug_section settings vendors sizes s rows attrs) (said_section (Err (not_read why))) rows attrs
    unfolding said_count said_section not_read
    stopped_as (count.Refused why) p t = refused-too p t refl
    stopped_as (count.Unread why byte) p t = refused-too p t refl

    pub read-stopped : {r : Result Counts CountError} {why : CountError} → said_count r ≡ count_debug_section settings vendors sizes s → r ≡ Err why
        → {z : Result Counts SectionError} → z ≡ Err (not_read why)
        → BothGiven (read_debug_section settings vendors sizes s rows attrs) (said_section z) rows attrs
    read-stopped {why = why} p t q =
        subst (λ (x : Result Counts SectionError). BothGiven (read_debug_section settings vendors sizes s rows attrs) (said_section x) rows attrs)
        (sym q) (stopped_as why p t)
