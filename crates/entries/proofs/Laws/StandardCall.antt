-- The public call against the standard, over its own contract: a section that the standard wrote is read into the tables with its values; and a section that
-- was read, and is exact, is one that the standard wrote.
use Prim.Native.Nat.{ℕ, ◌*◌, ◌<◌}
use mathlib.Core.Path.{◌≡◌, sym, ap, ap₂, ◌∙◌}
use mathlib.Core.Bool.{true, false}
use mathlib.Core.List.{List, [], ◌∷◌}
use lib.ListN.{length}
use borrow.Author.Tests.{lt-ltb}
use borrow.Fn.Kinds.{Dens, res_t, ended_of}
use denote.Triple.Clauses.{AtExit}
use contract.Lifetimes.{Lfts}
use Rattle.lent.specs.Outcome.{Outcomes, BothGiven}
use Rattle.lent.proofs.Laws.Filled.{sets-filled}
use Rattle.numbers.specs.Written.{Bytes}
use Rattle.standard.specs.Exact.{Exact}
use Rattle.format.specs.Limits.{section_limit, erased_limit}
use Rattle.format.specs.Said.{Said, gives, must, ◌>>◌}
use Rattle.format.specs.Settings.{settings_hold}
use Rattle.format.specs.declared.settings.Settings.{Settings}
use Rattle.tables.specs.Row.{row_width, attr_width, rows_words, attrs_words, rows_from, attrs_from}
use Rattle.tables.specs.Unit.{no_unit, unit_of, in_unit, units_from, with_units}
use Rattle.tables.proofs.Laws.Row.{rows_long, attrs-long}
use Rattle.tables.proofs.Laws.Unit.{units-length}
use Rattle.tables.proofs.Laws.Holds.{Fits, fits_all}
use Rattle.tables.specs.declared.row.Row.{Row}
use Rattle.tables.specs.declared.row.Attr.{Attr}
use Rattle.tables.specs.declared.row.Counts.{Counts}
use Rattle.entries.specs.Source.{source, mode}
use Rattle.entries.specs.Walk.{Entries, entries, read_tags}
use Rattle.entries.specs.Section.{said_section, whole_walk, counts, section_entries, read_debug_section}
use Rattle.entries.specs.Standard.{taken, Call, Dies, its_rows, its_attrs, WrittenLent, WrittenRead, WrittenAs, StandardTags, rows_of}
use Rattle.entries.specs.Standard as table
use Rattle.entries.proofs.Laws.Section.{read-stored}
use Rattle.entries.proofs.Laws.Filled.{answer-read}
use Rattle.entries.proofs.Laws.StandardRead.{standard-read, standard-values}
use Rattle.entries.proofs.Laws.StandardWritten.{standard-written}
use Rattle.entries.proofs.section.read_debug_section as call

-- ---- steps of the definition

-- what passes both tests comes to what the walk gives
section-given : (settings : Settings) (vendors sizes s : List ℕ) {all : Entries} → settings_hold settings vendors sizes ≡ true → length s < section_limit
    → whole_walk settings vendors s ≡ gives all → section_entries settings vendors sizes s ≡ gives all
unfolding section_entries must ◌>>◌
section-given settings vendors sizes s h k p = rw (h, lt-ltb (length s) section_limit k) p

-- the walk with the erased flag off
pub off-walk : (settings : Settings) (vendors s : List ℕ) → settings.erased ≡ false
    → whole_walk settings vendors s ≡ read_tags (source vendors settings.roles.global_ref s) false erased_limit (mode false settings.endian) (length s) 0 0
unfolding whole_walk
off-walk settings vendors s off = rw off

-- rows have their tags whatever their units
bare-tags : (before : ℕ) (rs : List Row) → StandardTags (units_from before rs) → StandardTags rs
unfolding units_from in_unit
bare-tags before [] tags = table.none
bare-tags before (r ∷ rs) (table.more u us on others) = table.more r rs on (bare-tags (unit_of before r) rs others)

-- ---- the theorems: whatever the arguments, the result and the state at exit that meet the contract

module _ (κs : Lfts 5) (a : Dens κs call.Kinds.ps) (z : (res_t call.Kinds.r κs).Denot) (x : AtExit (ended_of 5 call.Kinds.ps call.Kinds.r) κs)
    (post : call.Reads.Post κs a z x) (c : Call)
    (is : c ≡ record {
      section = a.0.now;
      settings = a.1.0;
      vendors = a.1.1.0.now;
      sizes = a.1.1.1.0.now;
      rows = a.1.1.1.1.0.now;
      attrs = a.1.1.1.1.1.0.now;
      said = said_section z;
      rows_then = x.1.1.1.1.0.now;
      attrs_then = x.1.1.1.1.1.0.now;
    }) where
  given : BothGiven (read_debug_section c.settings c.vendors c.sizes c.section c.rows c.attrs) c.said c.rows_then c.attrs_then
  given = rw is post

  -- a section that the standard wrote is read: the counts are said, the tables hold its rows and attributes, the decoders answer its values
  pub written-is-read : (dies : Dies c) → WrittenLent c dies → WrittenRead c dies
  written-is-read dies lent =
      let numbers : List ℕ = taken c.vendors in
      let bare : List Row = rows_of numbers c.settings.endian 0 0 dies in
      let rs : List Row = its_rows c dies in
      let xs : List Attr = its_attrs c dies in
      let s : List ℕ = c.section in
      let many : length rs ≡ length bare = units-length no_unit bare in
      let walk : whole_walk c.settings c.vendors s ≡ gives (entries bare xs (length s)) =
      off-walk c.settings c.vendors s lent.flag_off
      ∙ rw lent.is_written (standard-read c.vendors c.settings.roles.global_ref c.settings.endian erased_limit dies)
      in
      let stored = read-stored c.settings c.vendors c.sizes s c.rows c.attrs
      (section-given c.settings c.vendors c.sizes s lent.settings_held lent.is_short walk) (rw (← many) lent.fits)
      in
      let room : Fits (counts (length rs) (length xs)) (length c.rows) (length c.attrs) = fits_all (counts (length rs) (length xs)) (length c.rows) (length c.attrs) lent.fits in
      record {
        says = given.answer_is ∙ ap (λ (o : Outcomes (Said Counts) ℕ ℕ). o.answer) stored ∙ ap (λ (n : ℕ). gives (counts n (length xs))) (sym many);
        rows_filled = sets-filled (rows_words rs) (length rs * row_width) c.rows (rows_long rs) room.rows_lent
            (given.first_is ∙ ap (λ (o : Outcomes (Said Counts) ℕ ℕ). o.first) stored);
        attrs_filled = sets-filled (attrs_words xs) (length xs * attr_width) c.attrs (attrs-long xs) room.attrs_lent
            (given.second_is ∙ ap (λ (o : Outcomes (Said Counts) ℕ ℕ). o.second) stored);
        values = rw lent.is_written (standard-values numbers c.settings.endian dies);
      }

  -- a section that was read, in which every entry ends where its size says, was written by the standard, as what the tables then hold. (`Bytes`: that each
  -- element of a `&[u8]` is below 256 is not in its contract's terms)
  pub read-was-written : (n : Counts) → Bytes c.section → c.said ≡ gives n → c.settings.erased ≡ false → Exact c.settings.endian c.section 0
      → StandardTags (rows_from c.rows_then 0 n.rows)
      → WrittenAs c.vendors c.settings.endian c.section (rows_from c.rows_then 0 n.rows) (attrs_from c.attrs_then 0 n.attrs)
  read-was-written n small says off is-exact tags =
      let filled = answer-read c.settings c.vendors c.sizes c.section c.rows c.attrs n (sym given.answer_is ∙ says) in
      let rows_are : rows_from c.rows_then 0 n.rows ≡ with_units filled.rs =
      ap₂ (λ (t : List ℕ) (d : Counts). rows_from t 0 d.rows) given.first_is filled.counted ∙ filled.rows_held
      in
      let attrs-are : attrs_from c.attrs_then 0 n.attrs ≡ filled.xs =
      ap₂ (λ (t : List ℕ) (d : Counts). attrs_from t 0 d.attrs) given.second_is filled.counted ∙ filled.attrs_held
      in
      rw (rows_are, attrs-are)
      (standard-written c.vendors c.settings.roles.global_ref c.settings.endian erased_limit c.section small
      (sym (off-walk c.settings c.vendors c.section off) ∙ filled.whole) is-exact (bare-tags no_unit filled.rs (rw rows_are at tags)))
