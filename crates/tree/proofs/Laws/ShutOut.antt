-- The wrong readers that document 01 shuts out ('Holding each promise to account'), by name: what each answers and leaves does not meet the contract. Sections
-- are small and computed, settings are the listing program's; the lent tables and rooms are any that are long enough.
use Prim.Native.Nat.{ℕ, ◌*◌, ◌≤◌, ◌<◌}
use native.Mathlib.Omega.{arith}
use mathlib.Core.Path.{◌≡◌, refl, sym, ap, ◌∙◌, subst}
use mathlib.Core.Bool.{Bool, true, false, cond}
use mathlib.Core.List.{List, [], ◌∷◌, ◌++◌}
use lib.ListN.{length, get_or, drop, replicate, length-replicate, get_or-replicate}
use lib.Seq.{sets, sets-eq}
use borrow.Author.Tests.{le-leb, lt-ltb}
use Rattle.tables.specs.Table.{table, lent_rows}
use Rattle.lent.specs.Outcome.{Outcome, outcome, Given, Outcomes, BothGiven, outcomes}
use Rattle.numbers.specs.Value.{value_of, there, read_at}
use Rattle.numbers.specs.declared.Endian.TheVariants.{Big}
use Rattle.format.specs.Lookup.{is_on, index_of, lookup}
use Rattle.format.specs.TagKind.{tags}
use Rattle.format.specs.TagKind as tag
use Rattle.format.specs.AttributeKind.{used, also_known, attribute_kinds}
use Rattle.format.specs.AttributeKind as number
use Rattle.format.specs.Known.{known}
use Rattle.format.specs.FormKind.{forms, form_of}
use Rattle.format.specs.FundType.{fund_types}
use Rattle.format.specs.InputA.{input_a, settings_a as settings}
use Rattle.format.specs.Limits.{section_limit, entry_limit, attribute_limit}
use Rattle.format.specs.Settings.{plays, vendors_hold, role_holds, role_form, roles_differ, roles_hold, settings_hold}
use Rattle.format.specs.Said.{Said, gives, refuses, refusal, wanting, must, ◌>>=◌, ◌>>◌, placed, in_room, in_rooms, fills_room, fills_rooms}
use Rattle.format.proofs.Laws.Said.{rooms-gave, fills-gave}
use Rattle.format.specs.declared.settings.Settings.{Settings}
use Rattle.format.specs.declared.refusal.Refusal.{Refusal}
use Rattle.attributes.specs.Text.{zero_from}
use Rattle.attributes.specs.End.{fixed_end, block_end, text_end, value_end}
use Rattle.attributes.specs.Read.{ending, numbered, read_attribute}
use Rattle.tables.specs.Row.{row_width, attr_width, row_words, attr_words, rows_words, attrs_words, row_at, attr_at, rows_from, erased_row}
use Rattle.lent.proofs.Laws.Stores.{sets-back}
use Rattle.tables.proofs.Laws.Row.{rows_back}
use Rattle.tables.specs.Unit.{no_unit, unit_of, in_unit, units_from, with_units}
use Rattle.tables.specs.declared.row.Row.{Row}
use Rattle.tables.specs.declared.row.Attr.{Attr}
use Rattle.tables.specs.declared.row.Counts.{Counts}
use Rattle.entries.specs.Head.{null_end, tag_head, size_head, head_at}
use Rattle.entries.specs.Run.{attr, run_ends, read_on, read_run}
use Rattle.entries.specs.Entry.{little_flag, flag_of, flags_of, attributes, entry_from, read_entry}
use Rattle.entries.specs.Walk.{Entries, entries, entries_then, whole_entry, entries_from, read_tags}
use Rattle.tables.specs.Holds.{fitting}
use Rattle.entries.specs.Section.{counts, counts_of, whole_walk, section_entries, read_debug_section}
use Rattle.entries.proofs.Laws.Section.{read-stored}
use Rattle.links.specs.Attribute.{wants, attr_from, attribute_of, reference_by, reference_of}
use Rattle.tree.specs.Pick.{count_below, nearest_below, first_from}
use Rattle.tree.specs.Reach.{reach_by, reach_end}
use Rattle.tree.specs.Nest.{lies, depth, parent, crosses, faulty, deep, first_fault, first_deep}
use Rattle.tree.specs.Tree.{place_width, places_from, first_erased, tree_tests, listing_of, list_tree}
use Rattle.tree.proofs.Laws.TreeListed.{tree-listed}
use Rattle.tree.specs.ShutOut.{four_each, reading, null_section, two_section}

settings_held : settings_hold settings [] four_each ≡ true
unfolding four_each fund_types vendors_hold role_holds role_form roles_differ roles_hold settings_hold
settings_held = refl

-- what a walk gives is stored in tables that are long enough, the rows with their units
abbrev storing : List Row → List Attr → List ℕ → List ℕ → Outcomes (Said Counts) ℕ ℕ
storing rs xs rows attrs =
    outcomes (gives (counts (length rs) (length xs))) (sets rows 0 (rows_words (with_units rs))) (sets attrs 0 (attrs_words xs))

walk-stored : (s : List ℕ) (rs : List Row) (xs : List Attr) (place : ℕ) → whole_walk settings [] s ≡ gives (entries rs xs place) → length s < section_limit
    → length rs ≤ entry_limit → length xs ≤ attribute_limit → (rows attrs : List ℕ) → length rs * row_width ≤ length rows
    → length xs * attr_width ≤ length attrs
    → reading s rows attrs ≡ storing rs xs rows attrs
unfolding fitting section_entries must ◌>>◌
walk-stored s rs xs place walk short few-rows few-attrs rows attrs h k =
    let fits : fitting (counts (length rs) (length xs)) (length rows) (length attrs) ≡ true =
    rw (
      le-leb (length rs) entry_limit few-rows,
      le-leb (length rs * row_width) (length rows) h,
      le-leb (length xs) attribute_limit few-attrs,
      le-leb (length xs * attr_width) (length attrs) k,
    )
    in
    let all : section_entries settings [] four_each s ≡ gives (entries rs xs place) = rw (settings_held, lt-ltb (length s) section_limit short, walk) in
    read-stored settings [] four_each s rows attrs all fits

-- whether an answer is rows that were read, and the counts that it tells
abbrev IsRead : Said Counts → Type 0
IsRead (gives c) = Unit
IsRead (refuses number place needed) = ⊥

abbrev said_counts : Said Counts → Counts
said_counts (gives c) = c
said_counts (refuses number place []) = counts 0 0
said_counts (refuses number place (rows ∷ [])) = counts rows 0
said_counts (refuses number place (rows ∷ attrs ∷ more)) = counts rows attrs

-- ---- three sections, and the entries that reading finds in them

-- an entry's row: big-endian, not erased, in no unit
abbrev row_of : ℕ → ℕ → ℕ → ℕ → Row
row_of key kind first count = record { key = key; kind = kind; flags = 0; first = first; count = count; unit = no_unit }

-- the row of a null entry
abbrev first_null : Row
first_null = row_of 0 tag.padding 0 0

abbrev two_rows : List Row
two_rows = row_of 0 tag.structure_type 0 1 ∷ row_of 9 tag.subroutine 1 1 ∷ []

abbrev two_attrs : List Attr
two_attrs = attr number.name 8 ∷ attr number.name 17 ∷ []

-- the rows and the attributes of document 01's input A
abbrev rows_a : List Row
rows_a = row_of 0x00 tag.structure_type 0 2 ∷ row_of 0x12 tag.member 2 2 ∷ row_of 0x26 tag.padding 4 0 ∷ []

abbrev attrs_a : List Attr
attrs_a = attr number.sibling 8 ∷ attr number.byte_size 14 ∷ attr number.fund_type 26 ∷ attr number.location 30 ∷ []

walks : (whole_walk settings [] null_section ≡ gives (entries (first_null ∷ []) [] 4))
    × (whole_walk settings [] two_section ≡ gives (entries two_rows two_attrs 18))
    × (whole_walk settings [] input_a ≡ gives (entries rows_a attrs_a 42))
unfolding value_of there read_at is_on index_of lookup tags used also_known attribute_kinds known forms form_of zero_from fixed_end block_end text_end
    value_end ending numbered read_attribute null_end tag_head size_head head_at plays run_ends read_on read_run little_flag flag_of flags_of attributes
    entry_from read_entry entries_then whole_entry entries_from read_tags whole_walk ◌>>=◌ placed
walks = (refl, refl, refl)

-- ---- one null entry

module _ (rows attrs : List ℕ) (enough : row_width ≤ length rows) where
  null-stored : reading null_section rows attrs ≡ storing (first_null ∷ []) [] rows attrs
  null-stored = walk-stored null_section (first_null ∷ []) [] 4 walks.0 (omega arith) (omega arith) (omega arith) rows attrs enough (omega arith)

  null-answer : {r : Said Counts} {rows' attrs' : List ℕ} → BothGiven (reading null_section rows attrs) r rows' attrs' → r ≡ gives (counts 1 0)
  null-answer p = p.answer_is ∙ ap (λ (o : Outcomes (Said Counts) ℕ ℕ). o.answer) null-stored

  -- a reader that refuses all
  pub refuses-all : (why : Refusal) {rows' attrs' : List ℕ} → BothGiven (reading null_section rows attrs) (refusal why) rows' attrs' → ⊥
  refuses-all why p = subst IsRead (sym (null-answer p)) tt

  -- or that finds no room enough
  pub refuses-room : (needed : Counts) {rows' attrs' : List ℕ}
      → BothGiven (reading null_section rows attrs) (wanting (needed.rows ∷ needed.attrs ∷ [])) rows' attrs' → ⊥
  refuses-room needed p = subst IsRead (sym (null-answer p)) tt

  -- one that answers no rows for everything
  pub no_rows : (n : ℕ) {rows' attrs' : List ℕ} → BothGiven (reading null_section rows attrs) (gives (counts 0 n)) rows' attrs' → ⊥
  no_rows n p = let none : ◌≡◌ {A = ℕ} 0 1 = ap (λ (r : Said Counts). (said_counts r).rows) (null-answer p) in absurd (omega arith)

-- ---- two entries

-- one that reads the first entry and pads the rest
pub first-and-padding : (rows attrs : List ℕ) → 2 * row_width ≤ length rows → 4 ≤ length attrs → {r : Said Counts} {rows' attrs' : List ℕ}
    → (row_at rows' 1).kind ≡ tag.padding
    → BothGiven (reading two_section rows attrs) r rows' attrs' → ⊥
unfolding rows_from unit_of in_unit units_from
first-and-padding rows attrs h k {r} {rows'} padded p =
    let whole = walk-stored two_section two_rows two_attrs 18 walks.1 (omega arith) (omega arith) (omega arith) rows attrs h k in
    let held : rows_from rows' 0 2 ≡ two_rows =
    ap (λ (t : List ℕ). rows_from t 0 2) (p.first_is ∙ ap (λ (o : Outcomes (Said Counts) ℕ ℕ). o.first) whole) ∙ rows_back rows two_rows h
    in
    let second : row_at rows' 1 ≡ row_of 9 tag.subroutine 1 1 = cc in
    let kind : (row_at rows' 1).kind ≡ tag.subroutine = ap (λ (r : Row). r.kind) second in
    absurd (omega arith)

-- one that writes nothing, into tables whose first row is not that of a structure
module _ (rows attrs : List ℕ) (rows-enough : 2 * row_width ≤ length rows) (attrs-enough : 4 ≤ length attrs) where
  pub writes_nothing : ((row_at rows 0).kind ≡ tag.structure_type → ⊥) → {r : Said Counts} {attrs' : List ℕ}
      → BothGiven (reading two_section rows attrs) r rows attrs' → ⊥
  unfolding rows_from unit_of in_unit units_from
  writes_nothing other p =
      let whole = walk-stored two_section two_rows two_attrs 18 walks.1 (omega arith) (omega arith) (omega arith) rows attrs rows-enough attrs-enough in
      let held : rows_from rows 0 2 ≡ two_rows =
      ap (λ (t : List ℕ). rows_from t 0 2) (p.first_is ∙ ap (λ (o : Outcomes (Said Counts) ℕ ℕ). o.first) whole) ∙ rows_back rows two_rows rows-enough
      in
      let first : row_at rows 0 ≡ row_of 0 tag.structure_type 0 1 = cc in
      other (ap (λ (r : Row). r.kind) first)

-- so of tables filled with zeros, whatever their lengths
pub leaves-zeros : (k m : ℕ) → 2 * row_width ≤ k → 4 ≤ m → {r : Said Counts} {attrs' : List ℕ}
    → BothGiven (reading two_section (replicate k 0) (replicate m 0)) r (replicate k 0) attrs' → ⊥
unfolding row_at
leaves-zeros k m h l =
    writes_nothing (replicate k 0) (replicate m 0) (rw (length-replicate {A = ℕ} k 0) h) (rw (length-replicate {A = ℕ} m 0) l)
    (λ e. let zero : get_or (replicate k 0) 1 0 ≡ 0 = get_or-replicate {A = ℕ} k 1 0 0 (omega arith) in absurd (omega arith))

-- ---- any input

fit-counts : (all : Entries) (fits : Bool) (rows attrs : List ℕ)
    → said_counts (fills_rooms fits (counts_of all) (length all.rows ∷ length all.attrs ∷ []) (rows_words (with_units all.rows)) (attrs_words all.attrs) rows
    attrs).answer
    ≡ counts_of all
unfolding fills_rooms
fit-counts all true rows attrs = refl
fit-counts all false rows attrs = refl

module _ (settings : Settings) (vendors sizes s rows attrs : List ℕ) {c : Counts} {rows' attrs' : List ℕ} where
  -- invented row counts: an answer that is given has the counts of what the definition reads
  pub invented-counts : BothGiven (read_debug_section settings vendors sizes s rows attrs) (gives c) rows' attrs'
      → (all : Entries) × (section_entries settings vendors sizes s ≡ gives all) × (c ≡ counts_of all)
  unfolding read_debug_section
  invented-counts p =
      let whole = rooms-gave rows attrs (section_entries settings vendors sizes s) _ (sym p.answer_is) in
      (whole.0, whole.1, sym (fills-gave _ _ _ _ _ rows attrs whole.2).1)

  -- invented needed counts: where the definition reads the section, room that is told as needed is that of what it reads
  pub invented-needed : {all : Entries} → section_entries settings vendors sizes s ≡ gives all
      → BothGiven (read_debug_section settings vendors sizes s rows attrs) (wanting (c.rows ∷ c.attrs ∷ [])) rows' attrs' → c ≡ counts_of all
  unfolding read_debug_section in_rooms
  invented-needed {all} whole p =
      ap said_counts (rw whole at p.answer_is) ∙ fit-counts all (fitting (counts_of all) (length rows) (length attrs)) rows attrs

-- ---- the listing of input A

-- its three rows' depths and parents, whatever lies behind them in the tables
abbrev places_a : List ℕ
places_a = 0 ∷ 0 ∷ 1 ∷ 1 ∷ 1 ∷ 1 ∷ []

A-listed : (rows attrs room : List ℕ) → 6 ≤ length room
    → listing_of (rows_words rows_a ++ rows) 3 (λ i. reach_end (lent_rows Big input_a (rows_words rows_a ++ rows) (attrs_words attrs_a ++ attrs) 3) i) room
    ≡ outcome (gives 3) (sets room 0 places_a)
unfolding value_of there read_at row_words attr_words rows_words attrs_words row_at attr_at erased_row wants attr_from attribute_of reference_by
    reference_of count_below nearest_below first_from reach_by reach_end lies depth parent crosses faulty deep first_fault first_deep places_from
    first_erased tree_tests listing_of must ◌>>◌ in_room fills_room
A-listed rows attrs room h = ap (λ (b : Bool). cond b (outcome (gives 3) (sets room 0 places_a)) (outcome (wanting (3 ∷ [])) room)) (le-leb 6 (length room) h)

module _ (rows₀ attrs₀ : List ℕ) (rows-enough : 3 * row_width ≤ length rows₀) (attrs-enough : 8 ≤ length attrs₀) {c : Counts} {rows attrs : List ℕ}
    (read : BothGiven (reading input_a rows₀ attrs₀) (gives c) rows attrs) where
  A-stored : reading input_a rows₀ attrs₀ ≡ storing rows_a attrs_a rows₀ attrs₀
  A-stored = walk-stored input_a rows_a attrs_a 42 walks.2 (omega arith) (omega arith) (omega arith) rows₀ attrs₀ rows-enough attrs-enough

  A-counts : c ≡ counts 3 4
  A-counts = ap said_counts (read.answer_is ∙ ap (λ (o : Outcomes (Said Counts) ℕ ℕ). o.answer) A-stored)

  A-rows : rows ≡ rows_words rows_a ++ drop (3 * row_width) rows₀
  unfolding row_words rows_words unit_of in_unit units_from
  A-rows = read.first_is ∙ ap (λ (o : Outcomes (Said Counts) ℕ ℕ). o.first) A-stored ∙ sets-eq (rows_words rows_a) rows₀ 0 rows-enough

  A-attrs : attrs ≡ attrs_words attrs_a ++ drop 8 attrs₀
  unfolding attr_words attrs_words
  A-attrs = read.second_is ∙ ap (λ (o : Outcomes (Said Counts) ℕ ℕ). o.second) A-stored ∙ sets-eq (attrs_words attrs_a) attrs₀ 0 attrs-enough

  -- a listing of file order with depth 0 everywhere
  pub depth-zero : (room : List ℕ) → 6 ≤ length room → {r : Said ℕ} {room' : List ℕ} → ((j : ℕ) → j < 3 → get_or room' (j * place_width) 0 ≡ 0)
      → Given (list_tree (table input_a settings [] four_each rows attrs c) room) r room' → ⊥
  depth-zero room h {r} {room'} zeros given =
      let tree : list_tree (table input_a settings [] four_each rows attrs c) room ≡ outcome (gives 3) (sets room 0 places_a) =
      tree-listed settings [] four_each input_a rows₀ attrs₀ c refl read room
      ∙ rw (A-counts, A-rows, A-attrs) (A-listed (drop (3 * row_width) rows₀) (drop 8 attrs₀) room h)
      in
      let inside : get_or room' 2 0 ≡ 1 =
      ap (λ (t : List ℕ). get_or t 2 0) (given.room_is ∙ ap (λ (o : Outcome (Said ℕ) ℕ). o.room) tree) ∙ sets-back room 0 places_a 2 h (omega arith)
      in
      let zero : get_or room' 2 0 ≡ 0 = zeros 1 (omega arith) in
      absurd (omega arith)
