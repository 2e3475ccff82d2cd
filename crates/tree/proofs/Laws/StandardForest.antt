-- A forest that the standard writes is listed as that forest: every entry once, in its order, with its depth and its parent. First of the definition
-- of the listing, then of the calls, over their own contracts.
use Rattle.format.specs.Said.{said_counted, Said, gives}
use Prim.Native.Nat.{ℕ, suc, ◌+◌, ◌*◌}
use native.Mathlib.Nat.{add-zero}
use native.Mathlib.Omega.{arith}
use mathlib.Core.Path.{◌≡◌, refl, sym, ap, subst, ◌∙◌}
use mathlib.Core.Bool.{Bool, false}
use mathlib.Core.List.{List}
use lib.ListN.{length, get_or}
use lib.Seq.{sets}
use borrow.Fn.Kinds.{Dens, res_t, ended_of}
use denote.Triple.Clauses.{AtExit}
use contract.Lifetimes.{Lfts}
use Rattle.lent.specs.Outcome.{Given, BothGiven}
use Rattle.lent.proofs.Laws.Filled.{sets-filled}
use Rattle.numbers.specs.declared.Endian.{Endian}
use Rattle.standard.specs.Entries.{Die, written_dies}
use Rattle.standard.specs.Forest.{Forest, done, ended, alone, childless, family}
use Rattle.format.specs.Limits.{erased_limit}
use Rattle.format.specs.declared.settings.Settings.{Settings}
use Rattle.tables.specs.Table.{Table, table, table_of}
use Rattle.tables.specs.declared.row.Row.{Row}
use Rattle.tables.specs.declared.row.Attr.{Attr}
use Rattle.tables.specs.declared.row.Counts.{Counts}
use Rattle.entries.specs.Walk.{Entries, entries}
use Rattle.entries.specs.Section.{said_section, whole_walk, read_debug_section}
use Rattle.entries.specs.Filled.{TableFilled}
use Rattle.entries.specs.Standard.{taken, attrs_of, rows_of, Call, Dies, WrittenLent}
use Rattle.entries.proofs.Laws.StandardCall.{off-walk}
use Rattle.entries.proofs.Laws.Filled.{answer-read}
use Rattle.entries.proofs.Laws.StandardRead.{standard-read}
use Rattle.entries.proofs.section.read_debug_section as read
use Rattle.tree.specs.Nest.{depth}
use Rattle.tree.specs.Tree.{places_from, list_tree}
use Rattle.tree.specs.Demand.{Called}
use Rattle.tree.specs.Standard.{forest_places, ForestFits, ForestListed}
use Rattle.tree.proofs.Laws.Ends.{Listable}
use Rattle.tree.proofs.Laws.Nested.{Nested}
use Rattle.tree.proofs.Laws.Reach.{reach_in, reaching}
use Rattle.tree.proofs.Laws.Fault.{nested-no-fault}
use Rattle.tree.proofs.Laws.Demand.{nests-then}
use Rattle.tree.proofs.Laws.TreeListed.{plain, places-depth, places-length, listed-exactly, listing-holds}
use Rattle.tree.proofs.Laws.Shape.{size, places, Spans, spans-nested, spans-listed}
use Rattle.tree.proofs.Laws.StandardReach.{shape_of, shape_size, forest-rows, table-spans}
use Rattle.tree.proofs.listing.list_tree as list

-- what the forest says of its entries, said of its shape
shape-places : {numbers : List ℕ} {e : Endian} {closed : Bool} {at : ℕ} {dies : List (Die numbers e)} (forest : Forest numbers e closed at dies) (row d p : ℕ)
    → places (shape_of forest) row d p ≡ forest_places forest row d p
unfolding shape_of places forest_places size
shape-places (done at) row d p = refl
shape-places (ended at fill few small) row d p = refl
shape-places (alone closed at x rest r siblings) row d p = rw (add-zero (suc row), shape-places siblings (suc row) d p)
shape-places (childless closed at x rest r siblings) row d p = rw (add-zero (suc row), shape-places siblings (suc row) d p)
shape-places (family closed at x children rest r below siblings) row d p =
    rw (shape_size below, shape-places below (suc row) (suc d) (suc row), shape-places siblings (suc row + length children) d p)

-- ---- over the definitions

module _ (settings : Settings) (vendors sizes s rows₀ attrs₀ : List ℕ) (c : Counts) {rows attrs : List ℕ} (off : settings.erased ≡ false)
    (filled : BothGiven (read_debug_section settings vendors sizes s rows₀ attrs₀) (gives c) rows attrs)
    {closed : Bool} {dies : List (Die (taken vendors) settings.endian)} (forest : Forest (taken vendors) settings.endian closed 0 dies)
    (is_written : s ≡ written_dies (taken vendors) settings.endian dies) where
  abbrev reach : ℕ → ℕ
  reach = reach_in (table s settings vendors sizes rows attrs c)

  abbrev rs : List Row
  rs = rows_of (taken vendors) settings.endian 0 0 dies

  abbrev xs : List Attr
  xs = attrs_of (taken vendors) settings.endian 0 dies

  walked : whole_walk settings vendors s ≡ gives (entries rs xs (length s))
  walked =
      off-walk settings vendors s off
      ∙ rw is_written (standard-read vendors settings.roles.global_ref settings.endian erased_limit dies)

  held : TableFilled settings vendors s rows₀ attrs₀ c (read_debug_section settings vendors sizes s rows₀ attrs₀)
  held = answer-read settings vendors sizes s rows₀ attrs₀ c (sym filled.answer_is)

  its-entries : entries held.rs held.xs held.place ≡ entries rs xs (length s)
  its-entries = let same : gives (entries held.rs held.xs held.place) ≡ gives (entries rs xs (length s)) = sym held.whole ∙ walked in cc

  its-rows : held.rs ≡ rs
  its-rows = ap (λ (all : Entries). all.rows) its-entries

  its-attrs : held.xs ≡ xs
  its-attrs = ap (λ (all : Entries). all.attrs) its-entries

  many : c.rows ≡ length dies
  many = ap (λ (k : Counts). k.rows) held.counted ∙ ap (λ (l : List Row). length l) its-rows ∙ forest-rows forest

  spans : Spans reach (shape_of forest) 0
  spans =
      table-spans (plain settings vendors sizes s rows₀ attrs₀ c off filled) attrs forest is_written many
      (rw filled.first_is (rw its-rows at held.rows_held))
      (rw filled.second_is (rw its-attrs at held.attrs_held))

  nested : Nested c.rows reach
  nested = subst (λ (k : ℕ). Nested k reach) (shape_size forest ∙ sym many) (spans-nested reach (shape_of forest) spans)

  are-places : places_from c.rows reach 0 c.rows ≡ forest_places forest 0 0 0
  are-places =
      ap (λ (k : ℕ). places_from k reach 0 k) (many ∙ sym (shape_size forest)) ∙ spans-listed reach (shape_of forest) spans ∙ shape-places forest 0 0 0

  listable : (room : List ℕ) → ForestFits forest room → Listable c.rows reach room
  listable room fits =
      let sound = nests-then c.rows reach (reaching settings.endian s rows attrs c.rows) (nested-no-fault c.rows reach nested) in
      record {
        good = sound.0;
        nest = sound.1;
        shallow = λ j h. (let row : 0 + j ≡ j = omega arith in
            let deep : get_or (places_from c.rows reach 0 c.rows) (j * 2) 0 ≡ depth c.rows reach j =
            (places-depth c.rows reach 0 c.rows j h).0 ∙ ap (λ (k : ℕ). depth c.rows reach k) row
            in
            let own : get_or (forest_places forest 0 0 0) (j * 2) 0 ≡ depth c.rows reach j = ap (λ (l : List ℕ). get_or l (j * 2) 0) (sym are-places) ∙ deep in
            omega (arith, fits.shallow j (omega (arith, many))));
        enough = omega (arith, fits.enough, many);
      }

  -- the theorem: of the table that was read
  pub forest-listing : (listing : Called) → Given (list_tree (table s settings vendors sizes rows attrs c) listing.room) listing.said listing.room'
      → ForestFits forest listing.room → ForestListed forest listing
  forest-listing listing given fits =
      let said : listing.said ≡ gives c.rows =
      (listed-exactly settings vendors sizes s rows₀ attrs₀ c off filled listing.room given).1 (listable listing.room fits)
      in
      let stored : listing.room' ≡ sets listing.room 0 (forest_places forest 0 0 0) =
      listing-holds settings vendors sizes s rows₀ attrs₀ c off filled listing.room given said ∙ ap (sets listing.room 0) are-places
      in
      let long : length (forest_places forest 0 0 0) ≡ length dies * 2 =
      ap length (sym are-places) ∙ places-length c.rows reach 0 c.rows ∙ ap (λ (k : ℕ). k * 2) many
      in
      record {
        says = said ∙ ap gives many;
        places = sets-filled (forest_places forest 0 0 0) (length dies * 2) listing.room long fits.enough stored;
      }

-- ---- over the contracts: any two calls that meet them, the listing being asked of the table that was read

module _ (κs : Lfts 5) (a : Dens κs read.Kinds.ps) (z : (res_t read.Kinds.r κs).Denot) (x : AtExit (ended_of 5 read.Kinds.ps read.Kinds.r) κs)
    (post : read.Reads.Post κs a z x) (c : Call)
    (is : c ≡ record {
      section = a.0.now;
      settings = a.1.0;
      vendors = a.1.1.0.now;
      sizes = a.1.1.1.0.now;
      rows = a.1.1.1.1.0.now;
      attrs = a.1.1.1.1.1.0.now;
      said = said_section z;
      rows_then = x.1.1.1.1.0.now;
      attrs_then = x.1.1.1.1.1.0.now;
    })
    (n : Counts) (says : c.said ≡ gives n)
    (κs' : Lfts 4) (a' : Dens κs' list.Kinds.ps) (z' : (res_t list.Kinds.r κs').Denot) (x' : AtExit (ended_of 4 list.Kinds.ps list.Kinds.r) κs')
    (post' : list.Reads.Post κs' a' z' x')
    (asked : table_of a'.0.now
    ≡ table c.section c.settings c.vendors c.sizes c.rows_then c.attrs_then n) where
  abbrev listing : Called
  listing = record { room = a'.1.0.now; said = said_counted z'; room' = x'.1.0.now }

  given : BothGiven (read_debug_section c.settings c.vendors c.sizes c.section c.rows c.attrs) c.said c.rows_then c.attrs_then
  given = rw is post

  lists : Given (list_tree (table c.section c.settings c.vendors c.sizes c.rows_then c.attrs_then n) listing.room) listing.said listing.room'
  lists = subst (λ (t : Table). Given (list_tree t listing.room) listing.said listing.room') asked post'

  -- a section that the standard wrote as a forest, and that was read with the flag off, is listed as that forest
  pub forest-listed : (dies : Dies c) → WrittenLent c dies → {closed : Bool} (forest : Forest (taken c.vendors) c.settings.endian closed 0 dies)
      → ForestFits forest a'.1.0.now
      → ForestListed forest (record { room = a'.1.0.now; said = said_counted z'; room' = x'.1.0.now })
  forest-listed dies lent forest fits =
      forest-listing c.settings c.vendors c.sizes c.section c.rows c.attrs n lent.flag_off
      (subst (λ (r : Said Counts). BothGiven (read_debug_section c.settings c.vendors c.sizes c.section c.rows c.attrs) r c.rows_then c.attrs_then) says given)
      forest lent.is_written listing lists fits
