-- The listing and the child walk of a table that was read, over the ends of reaches as numbers. `TreeTheorem` says the same in the demand's words.
use Rattle.format.proofs.Laws.Said.{must-gave, last-gave, room-gave, fill-gave}
use Prim.Native.Nat.{ℕ, zero, suc, ◌+◌, ◌*◌, ◌≤◌, ◌<◌}
use native.Mathlib.Omega.{arith}
use mathlib.Core.Path.{◌≡◌, refl, sym, ap, ◌∙◌}
use mathlib.Core.Logic.{◌↔◌}
use mathlib.Core.Bool.{Bool, true, false}
use mathlib.Core.List.{List}
use lib.ListN.{length, get_or}
use lib.Seq.{sets}
use lib.Dec.{leb, ltb}
use borrow.Author.Tests.{le-ltb, le-leb, leb-true, ltb-false}
use Rattle.tables.specs.Table.{Table, table}
use Rattle.lent.specs.Outcome.{Outcome, outcome, Given, BothGiven}
use Rattle.format.specs.Said.{Said, gives, must, ◌>>◌, in_room, fills_room, ◌>>=◌}
use Rattle.format.specs.Limits.{depth_limit, section_limit}
use Rattle.format.specs.Settings.{settings_hold}
use Rattle.format.specs.Said as said
use Rattle.format.specs.declared.settings.Settings.{Settings}
use Rattle.format.specs.declared.refusal.Reason.TheVariants as reason
use Rattle.tables.specs.Row.{row_at, erased_row}
use Rattle.tables.specs.Holds.{table_holds, TableHolds}
use Rattle.tables.proofs.Laws.Held.{held-rising, held-inside}
use Rattle.lent.proofs.Laws.Stores.{sets-back}
use Rattle.tables.specs.Tests.{test_table}
use Rattle.tables.specs.Keyed.{found_row, row_of}
use Rattle.tables.proofs.Laws.Find.{row-of-own-key}
use Rattle.tables.specs.declared.row.Counts.{Counts}
use Rattle.entries.specs.Section.{read_debug_section}
use Rattle.entries.proofs.Laws.Filled.{filled-holds}
use Rattle.entries.proofs.Laws.Unerased.{none-erased, answer-tested}
use Rattle.links.specs.Children as children
use Rattle.links.specs.Inside.Children.{listed_into}
use Rattle.tree.specs.Pick.{first_from}
use Rattle.tree.proofs.Laws.Pick.{first-none, first-from-is}
use Rattle.tree.proofs.Laws.Reach.{reach_in, reaching}
use Rattle.tree.specs.Nest.{depth, parent, deep, first_fault, first_deep}
use Rattle.tree.proofs.Laws.Ends.{Good, NoneCross, Reaching, children_in, Listable}
use Rattle.tree.proofs.Laws.Demand.{nests-exactly}
use Rattle.tree.proofs.Laws.Nested.{Nested}
use Rattle.tree.proofs.Laws.Fault.{fault-none}
use Rattle.tree.specs.Tree.{place_width, places_from, first_erased, tree_tests, listing_of, list_tree}
use Rattle.tree.proofs.Laws.WalkTree.{Plain, children-given}

-- ---- what the tests of the listing come to

module _ (rows : List ℕ) (n : ℕ) (reach : ℕ → ℕ) (room : List ℕ) where
  listing-given : leb n (first_erased rows n) ≡ true → leb n (first_fault n reach) ≡ true → leb n (first_deep n reach) ≡ true
      → leb (n * place_width) (length room) ≡ true → listing_of rows n reach room ≡ outcome (gives n) (sets room 0 (places_from n reach 0 n))
  unfolding listing_of tree_tests in_room fills_room must ◌>>◌
  listing-given a b c d = rw (a, b, c, d)

  -- all four tests pass
  passes : (listing_of rows n reach room).answer ≡ gives n
      → (leb n (first_fault n reach) ≡ true) × (leb n (first_deep n reach) ≡ true) × (leb (n * place_width) (length room) ≡ true)
      × ((listing_of rows n reach room).room ≡ sets room 0 (places_from n reach 0 n))
  unfolding listing_of tree_tests
  passes p =
      let tests = room-gave room (tree_tests rows n reach) _ p in
      let whole = must-gave (leb n (first_erased rows n)) reason.Kind _ _ tests.1 in
      let sound = must-gave (leb n (first_fault n reach)) reason.Link _ _ whole.1 in
      let shallow : leb n (first_deep n reach) ≡ true = last-gave _ reason.Depth _ sound.1 in
      let enough = fill-gave (leb (n * place_width) (length room)) n _ _ room tests.2 in
      (sound.0, shallow, enough.0, ap (λ (o : Outcome (Said ℕ) ℕ). o.room) (listing-given whole.0 sound.0 shallow enough.0))

-- ---- a first row that is not there

first-beyond : (p : ℕ → Bool) (n : ℕ) → leb n (first_from p 0 n) ≡ true → first_from p 0 n ≡ n
first-beyond p n h =
    let most : first_from p 0 n ≤ 0 + n = (first-from-is p 0 n).to in
    let least : n ≤ first_from p 0 n = leb-true n (first_from p 0 n) h in
    omega arith

none_first : (p : ℕ → Bool) (n : ℕ) → ((j : ℕ) → j < n → p j ≡ false) → leb n (first_from p 0 n) ≡ true
none_first p n h = let all : first_from p 0 n ≡ n = (first-none p n).1 h in le-leb n (first_from p 0 n) (omega arith)

-- ---- the places, read back

pub places-depth : (n : ℕ) (reach : ℕ → ℕ) (i k j : ℕ) → j < k
    → (get_or (places_from n reach i k) (j * place_width) 0 ≡ depth n reach (i + j))
    × (get_or (places_from n reach i k) (j * place_width + 1) 0 ≡ parent n reach (i + j))
unfolding places_from
places-depth n reach i zero j h = elim h [ ]
places-depth n reach i (suc k) zero h =
    let place : i + 0 ≡ i = omega arith in
    (ap (λ (x : ℕ). depth n reach x) (sym place), ap (λ (x : ℕ). parent n reach x) (sym place))
places-depth n reach i (suc k) (suc j) h =
    let first : suc j * place_width ≡ suc (suc (j * place_width)) = omega arith in
    let second : suc j * place_width + 1 ≡ suc (suc (j * place_width + 1)) = omega arith in
    let place : i + suc j ≡ suc i + j = omega arith in
    let rest = places-depth n reach (suc i) k j (omega arith) in
    (rw (first, place) rest.0, rw (second, place) rest.1)

pub places-length : (n : ℕ) (reach : ℕ → ℕ) (i k : ℕ) → length (places_from n reach i k) ≡ k * place_width
unfolding places_from
places-length n reach i zero = refl
places-length n reach i (suc k) = let rest : length (places_from n reach (suc i) k) ≡ k * place_width = places-length n reach (suc i) k in omega arith

-- ---- the theorem

module _ (settings : Settings) (vendors sizes s rows₀ attrs₀ : List ℕ) (c : Counts) {rows attrs : List ℕ} (off : settings.erased ≡ false)
    (read : BothGiven (read_debug_section settings vendors sizes s rows₀ attrs₀) (gives c) rows attrs) where
  abbrev t : Table
  t = table s settings vendors sizes rows attrs c

  abbrev reach : ℕ → ℕ
  reach = reach_in (table s settings vendors sizes rows attrs c)

  table_held : table_holds s vendors rows attrs c ≡ true
  table_held = rw (read.first_is, read.second_is) (filled-holds settings vendors sizes s rows₀ attrs₀ c (sym read.answer_is))

  checked : TableHolds s vendors rows attrs c
  checked = record { holds = table_held }

  tests-pass : (settings_hold settings vendors sizes ≡ true) × (ltb (length s) section_limit ≡ true)
  tests-pass = answer-tested settings vendors sizes s rows₀ attrs₀ c (sym read.answer_is)

  unerased : (j : ℕ) → j < c.rows → erased_row (row_at rows j).flags ≡ false
  unerased = rw read.first_is (none-erased settings vendors sizes s rows₀ attrs₀ c off (sym read.answer_is))

  pub plain : Plain s rows c.rows
  plain = record { rising = held-rising checked; inside = λ j h. held-inside checked j h; unerased = unerased }

  no-erased : leb c.rows (first_erased rows c.rows) ≡ true
  unfolding first_erased
  no-erased = none_first (λ i. erased_row (row_at rows i).flags) c.rows unerased

  -- with the tests passed, the listing is that of the table's reaches
  pub tree-listed : (room : List ℕ) → list_tree t room ≡ listing_of rows c.rows reach room
  unfolding list_tree test_table must ◌>>◌ in_room
  tree-listed room = rw (tests-pass.0, tests-pass.1, table_held)

  -- it is given exactly when
  pub listed-exactly : (room : List ℕ) {r : Said ℕ} {room' : List ℕ} → Given (list_tree t room) r room'
      → (r ≡ gives c.rows) ↔ Listable c.rows reach room
  unfolding first_fault first_deep deep
  listed-exactly room given =
      let n : ℕ = c.rows in
      let answer = given.answer_is ∙ ap (λ (o : Outcome (Said ℕ) ℕ). o.answer) (tree-listed room) in (
        λ p. (let all = passes rows n reach room (sym answer ∙ p) in
            let nests = (nests-exactly n reach (reaching settings.endian s rows attrs n)).0 (first-beyond _ n all.0) in
            let none = (first-none (deep n reach) n).0 (first-beyond (deep n reach) n all.1) in
            record {
              good = nests.0;
              nest = nests.1;
              shallow = λ j h. ltb-false depth_limit (depth n reach j) (none j h);
              enough = leb-true (n * place_width) (length room) all.2;
            }),
        λ l. (let sound : first_fault n reach ≡ n = (nests-exactly n reach (reaching settings.endian s rows attrs n)).1 (l.good, l.nest) in
            answer ∙ ap (λ (o : Outcome (Said ℕ) ℕ). o.answer) (listing-given rows n reach room no-erased (le-leb n (first_fault n reach) (omega arith))
            (none_first (deep n reach) n (λ j h. le-ltb depth_limit (depth n reach j) (l.shallow j h))) (le-leb (n * place_width) (length room) l.enough))),
      )

  -- what it holds: every row once, in file order, with its depth and its parent; words past them as they were
  pub listing-holds : (room : List ℕ) {r : Said ℕ} {room' : List ℕ} → Given (list_tree t room) r room'
      → r ≡ gives c.rows → room' ≡ sets room 0 (places_from c.rows reach 0 c.rows)
  listing-holds room given p =
      let answer = given.answer_is ∙ ap (λ (o : Outcome (Said ℕ) ℕ). o.answer) (tree-listed room) in
      given.room_is ∙ ap (λ (o : Outcome (Said ℕ) ℕ). o.room) (tree-listed room) ∙ (passes rows c.rows reach room (sym answer ∙ p)).3

  -- row j's two words
  pub listing-places : (room : List ℕ) {r : Said ℕ} {room' : List ℕ} → Given (list_tree t room) r room'
      → r ≡ gives c.rows → (j : ℕ) → j < c.rows
      → (get_or room' (j * place_width) 0 ≡ depth c.rows reach j) × (get_or room' (j * place_width + 1) 0 ≡ parent c.rows reach j)
  listing-places room {r} {room'} given p j h =
      let n : ℕ = c.rows in
      let words : List ℕ = places_from n reach 0 n in
      let long : length words ≡ n * place_width = places-length n reach 0 n in
      let enough : n * place_width ≤ length room = ((listed-exactly room given).0 p).enough in
      let back : (k : ℕ) → k < n * place_width → get_or room' k 0 ≡ get_or words k 0 =
      λ k l. (let place : k ≡ 0 + k = omega arith in
      ap (λ (t : List ℕ). get_or t k 0) (listing-holds room given p)
      ∙ ap (λ (x : ℕ). get_or (sets room 0 words) x 0) place
      ∙ sets-back room 0 words k (omega arith) (omega arith))
      in
      let told = places-depth n reach 0 n j h in
      let place : 0 + j ≡ j = omega arith in (
        back (j * place_width) (omega arith) ∙ told.0 ∙ ap (λ (x : ℕ). depth n reach x) place,
        back (j * place_width + 1) (omega arith) ∙ told.1 ∙ ap (λ (x : ℕ). parent n reach x) place,
      )

  -- the child walk of any row, with room enough, gives exactly the non-null rows with that parent, in order
  pub walk-holds : Good c.rows reach → NoneCross c.rows reach → (i : ℕ) → i < c.rows → (room : List ℕ)
      → length (children_in rows c.rows reach i) ≤ length room → {q : Said ℕ} {room' : List ℕ}
      → Given (children.children_of_key t (row_at rows i).key room) q room'
      → (q ≡ said.gives (length (children_in rows c.rows reach i))) × (room' ≡ sets room 0 (children_in rows c.rows reach i))
  unfolding children.children_of_key children.child_rows_of row_of test_table found_row must ◌>>=◌ ◌>>◌ listed_into
  walk-holds good nest i l room h {q} {room'} given =
      let n : ℕ = c.rows in
      let all : Reaching n reach = reaching settings.endian s rows attrs n in
      let nested : Nested n reach = fault-none n reach all ((nests-exactly n reach all).1 (good, nest)) in
      let told : children.children_of_key t (row_at rows i).key room
      ≡ outcome (said.gives (length (children_in rows n reach i))) (sets room 0 (children_in rows n reach i)) =
      rw (tests-pass.0, tests-pass.1, table_held, row-of-own-key (held-rising checked) i l) (children-given plain settings.endian attrs nested i l room h)
      in
      (given.answer_is ∙ ap (λ (o : Outcome (Said ℕ) ℕ). o.answer) told, given.room_is ∙ ap (λ (o : Outcome (Said ℕ) ℕ). o.room) told)
