-- The tree theorem (demand 3) of the public calls, over their own contracts: take a table that `read_debug_section` filled with erased entries left out,
-- and list and walk it with the section and settings it was read with. What is said there is `TreeTheorem` of specs/Demand.
use Rattle.format.specs.Said.{said_counted, Said, gives}
use Prim.Native.Nat.{ℕ, ◌+◌, ◌*◌, ◌<◌}
use native.Mathlib.Omega.{arith}
use mathlib.Core.Path.{◌≡◌, sym, ap, subst, ◌∙◌}
use mathlib.Core.Logic.{inl, inr, ⊎_elim}
use mathlib.Core.Bool.{false}
use mathlib.Core.List.{List}
use lib.ListN.{length, get_or}
use lib.Seq.{sets, length-sets}
use borrow.Fn.Kinds.{Dens, res_t, ended_of}
use denote.Triple.Clauses.{AtExit}
use contract.Lifetimes.{Lfts}
use Rattle.lent.specs.Outcome.{Outcome, Given, BothGiven}
use Rattle.lent.specs.Filled.{Filled}
use Rattle.lent.proofs.Laws.Filled.{sets-filled}
use Rattle.format.specs.declared.settings.Settings.{Settings}
use Rattle.format.proofs.Laws.Said.{room-gave, fill-gave}
use Rattle.tables.specs.Table.{Table, table, table_of, table_rows}
use Rattle.tables.specs.declared.row.Counts.{Counts}
use Rattle.entries.specs.Section.{said_section, read_debug_section}
use Rattle.entries.proofs.section.read_debug_section as read
use Rattle.links.specs.Children.{children_of_key}
use Rattle.links.proofs.children.children as walk
use Rattle.tree.proofs.Laws.Reach.{reach_in}
use Rattle.tree.specs.Nest.{depth, parent}
use Rattle.tree.specs.Tree.{places_from, listing_of, tree_tests, list_tree}
use Rattle.tree.specs.Demand.{key_of, Depth, Parent, IsTree, Listable, Called, TreeTheorem}
use Rattle.tree.proofs.Laws.Ends.{Good, NoneCross, children_in}
use Rattle.tree.proofs.Laws.Ends as ends
use Rattle.tree.proofs.Laws.Demanded.{reach-is, reach-named, lies-then, lies-when, depth_is, depth-one, parent_is, children-are}
use Rattle.tree.proofs.Laws.WalkTree.{Plain}
use Rattle.tree.proofs.Laws.TreeListed.{plain, places-length, tree-listed, listed-exactly, listing-holds, listing-places, walk-holds}
use Rattle.tree.proofs.listing.list_tree as list

-- ---- over the definitions

module _ (settings : Settings) (vendors sizes s rows₀ attrs₀ : List ℕ) (c : Counts) {rows attrs : List ℕ} (off : settings.erased ≡ false)
    (filled : BothGiven (read_debug_section settings vendors sizes s rows₀ attrs₀) (gives c) rows attrs) where
  abbrev t : Table
  t = table s settings vendors sizes rows attrs c

  abbrev n : ℕ
  n = c.rows

  abbrev reach : ℕ → ℕ
  reach = reach_in (table s settings vendors sizes rows attrs c)

  abbrev sound : Plain s rows n
  sound = plain settings vendors sizes s rows₀ attrs₀ c off filled

  -- references that are good and do not cross are what the demand calls a tree
  tree-then : IsTree (table_rows t) → Good n reach × NoneCross n reach
  tree-then tree = (
    λ i h bad. (let is = reach-is sound settings.endian attrs (tree.named i h).1 in omega (arith, is.1, is.2)),
    λ i j h l o. ⊎_elim
        (λ holds. inl (λ k a. (let is = lies-then sound settings.endian attrs (holds k (lies-when sound settings.endian attrs l a.0 a.1)) in (is.1, is.2))))
        (λ holds. inr (λ k a. (let is = lies-then sound settings.endian attrs (holds k (lies-when sound settings.endian attrs h a.0 a.1)) in (is.1, is.2))))
        (tree.nested i j (record {
          row = o.0;
          in_first = lies-when sound settings.endian attrs h o.1.0 o.1.1;
          in_second = lies-when sound settings.endian attrs l o.2.0 o.2.1;
        })),
  )

  tree-when : Good n reach → NoneCross n reach → IsTree (table_rows t)
  tree-when good none = record {
    named = λ i h. (reach i, reach-named sound settings.endian attrs h (good i h));
    nested = λ i j o. (let a = lies-then sound settings.endian attrs o.in_first in
        let b = lies-then sound settings.endian attrs o.in_second in
        ⊎_elim
        (λ holds. inl (λ k l. (let is = lies-then sound settings.endian attrs l in
        let inside = holds k (is.1, is.2) in lies-when sound settings.endian attrs a.0 inside.0 inside.1)))
        (λ holds. inr (λ k l. (let is = lies-then sound settings.endian attrs l in
        let inside = holds k (is.1, is.2) in lies-when sound settings.endian attrs b.0 inside.0 inside.1)))
        (none i j a.0 b.0 (o.row, (a.1, a.2), (b.1, b.2))));
  }

  listable-then : (room : List ℕ) → Listable (table_rows t) room → ends.Listable n reach room
  listable-then room l = record {
    good = (tree-then l.tree).0;
    nest = (tree-then l.tree).1;
    shallow = λ j h. l.shallow j (depth n reach j) h (depth_is sound settings.endian attrs j);
    enough = l.fits;
  }

  listable-when : (room : List ℕ) → ends.Listable n reach room → Listable (table_rows t) room
  listable-when room l = record {
    tree = tree-when l.good l.nest;
    shallow = λ j d h a. (let is : d ≡ depth n reach j = depth-one sound settings.endian attrs a in omega (arith, l.shallow j h));
    fits = l.enough;
  }

  -- a listing that is given tells how many rows there are
  given-counts : (room : List ℕ) {m : ℕ} → (list_tree t room).answer ≡ gives m → m ≡ n
  unfolding listing_of
  given-counts room {m} p =
      let listed : (listing_of rows n reach room).answer ≡ gives m =
      sym (ap (λ (o : Outcome (Said ℕ) ℕ). o.answer) (tree-listed settings vendors sizes s rows₀ attrs₀ c off filled room)) ∙ p
      in
      let tests = room-gave room (tree_tests rows n reach) _ listed in
      sym (fill-gave _ n _ _ room tests.2).1

  -- the theorem
  pub tree-holds : (listing walk : Called) (i : ℕ) → Given (list_tree t listing.room) listing.said listing.room'
      → Given (children_of_key t (key_of (table_rows t) i) walk.room) walk.said walk.room' → TreeTheorem (table_rows t) listing i walk
  tree-holds listing walk i lists walks = record {
    exactly_when = (
      λ p. (let said : listing.said ≡ gives n = p.1 ∙ ap gives (given-counts listing.room (sym lists.answer_is ∙ p.1)) in
          listable-when listing.room ((listed-exactly settings vendors sizes s rows₀ attrs₀ c off filled listing.room lists).0 said)),
      λ l. (n, says l),
    );
    counted = λ m p. given-counts listing.room (sym lists.answer_is ∙ p);
    contents = λ l. (let long : length (places_from n reach 0 n) ≡ n * 2 = places-length n reach 0 n in
        let stored : listing.room' ≡ sets listing.room 0 (places_from n reach 0 n) =
        listing-holds settings vendors sizes s rows₀ attrs₀ c off filled listing.room lists (says l)
        in
        let full : Filled (places_from n reach 0 n) (n * 2) listing.room listing.room' =
        sets-filled (places_from n reach 0 n) (n * 2) listing.room long l.fits stored
        in
        record {
          depths = λ j h. subst (Depth (table_rows t) j) (sym (places l j h).0) (depth_is sound settings.endian attrs j);
          parents = λ j h. subst (Parent (table_rows t) j) (sym (places l j h).1) (parent_is sound settings.endian attrs j h);
          behind = full.behind;
          same_length = ap length stored ∙ length-sets listing.room 0 (places_from n reach 0 n);
        });
    walked = λ tree h. record {
      children = children_in rows n reach i;
      exactly = children-are sound settings.endian attrs i;
      given = λ fits. walk-holds settings vendors sizes s rows₀ attrs₀ c off filled (tree-then tree).0 (tree-then tree).1 i h walk.room fits walks;
    };
  }
    where
      says : Listable (table_rows t) listing.room → listing.said ≡ gives n
      says l = (listed-exactly settings vendors sizes s rows₀ attrs₀ c off filled listing.room lists).1 (listable-then listing.room l)

      places : Listable (table_rows t) listing.room → (j : ℕ) → j < n
          → (get_or listing.room' (j * 2) 0 ≡ depth n reach j) × (get_or listing.room' (j * 2 + 1) 0 ≡ parent n reach j)
      places l j h = listing-places settings vendors sizes s rows₀ attrs₀ c off filled listing.room lists (says l) j h

-- ---- over the contracts: any three calls that meet them, the listing and the walk being asked of the table that was read

module _ (κs : Lfts 5) (a : Dens κs read.Kinds.ps) (z : (res_t read.Kinds.r κs).Denot) (x : AtExit (ended_of 5 read.Kinds.ps read.Kinds.r) κs)
    (post : read.Reads.Post κs a z x) (c : Counts) (says : said_section z ≡ gives c) (off : a.1.0.erased ≡ false)
    (κs' : Lfts 4) (a' : Dens κs' list.Kinds.ps) (z' : (res_t list.Kinds.r κs').Denot) (x' : AtExit (ended_of 4 list.Kinds.ps list.Kinds.r) κs')
    (post' : list.Reads.Post κs' a' z' x')
    (κs'' : Lfts 4) (a'' : Dens κs'' walk.Kinds.ps) (z'' : (res_t walk.Kinds.r κs'').Denot) (x'' : AtExit (ended_of 4 walk.Kinds.ps walk.Kinds.r) κs'')
    (post'' : walk.Reads.Post κs'' a'' z'' x'') (t : Table)
    (was_read : table a.0.now a.1.0 a.1.1.0.now a.1.1.1.0.now x.1.1.1.1.0.now x.1.1.1.1.1.0.now c ≡ t)
    (listed : table_of a'.0.now ≡ t)
    (walked : table_of a''.0.now ≡ t)
    (i : ℕ) (asked : a''.1.0 ≡ key_of (table_rows t) i) where
  abbrev filled-table : Table
  filled-table = table a.0.now a.1.0 a.1.1.0.now a.1.1.1.0.now x.1.1.1.1.0.now x.1.1.1.1.1.0.now c

  abbrev listing : Called
  listing = record { room = a'.1.0.now; said = said_counted z'; room' = x'.1.0.now }

  abbrev walking : Called
  walking = record { room = a''.1.1.0.now; said = said_counted z''; room' = x''.1.1.0.now }

  lists : Given (list_tree filled-table listing.room) listing.said listing.room'
  lists = subst (λ (y : Table). Given (list_tree y listing.room) listing.said listing.room') (listed ∙ sym was_read) post'

  walks : Given (children_of_key filled-table (key_of (table_rows filled-table) i) walking.room) walking.said walking.room'
  walks =
      let key : a''.1.0 ≡ key_of (table_rows filled-table) i = asked ∙ ap (λ (y : Table). key_of (table_rows y) i) (sym was_read) in
      subst (λ (k : ℕ). Given (children_of_key filled-table k walking.room) walking.said walking.room') key
      (subst (λ (y : Table). Given (children_of_key y a''.1.0 walking.room) walking.said walking.room') (walked ∙ sym was_read) post'')

  pub tree-theorem :
      TreeTheorem (table_rows t)
      (record { room = a'.1.0.now; said = said_counted z'; room' = x'.1.0.now }) i
      (record { room = a''.1.1.0.now; said = said_counted z''; room' = x''.1.1.0.now })
  tree-theorem =
      subst (λ (y : Table). TreeTheorem (table_rows y) listing i walking) was_read
      (tree-holds a.1.0 a.1.1.0.now a.1.1.1.0.now a.0.now a.1.1.1.1.0.now a.1.1.1.1.1.0.now c off
      (subst (λ (r : Said Counts). BothGiven (read_debug_section a.1.0 a.1.1.0.now a.1.1.1.0.now a.0.now a.1.1.1.1.0.now a.1.1.1.1.1.0.now) r
      x.1.1.1.1.0.now x.1.1.1.1.1.0.now) says post)
      listing walking i lists walks)
