-- The tree listing, the public call: 1, 2, 3; 12 for an erased row, 9 for a row at fault, 10 for a row that lies too deep, each at the first such
-- row in file order; 8 with the count of rows; else the listing.
use Rattle.std.specs.Prelude.{ℕ, zero, suc, ◌*◌, List, [], ◌∷◌, length, leb}
use Rattle.tables.specs.Table.{Table, table_rows}
use Rattle.lent.specs.Outcome.{Outcome}
use Rattle.format.specs.Said.{Said, must, ◌>>◌, in_room, fills_room}
use Rattle.format.specs.declared.refusal.Reason.{Reason}
use Rattle.format.specs.declared.refusal.Reason.TheVariants as reason
use Rattle.tables.specs.Row.{row_at, erased_row}
use Rattle.tables.specs.Tests.{test_table}
use Rattle.tree.specs.Pick.{first_from}
use Rattle.tree.specs.Reach.{reach_end}
use Rattle.tree.specs.Nest.{depth, parent, first_fault, first_deep}

-- the words of a row's place in the tree: its depth, and its parent as a row number plus one, 0 for none
abbrev pub place_width : ℕ
place_width = 2

-- the places of k rows from i on
unfoldable pub places_from : ℕ → (ℕ → ℕ) → ℕ → ℕ → List ℕ
places_from n reach i zero = []
places_from n reach i (suc k) = depth n reach i ∷ parent n reach i ∷ places_from n reach (suc i) k

-- the first erased row, n where there is none
unfoldable pub first_erased : List ℕ → ℕ → ℕ
first_erased rows n = first_from (λ i. erased_row (row_at rows i).flags) 0 n

-- none of n rows is so: else the first one's key is told
abbrev pub none_of : List ℕ → ℕ → ℕ → Reason → Said Unit
none_of rows n first why = must (leb n first) why (row_at rows first).key

-- the tests of n rows with these reaches
unfoldable pub tree_tests : List ℕ → ℕ → (ℕ → ℕ) → Said Unit
tree_tests rows n reach = do
  none_of rows n (first_erased rows n) reason.Kind
  none_of rows n (first_fault n reach) reason.Link
  none_of rows n (first_deep n reach) reason.Depth

-- their listing, into lent room
unfoldable pub listing_of : List ℕ → ℕ → (ℕ → ℕ) → List ℕ → Outcome (Said ℕ) ℕ
listing_of rows n reach room =
    in_room room (tree_tests rows n reach) (λ passed. fills_room (leb (n * place_width) (length room)) n (n ∷ []) (places_from n reach 0 n) room)

-- `list_tree`: the tests, then the listing
unfoldable pub list_tree : Table → List ℕ → Outcome (Said ℕ) ℕ
list_tree t room =
    in_room room (test_table t)
    (λ passed. listing_of t.rows t.counts.rows (λ i. reach_end (table_rows t) i) room)
