-- `children`, the public call: 1, 2, 3; 11 for a key without a row; 9 where the walk would never end; 8 with the count needed.
use Rattle.std.specs.Prelude.{ℕ, List, [], ◌∷◌, length, leb}
use Rattle.lent.specs.Outcome.{Outcome}
use Rattle.format.specs.Said.{Said, gives, refuse, ◌>>=◌, in_room, fills_room}
use Rattle.format.specs.declared.refusal.Reason.TheVariants as reason
use Rattle.tables.specs.Table.{Table, table_rows}
use Rattle.tables.specs.Keyed.{row_of}
use Rattle.links.specs.Walk.{Walk, ends, endless}
use Rattle.links.specs.Links.{child_walk, non_null}

-- the children that a walk meets; 9 at the key of the row that asks where it never ends
unfoldable pub children_met : List ℕ → ℕ → Walk → Said (List ℕ)
children_met rows key (ends cs) = gives (non_null rows cs)
children_met rows key endless = refuse reason.Link key

-- the children of the row of a key
unfoldable pub child_rows_of : Table → ℕ → Said (List ℕ)
child_rows_of t key = do
  i ← row_of t key
  children_met t.rows key (child_walk (table_rows t) i)

-- `children`: they go into the room, words past them as they were
unfoldable pub children_of_key : Table → ℕ → List ℕ → Outcome (Said ℕ) ℕ
children_of_key t key room =
    in_room room (child_rows_of t key) (λ cs. fills_room (leb (length cs) (length room)) (length cs) (length cs ∷ []) cs room)
