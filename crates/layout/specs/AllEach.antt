-- The structures and classes of a table, in file order, and what is said of each as a call for its key says it.
use Rattle.std.specs.Prelude.{ℕ, zero, suc, ◌/◌, cond, List, [], ◌∷◌, length, leb}
use Rattle.lent.specs.Outcome.{Outcome}
use Rattle.format.specs.Said.{Said, in_room, fills_room}
use Rattle.tables.specs.Row.{row_at}
use Rattle.sizes.specs.Size.{is_structure, shape_of}
use Rattle.layout.specs.Layout.{laid_words, laid_width}
use Rattle.layout.specs.All.{Structure}
use Rattle.layout.specs.declared.one.Layout.{Layout}

-- ---- every structure and class once, in file order

-- so many rows from row i on
unfoldable pub row_numbers_from : ℕ → ℕ → List ℕ
row_numbers_from i zero = []
row_numbers_from i (suc left) = i ∷ row_numbers_from (suc i) left

-- only those of structures and classes
unfoldable pub only_structures : List ℕ → List ℕ → List ℕ
only_structures rows [] = []
only_structures rows (i ∷ is) = cond (is_structure (shape_of (row_at rows i).kind)) (i ∷ only_structures rows is) (only_structures rows is)

-- ---- each as its key gives it

-- a structure that all layouts tell, alone: its answer, and its members into a room, if they fit
unfoldable pub given_alone : List ℕ → Structure → Outcome (Said Layout) ℕ
given_alone room x =
    in_room room x.answer
    (λ answer. fills_room (leb (length x.members) (length room / laid_width)) answer (length x.members ∷ []) (laid_words x.members) room)
