-- The open rows in two short tables: the last word below the height is the nearest row's.
use Rattle.std.specs.Prelude.{ℕ, zero, suc, cond, List, [], ◌∷◌, get_or, ltb}

-- the first h words, the last first
unfoldable pub stack_of : List ℕ → ℕ → List ℕ
stack_of t zero = []
stack_of t (suc h) = get_or t h 0 ∷ stack_of t h

-- the last of the first h words; 0 for none
unfoldable pub top_of : List ℕ → ℕ → ℕ
top_of t zero = 0
top_of t (suc h) = get_or t h 0

-- how many of h open rows are left where those whose reach has ended at row j are taken off the top
unfoldable pub height_at : ℕ → List ℕ → ℕ → ℕ
height_at j ends zero = 0
height_at j ends (suc h) = cond (ltb j (get_or ends h 0)) (suc h) (height_at j ends h)
