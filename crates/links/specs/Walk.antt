-- A walk over the n rows of a table: from a row to the next, until it comes to `end` or past the last row. Rows are numbers; a row that is not
-- there is n.
use Rattle.std.specs.Prelude.{ℕ, zero, suc, Bool, cond, ◌||◌, List, [], ◌∷◌, leb, eqb}

-- the rows that a walk meets, in its order; or it never ends
pub data Walk : Type 0 where
  ends : List ℕ → Walk
  endless : Walk

-- a walk that first meets row c
unfoldable pub meets : ℕ → Walk → Walk
meets c (ends cs) = ends (c ∷ cs)
meets c endless = endless

module _ (n : ℕ) (next : ℕ → ℕ) (end : ℕ) where
  -- the walk stops at c
  unfoldable pub stops : ℕ → Bool
  stops c = eqb c end || leb n c

  -- a walk from c on that may meet so many rows: where it wants more, it is endless
  unfoldable pub walk_from : ℕ → ℕ → Walk
  walk_from zero c = cond (stops c) (ends []) endless
  walk_from (suc k) c = cond (stops c) (ends []) (meets c (walk_from k (next c)))

-- where a walk from c stands after k turns, if it has not stopped
unfoldable pub walked : (ℕ → ℕ) → ℕ → ℕ → ℕ
walked next c zero = c
walked next c (suc k) = next (walked next c k)
