-- How the code finds the first row at fault, depth and parent, without memory for each row. The laws `Fault` and `Open` prove that it comes to `Nest`.
use Rattle.std.specs.Prelude.{ℕ, zero, suc, ◌≡◌, Bool, cond, List, [], ◌∷◌, length, leb, ltb, eqb}
use Rattle.std.proofs.lemmas.List.Edits.{sets}
use Rattle.format.specs.Limits.{depth_limit}
use Rattle.tree.specs.Pick.{first_from}

module _ (n : ℕ) (reach : ℕ → ℕ) where
  -- along c, the row where c's reach ends, and so on, inside a reach that ends at `end`: the first row whose own goes further, if it stands before b; else b
  unfoldable pub chain : ℕ → ℕ → ℕ → ℕ → ℕ
  chain end b zero c = b
  chain end b (suc f) c =
      cond (ltb c end)
      (cond (leb b c) b (cond (leb (reach c) c) c (cond (ltb end (reach c)) c (chain end b f (reach c)))))
      b

  -- the first row at fault from row i on, where b is the first after row i
  unfoldable pub fault_of_row : ℕ → ℕ → ℕ
  fault_of_row i b = cond (eqb (reach i) 0) i (chain (reach i) b n (suc i))

  -- from the last row back to row i, the k-th from the end
  unfoldable pub fault_from : ℕ → ℕ → ℕ
  fault_from i zero = i
  fault_from i (suc k) = fault_of_row i (fault_from (suc i) k)

-- the open rows, the nearest first, without those whose reach has ended at row j
unfoldable pub closing : (ℕ → ℕ) → ℕ → List ℕ → List ℕ
closing reach j [] = []
closing reach j (i ∷ rows) = cond (ltb j (reach i)) (i ∷ rows) (closing reach j rows)

-- the rows opened before row j
unfoldable pub opened : (ℕ → ℕ) → ℕ → List ℕ
opened reach zero = []
opened reach (suc j) = j ∷ closing reach j (opened reach j)

-- those whose reach holds row j
unfoldable pub open_at : (ℕ → ℕ) → ℕ → List ℕ
open_at reach j = closing reach j (opened reach j)

-- the nearest of them, plus one; 0 for none
unfoldable pub nearest : List ℕ → ℕ
nearest [] = 0
nearest (i ∷ rows) = suc i

-- so many rows are open at row j that it lies too deep
unfoldable pub open_deep : (ℕ → ℕ) → ℕ → Bool
open_deep reach j = ltb depth_limit (length (open_at reach j))

-- for k rows from i on, two words each: how many rows are open, and the nearest
unfoldable pub open_words : (ℕ → ℕ) → ℕ → ℕ → List ℕ
open_words reach i zero = []
open_words reach i (suc k) = length (open_at reach i) ∷ nearest (open_at reach i) ∷ open_words reach (suc i) k

-- what the pass over the rows answers: the first row that lies too deep, or n; the rows before it are in the room, as far as they fit
pub record OpenListed (reach : ℕ → ℕ) (n r : ℕ) (room room' : List ℕ) : Type 0 where
  pub deep_is : r ≡ first_from (open_deep reach) 0 n
  pub room_is : room' ≡ sets room 0 (open_words reach 0 r)
