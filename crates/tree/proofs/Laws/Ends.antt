-- What is demanded of reaches, over the ends of reaches as numbers, 0 being a bad reference: `Demanded` leads from here to the demand's own words.
use Prim.Native.Nat.{ℕ, suc, ◌*◌, ◌≤◌, ◌<◌}
use mathlib.Core.Path.{◌≡◌}
use mathlib.Core.Logic.{◌⊎◌}
use mathlib.Core.Bool.{not, ◌&&◌}
use mathlib.Core.List.{List}
use lib.ListN.{length}
use lib.Dec.{eqb}
use Rattle.format.specs.Limits.{depth_limit}
use Rattle.links.specs.Links.{null_row}
use Rattle.tree.proofs.Laws.Pick.{all_from}
use Rattle.tree.specs.Nest.{parent, depth}
use Rattle.tree.specs.Tree.{place_width}

module _ (n : ℕ) (reach : ℕ → ℕ) where
  -- row j lies in row i's reach
  abbrev pub Lies : ℕ → ℕ → Type 0
  Lies i j = (i ≤ j) × (j < reach i)

  -- some row lies in both reaches
  abbrev pub Overlap : ℕ → ℕ → Type 0
  Overlap i j = (k : ℕ) × Lies i k × Lies j k

  -- row i's reach holds row j's: each row that lies in row j's lies in row i's
  abbrev pub Holds : ℕ → ℕ → Type 0
  Holds i j = (k : ℕ) → Lies j k → Lies i k

  -- every row's reference is good
  abbrev pub Good : Type 0
  Good = (i : ℕ) → i < n → reach i ≡ 0 → ⊥

  -- of two reaches that overlap, one holds the other
  abbrev pub NoneCross : Type 0
  NoneCross = (i j : ℕ) → i < n → j < n → Overlap i j → Holds i j ⊎ Holds j i

-- a row's reach ends at a later row or after the last one; or its reference is bad
pub record Reaching (n : ℕ) (reach : ℕ → ℕ) : Type 0 where
  pub bad_or_later : (i : ℕ) → i < n → (reach i ≡ 0) ⊎ ((i < reach i) × (reach i ≤ n))

-- the rows with row i for a parent that are no null entries, in file order
abbrev pub children_in : List ℕ → ℕ → (ℕ → ℕ) → ℕ → List ℕ
children_in rows n reach i = all_from (λ j. eqb (parent n reach j) (suc i) && not (null_row rows j)) 0 n

-- what the listing asks for
pub record Listable (n : ℕ) (reach : ℕ → ℕ) (room : List ℕ) : Type 0 where
  pub good : Good n reach
  pub nest : NoneCross n reach
  pub shallow : (j : ℕ) → j < n → depth n reach j ≤ depth_limit
  pub enough : n * place_width ≤ length room
