-- What a forest that the standard writes says of its entries: the depth and the parent of each, in prefix order. A listing that holds the same.
use Rattle.std.specs.Prelude.{ℕ, suc, ◌+◌, ◌*◌, ◌≤◌, ◌<◌, ◌≡◌, Bool, List, [], ◌∷◌, ◌++◌, length, get_or}
use Rattle.lent.specs.Filled.{Filled}
use Rattle.numbers.specs.declared.Endian.{Endian}
use Rattle.standard.specs.Entries.{Die}
use Rattle.standard.specs.Forest.{Forest, done, ended, alone, childless, family}
use Rattle.format.specs.Said.{gives}
use Rattle.tree.specs.Demand.{Called}

module _ {numbers : List ℕ} {e : Endian} where
  -- two words for each entry from row `row` on: its depth, and its parent's row plus one, 0 for none. A null that ends children is one of them
  unfoldable pub forest_places : {closed : Bool} {at : ℕ} {dies : List (Die numbers e)} → Forest numbers e closed at dies
      → (row depth parent : ℕ) → List ℕ
  forest_places (done at) row depth parent = []
  forest_places (ended at fill few small) row depth parent = depth ∷ parent ∷ []
  forest_places (alone closed at d rest r siblings) row depth parent = depth ∷ parent ∷ forest_places siblings (suc row) depth parent
  forest_places (childless closed at d rest r siblings) row depth parent = depth ∷ parent ∷ forest_places siblings (suc row) depth parent
  forest_places (family closed at d children rest r below siblings) row depth parent =
      depth ∷ parent ∷ (forest_places below (suc row) (suc depth) (suc row) ++ forest_places siblings (suc row + length children) depth parent)

  module _ {closed : Bool} {at : ℕ} {dies : List (Die numbers e)} (forest : Forest numbers e closed at dies) where
    -- no entry lies deeper than 32, and two words for each fit the room
    pub record ForestFits (room : List ℕ) : Type 0 where
      pub shallow : (j : ℕ) → j < length dies → get_or (forest_places forest 0 0 0) (j * 2) 0 ≤ 32
      pub enough : length dies * 2 ≤ length room

    -- the listing says how many entries there are; its room holds the depth and the parent of each, in order, and behind them what it held
    pub record ForestListed (listing : Called) : Type 0 where
      pub says : listing.said ≡ gives (length dies)
      pub places : Filled (forest_places forest 0 0 0) (length dies * 2) listing.room listing.room'
