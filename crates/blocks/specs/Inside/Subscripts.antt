-- What the walk over a block of subscripts leaves in a room: the words in their order, as far as they fit.
use Rattle.format.specs.declared.refusal.Refusal.{Refusal}
use Rattle.std.specs.Prelude.{◌≡◌, ℕ, List, Result}
use Rattle.std.proofs.lemmas.List.Edits.{sets}
use Rattle.numbers.specs.declared.Endian.{Endian}
use Rattle.format.specs.Said.{said, Said, gives, refuses}
use Rattle.blocks.specs.declared.subscripts.Array.{Array}
use Rattle.blocks.specs.Subscripts.{Dimensions, whole_block, count_subscripts}

-- the words of a block that is read are in the room; of one that is refused nothing is said
abbrev pub Stored : Said Dimensions → List ℕ → List ℕ → Type 0
Stored (gives d) room room' = room' ≡ sets room 0 d.words
Stored (refuses number place counts) room room' = Unit

-- what the walk answers, and what it leaves
pub record Walked (e : Endian) (block : List ℕ) (r : Result Array Refusal) (room room' : List ℕ) : Type 0 where
  pub answer_is : said r ≡ count_subscripts e block
  pub room_is : Stored (whole_block e block) room room'
