-- What the two rooms of all layouts hold.
use Rattle.std.specs.Prelude.{ℕ, ◌*◌, ◌≡◌, List, length}
use Rattle.lent.specs.Filled.{Filled}
use Rattle.layout.specs.Layout.{laid_width}
use Rattle.layout.specs.All.{Structure, structure_width, structure_words, all_member_words, member_count, counts_of}
use Rattle.layout.specs.declared.all.LayoutCounts.{LayoutCounts}

-- how many there are, and both rooms after they were given
pub record AllFilled (xs : List Structure) (many : LayoutCounts) (structures structures' members members' : List ℕ) : Type 0 where
  pub counts_are : many ≡ counts_of xs
  pub structures_filled : Filled (structure_words 0 xs) (length xs * structure_width) structures structures'
  pub members_filled : Filled (all_member_words xs) (member_count xs * laid_width) members members'
