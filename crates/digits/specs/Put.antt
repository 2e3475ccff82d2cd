-- A text written into bytes at a place, as far as it fits.
use Rattle.std.specs.Prelude.{ℕ, ◌+◌, ◌≡◌, List, length}
use Rattle.std.proofs.lemmas.List.Edits.{sets}

-- the place after the text, which counts the bytes that do not fit too, and the bytes with the text in them
pub record Put (text : List ℕ) (at next : ℕ) (before after : List ℕ) : Type 0 where
  pub place_is : next ≡ at + length text
  pub bytes_are : after ≡ sets before at text
