-- Sizes that are noted already, for calls that take many: three words for each row. This is how the code goes about it: what is answered does not rest on it.
use Rattle.std.specs.Prelude.{ℕ, ◌+◌, ◌*◌, ◌%◌, ◌≡◌, cond, List, length, get_or, eqb}
use Rattle.format.specs.Refusal.{reason_of}
use Rattle.format.specs.Said.{Said, gives, refuse}

-- the words of a size
abbrev pub noted_width : ℕ
noted_width = 3

-- the size of row i: 0, the size and 0; or a refusal's number, 0 and its place
unfoldable pub noted_at : List ℕ → ℕ → Said ℕ
noted_at noted i =
    cond (eqb (get_or noted (i * 3) 0) 0) (gives (get_or noted (i * 3 + 1) 0 % 0x100000000))
    (refuse (reason_of (get_or noted (i * 3) 0 % 0x100000000)) (get_or noted (i * 3 + 2) 0))

-- row i's size is noted now, the others as before
pub record PutNoted (i : ℕ) (size : Said ℕ) (noted noted' : List ℕ) : Type 0 where
  pub here : noted_at noted' i ≡ size
  pub others : (j : ℕ) → (j ≡ i → ⊥) → noted_at noted' j ≡ noted_at noted j
  pub same_long : length noted' ≡ length noted
