-- A run of stores from the beginning that fits fills a room.
use Prim.Native.Nat.{ℕ, ◌+◌, ◌≤◌}
use native.Mathlib.Omega.{arith}
use mathlib.Core.Path.{◌≡◌, ap, ◌∙◌}
use mathlib.Core.List.{List, ◌++◌}
use lib.ListN.{length, take, drop}
use lib.Seq.{sets, sets-eq, take_at, drop_at}
use Rattle.lent.specs.Filled.{Filled}

module _ {E : Type 0} (words : List E) (n : ℕ) (room : List E) {room' : List E} (many : length words ≡ n) (fits : n ≤ length room)
    (stored : room' ≡ sets room 0 words) where
  whole : room' ≡ words ++ drop n room
  whole =
      let short : 0 + length words ≤ length room = omega arith in
      let end : 0 + length words ≡ n = omega arith in
      stored ∙ sets-eq words room 0 short ∙ ap (λ (k : ℕ). words ++ drop k room) end

  pub sets-filled : Filled words n room room'
  sets-filled = record {
    many = many;
    fits = fits;
    front = ap (take n) whole ∙ take_at words (drop n room) n many;
    behind = ap (drop n) whole ∙ drop_at words (drop n room) n many;
  }
