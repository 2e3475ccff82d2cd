-- The words of the dimensions are complete: two for each that is counted. So the room that was lent holds exactly them, and behind them what it held before.
use Rattle.format.proofs.Laws.Said.{Of, of-next, given_is, given-refused}
use Rattle.std.proofs.Common.{Option, Some, None, ◌≡◌, ℕ, zero, suc, ◌+◌, ◌*◌, ◌/◌, ◌≤◌, Bool, true, false, cond, eqb, leb, List, [], ◌∷◌, length, drop, refl, ap, subst, arith, leb-true}
use lib.Seq.{sets}
use Rattle.lent.specs.Filled.{Filled}
use Rattle.lent.proofs.Laws.Filled.{sets-filled}
use Rattle.lent.specs.Outcome.{outcome, Given}
use Rattle.numbers.specs.declared.Endian.{Endian}
use Rattle.format.specs.Said.{Said, gives, refuses, wanting, ◌>>=◌, in_room, fills_room}
use Rattle.blocks.specs.Subscript.{Part, dimension, element, next_subscript}
use Rattle.blocks.specs.Subscripts.{dimension_words, Dimensions, element_or, at_end, before, raised, step, subscripts_from, whole_block, process_array_subscript_data}
use Rattle.blocks.specs.declared.types.Type.{«Type»}
use Rattle.blocks.specs.declared.subscripts.Array.{Array}
use Rattle.blocks.proofs.Laws.Subscripts.{into_room}

-- ---- two words for each dimension

-- after n dimensions, the words are two for each further one
abbrev Complete : ℕ → Dimensions → Type 0
Complete n d = n * 2 + length d.words ≡ d.array.dimensions * 2

end-complete : (n : ℕ) (el : Option «Type») → Of (Complete n) (at_end el n)
unfolding at_end element_or ◌>>=◌
end-complete n (Some t) = omega arith
end-complete n None = tt

-- a dimension's own two words go before those of the rest
one-complete : (n index size : ℕ) (d : Said Dimensions) → Of (Complete (suc n)) d → Of (Complete n) (before (dimension_words index size) d)
unfolding before dimension_words ◌>>=◌
one-complete n index size (gives d) h = omega (arith, h)
one-complete n index size (refuses number place counts) h = tt

step-complete : (next : Option «Type» → ℕ → ℕ → Said Dimensions) → ((el : Option «Type») (n used : ℕ) → Of (Complete n) (next el n used))
    → (el : Option «Type») (n at : ℕ) (p : Part) → Of (Complete n) (step next el n at p)
unfolding step
step-complete next h el n at (dimension index size used) = one-complete n index size (next el (suc n) used) (h el (suc n) used)
step-complete next h el n at (element t used) = h (Some (raised at t)) n used

from-complete : (e : Endian) (turns : ℕ) (el : Option «Type») (n at : ℕ) (rest : List ℕ) → Of (Complete n) (subscripts_from e turns el n at rest)
unfolding subscripts_from
from-complete e zero el n at rest = end-complete n el
from-complete e (suc turns) el n at rest =
    let next : Option «Type» → ℕ → ℕ → Said Dimensions = λ el' n' used. subscripts_from e turns el' n' (at + used) (drop used rest) in
    elim (eqb (length rest) 0) as (λ b. Of (Complete n) (elim b [ true ↦ at_end el n | false ↦ next_subscript e rest >>= step next el n at ])) [
      | true ↦ end-complete n el
      | false ↦ of-next (Complete n) (next_subscript e rest) (step next el n at)
          (λ p. step-complete next (λ el' n' used. from-complete e turns el' n' (at + used) (drop used rest)) el n at p)
    ]

-- the theorem
pub words-many : (e : Endian) (block : List ℕ) {d : Dimensions} → whole_block e block ≡ gives d → length d.words ≡ d.array.dimensions * 2
unfolding whole_block
words-many e block {d} p =
    let all : 0 * 2 + length d.words ≡ d.array.dimensions * 2 = subst (Of (Complete 0)) p (from-complete e (length block) None 0 0 block) in
    omega (arith, all)

-- ---- in lent room

module _ (room : List ℕ) {a : Array} {room' : List ℕ} where
  -- a room that was answered is filled, the test having passed
  by-test : (d : Dimensions) → length d.words ≡ d.array.dimensions * 2 → (fits : Bool) → leb d.array.dimensions (length room / 2) ≡ fits
      → Given (cond fits (outcome (gives d.array) (sets room 0 d.words)) (outcome (wanting (d.array.dimensions ∷ [])) room)) (gives a) room'
      → Filled d.words (a.dimensions * 2) room room'
  by-test d many true h p =
      let same : a ≡ d.array = given_is p.answer_is in
      let count : a.dimensions ≡ d.array.dimensions = ap (λ (x : Array). x.dimensions) same in
      let half : d.array.dimensions ≤ length room / 2 = leb-true d.array.dimensions (length room / 2) h in
      sets-filled d.words (a.dimensions * 2) room (omega (arith, many, count)) (omega (arith, count, half)) p.room_is
  by-test d many false h p = absurd (given-refused p.answer_is)

  by-block : (d : Said Dimensions) → ((x : Dimensions) → d ≡ gives x → length x.words ≡ x.array.dimensions * 2)
      → Given (in_room room d (into_room room)) (gives a) room' → (x : Dimensions) × (d ≡ gives x) × Filled x.words (a.dimensions * 2) room room'
  unfolding in_room fills_room
  by-block (gives d) many p = (d, refl, by-test d (many d refl) (leb d.array.dimensions (length room / 2)) refl p)
  by-block (refuses number place counts) many p = absurd (given-refused p.answer_is)

-- the theorem of `subscripts::process_array_subscript_data`: where it gives an array, the block is read, and its words fill the room
pub room-filled : (e : Endian) (block room : List ℕ) {a : Array} {room' : List ℕ} → Given (process_array_subscript_data e block room) (gives a) room'
    → (d : Dimensions) × (whole_block e block ≡ gives d) × Filled d.words (a.dimensions * 2) room room'
unfolding process_array_subscript_data
room-filled e block room p = by-block room (whole_block e block) (λ d q. words-many e block q) p
