-- A block of subscripts (document 01, 'Types, records, sizes'; the Rust's `process_array_subscript_data`): one after the other, the rest handed on;
-- dimensions in their order, the last element type counting; no element type is 17. Places count from the block's own beginning.
use Rattle.std.specs.Prelude.{◌≡◌, ℕ, zero, suc, ◌+◌, ◌/◌, true, false, List, [], ◌∷◌, ◌++◌, length, drop, ◌==◌, nat_le, Option, Some, None}
use Rattle.lent.specs.Outcome.{Outcome}
use Rattle.numbers.specs.declared.Endian.{Endian}
use Rattle.format.specs.Said.{Said, gives, refuse, ◌>>=◌, in_room, fills_room}
use Rattle.format.specs.declared.refusal.Reason.TheVariants as reason
use Rattle.attributes.specs.Parts.{part_at}
use Rattle.blocks.specs.Types.{ModifiersInside}
use Rattle.blocks.specs.Subscript.{Part, dimension, element, next_subscript}
use Rattle.blocks.specs.declared.types.Type.{«Type»}
use Rattle.blocks.specs.declared.subscripts.Array.{Array}

-- an array, in short: its element type, and how many dimensions it has
abbrev pub array_of : «Type» → ℕ → Array
array_of t n = record { element = t; dimensions = n }

-- ---- subscript after subscript

-- what a block comes to: an array, and the words of its dimensions
pub record Dimensions : Type 0 where
  pub array : Array
  pub words : List ℕ

-- the words of a dimension
unfoldable pub dimension_words : ℕ → ℕ → List ℕ
dimension_words index size = index ∷ size ∷ []

-- an array needs an element type
unfoldable pub element_or : ℕ → Option «Type» → Said Array
element_or n (Some t) = gives (array_of t n)
element_or n None = refuse reason.Block 0

-- at the end of the block
unfoldable pub at_end : Option «Type» → ℕ → Said Dimensions
at_end el n = do
  of ← element_or n el
  gives (record { array = of; words = [] })

-- these words before those of the rest
unfoldable pub before : List ℕ → Said Dimensions → Said Dimensions
before words rest = do
  d ← rest
  gives (record { array = d.array; words = words ++ d.words })

-- a type that was read out of a part, as one of the whole: its modifiers' place is raised by where the part begins
unfoldable pub raised : ℕ → «Type» → «Type»
raised at t = record { kind = t.kind; place = at + t.place; count = t.count; pointer = t.pointer }

-- a subscript at a place of the block, `next` reading the rest after so many bytes, with the element type so far and so many dimensions
unfoldable pub step : (Option «Type» → ℕ → ℕ → Said Dimensions) → Option «Type» → ℕ → ℕ → Part → Said Dimensions
step next el n at (dimension index size used) = before (dimension_words index size) (next el (suc n) used)
step next el n at (element t used) = next (Some (raised at t)) n used

-- subscripts one after the other, at most `turns` of them, to the end of the block; the rest of it begins at a place
unfoldable pub subscripts_from : Endian → ℕ → Option «Type» → ℕ → ℕ → List ℕ → Said Dimensions
subscripts_from e zero el n at rest = at_end el n
subscripts_from e (suc turns) el n at rest =
    elim (length rest == 0) [
      | true ↦ at_end el n
      | false ↦ next_subscript e rest >>= step (λ el' n' used. subscripts_from e turns el' n' (at + used) (drop used rest)) el n at
    ]

-- the whole block: a subscript takes at least a byte, so it has no more of them than bytes
unfoldable pub whole_block : Endian → List ℕ → Said Dimensions
whole_block e block = subscripts_from e (length block) None 0 0 block

-- the element type and the number of dimensions
unfoldable pub count_subscripts : Endian → List ℕ → Said Array
count_subscripts e block = do
  d ← whole_block e block
  gives d.array

-- `process_array_subscript_data`: a dimension is two words; 8 last, with the number of dimensions
unfoldable pub process_array_subscript_data : Endian → List ℕ → List ℕ → Outcome (Said Array) ℕ
process_array_subscript_data e block room =
    in_room room (whole_block e block)
    (λ d. fills_room (nat_le d.array.dimensions (length room / 2)) d.array (d.array.dimensions ∷ []) d.words room)

-- ---- where the element type stands

-- an element type is what the subscript at a place of the block says, its modifiers inside the block, and the same part of it
pub record SaidWhere (e : Endian) (block : List ℕ) (of : «Type») : Type 0 where
  pub at : ℕ
  pub used : ℕ
  pub type : «Type»
  pub says : next_subscript e (drop at block) ≡ gives (element type used)
  pub is_raised : of ≡ raised at type
  pub inside : ModifiersInside block of
  pub modifiers : part_at block of.place of.count ≡ part_at (drop at block) type.place type.count
