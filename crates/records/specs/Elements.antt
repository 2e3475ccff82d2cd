-- The element list of an enumeration (document 01, 'Types, records, sizes'): pairs of a value and a zero-ended name. Sizes 1, 2, 4 give signed
-- values; with any other size, or ByteSize not yet seen, only names are read and nothing is listed. Bytes that are missing are 17.
use Rattle.std.specs.Prelude.{Option, Some, None, ℕ, zero, suc, ◌+◌, ◌-◌, true, false, cond, List, [], ◌∷◌, length, eqb, ltb, ℤ}
use Rattle.numbers.specs.Value.{read_at, signed_of}
use Rattle.numbers.specs.declared.Endian.{Endian}
use Rattle.format.specs.Said.{Said, gives, refuse, ◌>>=◌}
use Rattle.format.specs.declared.refusal.Reason.TheVariants as reason
use Rattle.attributes.specs.Text.{zero_from}
use Rattle.records.specs.declared.elements.Element.{Element}
use Rattle.records.specs.declared.elements.Element.TheVariants as element

-- ---- one element

-- the width of the values: 1, 2 or 4; 0 says that only names are read
unfoldable pub list_width : Option ℕ → ℕ
list_width (Some n) = cond (eqb n 1) 1 (cond (eqb n 2) 2 (cond (eqb n 4) 4 0))
list_width None = 0

-- a value of this width, 1, 2 or else 4 bytes, signed
unfoldable pub value_at : ℕ → Endian → List ℕ → ℕ → Option ℤ
value_at width e block at =
    cond (eqb width 1) (read_at (λ n. Some (signed_of 1 n)) None e 1 block at)
    (cond (eqb width 2) (read_at (λ n. Some (signed_of 2 n)) None e 2 block at)
    (read_at (λ n. Some (signed_of 4 n)) None e 4 block at))

-- a name with this value: up to a zero
unfoldable pub named_from : List ℕ → ℕ → ℤ → Option Element
named_from block at value =
    cond (ltb (zero_from block at) (length block)) (Some (element.Is value at (zero_from block at - at) (zero_from block at + 1))) None

-- a name alone
unfoldable pub name_from : List ℕ → ℕ → Option Element
name_from block at = cond (ltb (zero_from block at) (length block)) (Some (element.Name (zero_from block at + 1))) None

-- a value that was read, and its name behind it
unfoldable pub valued : ℕ → List ℕ → ℕ → Option ℤ → Option Element
valued width block at (Some value) = named_from block (at + width) value
valued width block at None = None

-- the element at a place of the block
unfoldable pub element_at : ℕ → Endian → List ℕ → ℕ → Option Element
element_at width e block at = cond (eqb width 0) (name_from block at) (valued width block at (value_at width e block at))

-- ---- a list

-- an element that is listed: its value, and its name's bytes in the section
pub record Listed : Type 0 where
  pub value : ℤ
  pub place : ℕ
  pub length : ℕ

-- an element, `next` reading on from a place; the block stands at `base` of the section; 17 where bytes are missing
unfoldable pub element_then : ℕ → (ℕ → Said (List Listed)) → Option Element → Said (List Listed)
element_then base next (Some (element.Is value place length next')) = do
  xs ← next next'
  gives (record { value = value; place = base + place; length = length } ∷ xs)
element_then base next (Some (element.Name next')) = next next'
element_then base next None = refuse reason.Block 0

-- elements one after the other, at most `turns` of them, to the end of the block
unfoldable pub elements_from : ℕ → Endian → ℕ → List ℕ → ℕ → ℕ → Said (List Listed)
elements_from width e base block zero at = gives []
elements_from width e base block (suc turns) at =
    elim (ltb at (length block)) [
      | true ↦ element_then base (λ k. elements_from width e base block turns k) (element_at width e block at)
      | false ↦ gives []
    ]

-- a whole list: an element has at least a byte, its zero
unfoldable pub elements_in : ℕ → Endian → ℕ → List ℕ → Said (List Listed)
elements_in width e base block = elements_from width e base block (length block) 0

-- ---- in the rooms

-- the value of each
unfoldable pub values_of : List Listed → List ℤ
values_of [] = []
values_of (x ∷ xs) = x.value ∷ values_of xs

-- place and length of each name
unfoldable pub names_of : List Listed → List ℕ
names_of [] = []
names_of (x ∷ xs) = x.place ∷ x.length ∷ names_of xs
