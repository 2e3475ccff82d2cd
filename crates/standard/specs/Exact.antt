-- Bytes in which every entry ends where its size says: the sizes lead from the first byte to the last, and an entry's attributes, each as long as its
-- form says, from behind its tag to its end.
use Rattle.std.specs.Prelude.{ℕ, suc, ◌+◌, ◌%◌, ◌≤◌, ◌<◌, ◌≡◌, List, length, get_or}
use Rattle.numbers.specs.Value.{value_of}
use Rattle.numbers.specs.declared.Endian.{Endian}
use Rattle.standard.specs.Numbers.{Form, ADDR, REF, BLOCK2, BLOCK4, DATA2, DATA4, DATA8, STRING, form_number, padding_tag}

module _ (e : Endian) (s : List ℕ) where
  -- a value of this form that begins at a place ends at another
  pub data ValueEnds : Form → ℕ → ℕ → Type 0 where
    address : (at : ℕ) → ValueEnds ADDR at (at + 4)
    reference : (at : ℕ) → ValueEnds REF at (at + 4)
    block2 : (at : ℕ) → ValueEnds BLOCK2 at (at + 2 + value_of e 2 s at)
    block4 : (at : ℕ) → ValueEnds BLOCK4 at (at + 4 + value_of e 4 s at)
    data2 : (at : ℕ) → ValueEnds DATA2 at (at + 2)
    data4 : (at : ℕ) → ValueEnds DATA4 at (at + 4)
    data8 : (at : ℕ) → ValueEnds DATA8 at (at + 8)
    string : (at zero : ℕ) → at ≤ zero → ((i : ℕ) → at ≤ i → i < zero → get_or s i 0 ≡ 0 → ⊥) → get_or s zero 0 ≡ 0 → ValueEnds STRING at (suc zero)

  -- attributes, one after the other, from a place to an end
  pub data Attributes (end : ℕ) : ℕ → Type 0 where
    none : Attributes end end
    more : (at next : ℕ) (form : Form) → at < end → value_of e 2 s at % 16 ≡ form_number form → ValueEnds form (at + 2) next → Attributes end next
        → Attributes end at

  -- entries, one after the other, from a place to the section's end: nulls of 4 to 7 bytes, padding, entries whose attributes end with them
  pub data Exact : ℕ → Type 0 where
    ends : Exact (length s)
    null : (at : ℕ) → 4 ≤ value_of e 4 s at → value_of e 4 s at < 8 → at + value_of e 4 s at ≤ length s → Exact (at + value_of e 4 s at) → Exact at
    padding : (at : ℕ) → 8 ≤ value_of e 4 s at → value_of e 2 s (at + 4) ≡ padding_tag → at + value_of e 4 s at ≤ length s
        → Exact (at + value_of e 4 s at) → Exact at
    entry : (at : ℕ) → 8 ≤ value_of e 4 s at → (value_of e 2 s (at + 4) ≡ padding_tag → ⊥) → at + value_of e 4 s at ≤ length s
        → Attributes (at + value_of e 4 s at) (at + 6) → Exact (at + value_of e 4 s at) → Exact at
