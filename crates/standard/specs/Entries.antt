-- How the standard writes entries, in either endianness: a null entry of 4 to 7 bytes; padding; an entry as its exact size, its tag, and its
-- attributes, each a 2-byte number and a value in the number's form. Every number is in one endianness.
use Rattle.std.specs.Prelude.{ℕ, ◌+◌, ◌%◌, ◌^◌, ◌≤◌, ◌<◌, ◌≡◌, List, [], ◌∷◌, ◌++◌, length, get_or}
use Rattle.numbers.specs.Written.{bytes_of, Bytes}
use Rattle.numbers.specs.declared.Endian.{Endian}
use Rattle.standard.specs.Numbers.{OnList, Form, ADDR, REF, BLOCK2, BLOCK4, DATA2, DATA4, DATA8, STRING, form_number, tags, padding_tag}

-- a value: a number (an address, a reference, data), or bytes (a block, a text)
pub data Value : Type 0 where
  number : ℕ → Value
  bytes : List ℕ → Value

-- a block: its length in w bytes, then its bytes
unfoldable pub block : Endian → ℕ → List ℕ → List ℕ
block e w xs = bytes_of e w (length xs) ++ xs

-- a text: its bytes, then a zero
unfoldable pub text : List ℕ → List ℕ
text xs = xs ++ (0 ∷ [])

-- no byte of a text is zero
pub record Text (xs : List ℕ) : Type 0 where
  pub small : Bytes xs
  pub no_zero : (i : ℕ) → i < length xs → get_or xs i 0 ≡ 0 → ⊥

-- a value as its form writes it, and the bytes that it is written in
pub data Written (e : Endian) : Form → Value → List ℕ → Type 0 where
  address : (n : ℕ) → n < 256 ^ 4 → Written e ADDR (number n) (bytes_of e 4 n)
  reference : (n : ℕ) → n < 256 ^ 4 → Written e REF (number n) (bytes_of e 4 n)
  block2 : (xs : List ℕ) → length xs < 256 ^ 2 → Bytes xs → Written e BLOCK2 (bytes xs) (block e 2 xs)
  block4 : (xs : List ℕ) → length xs < 256 ^ 4 → Bytes xs → Written e BLOCK4 (bytes xs) (block e 4 xs)
  data2 : (n : ℕ) → n < 256 ^ 2 → Written e DATA2 (number n) (bytes_of e 2 n)
  data4 : (n : ℕ) → n < 256 ^ 4 → Written e DATA4 (number n) (bytes_of e 4 n)
  data8 : (n : ℕ) → n < 256 ^ 8 → Written e DATA8 (number n) (bytes_of e 8 n)
  string : (xs : List ℕ) → Text xs → Written e STRING (bytes xs) (text xs)

-- an attribute: its number, which is one of those in use, its form and value, and the bytes of its value
pub record Attribute (numbers : List ℕ) (e : Endian) : Type 0 where
  pub kind : ℕ
  pub form : Form
  pub value : Value
  pub body : List ℕ
  pub small : kind < 256 ^ 2
  pub in_use : OnList kind numbers
  pub has_form : kind % 16 ≡ form_number form
  pub written : Written e form value body

module _ (numbers : List ℕ) (e : Endian) where
  -- an attribute: two bytes of number, then the bytes of its value
  unfoldable pub written_attribute : Attribute numbers e → List ℕ
  written_attribute a = bytes_of e 2 a.kind ++ a.body

  -- attributes one after the other
  unfoldable pub written_attributes : List (Attribute numbers e) → List ℕ
  written_attributes [] = []
  written_attributes (a ∷ rest) = written_attribute a ++ written_attributes rest

  -- an entry. A null entry has up to three bytes after its size; padding any bytes, at least two, after its tag; any other entry at least one
  -- attribute, else its size would be that of a null
  pub data Die : Type 0 where
    null : (fill : List ℕ) → length fill ≤ 3 → Bytes fill → Die
    padding : (fill : List ℕ) → 2 ≤ length fill → length fill + 6 < 256 ^ 4 → Bytes fill → Die
    entry : (tag : ℕ) → OnList tag tags → (tag ≡ padding_tag → ⊥) → (a : Attribute numbers e) (rest : List (Attribute numbers e))
        → length (written_attributes (a ∷ rest)) + 6 < 256 ^ 4 → Die

  -- its bytes: the size counts itself
  unfoldable pub written_die : Die → List ℕ
  written_die (null fill few small) = bytes_of e 4 (length fill + 4) ++ fill
  written_die (padding fill some few small) = bytes_of e 4 (length fill + 6) ++ bytes_of e 2 padding_tag ++ fill
  written_die (entry tag k p a rest few) =
      bytes_of e 4 (length (written_attributes (a ∷ rest)) + 6) ++ bytes_of e 2 tag ++ written_attributes (a ∷ rest)

  -- a section: entries one after the other
  unfoldable pub written_dies : List Die → List ℕ
  written_dies [] = []
  written_dies (d ∷ rest) = written_die d ++ written_dies rest

  -- ---- what it says

  -- the values of attributes, in order
  unfoldable pub values_in : List (Attribute numbers e) → List Value
  values_in [] = []
  values_in (a ∷ rest) = a.value ∷ values_in rest

  -- of one entry
  unfoldable pub die_values : Die → List Value
  die_values (null fill few small) = []
  die_values (padding fill some few small) = []
  die_values (entry tag k p a rest few) = values_in (a ∷ rest)

  -- of all entries
  unfoldable pub values_of : List Die → List Value
  values_of [] = []
  values_of (d ∷ rest) = die_values d ++ values_of rest
