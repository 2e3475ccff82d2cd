-- Rows and attributes as words. A row is 6 words: key, kind, flags, first attribute, number of attributes, key of its unit. An attribute is 2:
-- number, place of its value.
use Rattle.std.specs.Prelude.{ℕ, zero, suc, ◌+◌, ◌*◌, ◌/◌, ◌%◌, Bool, cond, List, [], ◌∷◌, ◌++◌, get_or, set, eqb}
use Rattle.std.proofs.lemmas.List.Edits.{sets}
use Rattle.numbers.specs.declared.Endian.{Endian}
use Rattle.numbers.specs.declared.Endian.TheVariants.{Big, Little}
use Rattle.attributes.specs.declared.decode.Endians.{Endians}
use Rattle.tables.specs.declared.row.Row.{Row}
use Rattle.tables.specs.declared.row.Attr.{Attr}

-- the words of a row and of an attribute
abbrev pub row_width : ℕ
row_width = 6

-- the words of an attribute
abbrev pub attr_width : ℕ
attr_width = 2

-- a row, and an attribute, as words
unfoldable pub row_words : Row → List ℕ
row_words r = r.key ∷ r.kind ∷ r.flags ∷ r.first ∷ r.count ∷ r.unit ∷ []

-- an attribute as words
unfoldable pub attr_words : Attr → List ℕ
attr_words a = a.number ∷ a.value ∷ []

-- rows and attributes one after the other
unfoldable pub rows_words : List Row → List ℕ
rows_words [] = []
rows_words (r ∷ rest) = row_words r ++ rows_words rest

-- attributes one after the other
unfoldable pub attrs_words : List Attr → List ℕ
attrs_words [] = []
attrs_words (a ∷ rest) = attr_words a ++ attrs_words rest

-- row i and attribute i of a table
unfoldable pub row_at : List ℕ → ℕ → Row
row_at t i =
    record {
      key = get_or t (i * row_width) 0;
      kind = get_or t (i * row_width + 1) 0;
      flags = get_or t (i * row_width + 2) 0;
      first = get_or t (i * row_width + 3) 0;
      count = get_or t (i * row_width + 4) 0;
      unit = get_or t (i * row_width + 5) 0;
    }

-- attribute i of a table
unfoldable pub attr_at : List ℕ → ℕ → Attr
attr_at t i = record { number = get_or t (i * attr_width) 0; value = get_or t (i * attr_width + 1) 0 }

-- n rows, or attributes, of a table from i on
unfoldable pub rows_from : List ℕ → ℕ → ℕ → List Row
rows_from t i zero = []
rows_from t i (suc n) = row_at t i ∷ rows_from t (suc i) n

-- n attributes of a table from i on
unfoldable pub attrs_from : List ℕ → ℕ → ℕ → List Attr
attrs_from t i zero = []
attrs_from t i (suc n) = attr_at t i ∷ attrs_from t (suc i) n

-- a table with row i, or attribute i, stored; what does not fit is not stored
abbrev pub put_row : List ℕ → ℕ → Row → List ℕ
put_row t i r = sets t (i * row_width) (row_words r)

-- a table with the unit of row i stored
unfoldable pub put_unit : List ℕ → ℕ → ℕ → List ℕ
put_unit t i unit = set t (i * row_width + 5) unit

-- a table with attribute i stored
abbrev pub put_attr : List ℕ → ℕ → Attr → List ℕ
put_attr t i a = sets t (i * attr_width) (attr_words a)

-- the flags: 1 erased, 2 erased root, 4 little-endian data
unfoldable pub erased_row : ℕ → Bool
erased_row flags = eqb (flags % 2) 1

-- the data endianness that flags say
unfoldable pub endian_of : ℕ → Endian
endian_of flags = cond (eqb (flags / 4 % 2) 1) Little Big

-- the section's endianness and row i's own
unfoldable pub ends_of : Endian → List ℕ → ℕ → Endians
ends_of e rows i = record { section = e; «data» = endian_of (row_at rows i).flags }
