-- The listing's text, as bytes: document 01, 'Modules, leaves first'; a row's last column, its unit: document 02, K7.
use Rattle.std.specs.Prelude.{ℕ, zero, suc, ◌*◌, ◌≤◌, cond, List, [], ◌∷◌, ◌++◌, get_or, eqb}
use Rattle.digits.specs.Digits.{hex_text, decimal_text}
use Rattle.digits.specs.Put.{Put}
use Rattle.tables.specs.Row.{row_at}
use Rattle.tables.specs.Unit.{no_unit}

-- ' ', and the end of a line
abbrev pub space : List ℕ
space = 32 ∷ []

-- the end of a line
abbrev pub newline : List ℕ
newline = 10 ∷ []

-- 'rows ', 'refused ', ' at '
abbrev pub rows_word : List ℕ
rows_word = 114 ∷ 111 ∷ 119 ∷ 115 ∷ 32 ∷ []

-- 'refused '
abbrev pub refused_word : List ℕ
refused_word = 114 ∷ 101 ∷ 102 ∷ 117 ∷ 115 ∷ 101 ∷ 100 ∷ 32 ∷ []

-- ' at '
abbrev pub at_word : List ℕ
at_word = 32 ∷ 97 ∷ 116 ∷ 32 ∷ []

-- no line is longer
abbrev pub line_limit : ℕ
line_limit = 34

-- the header and 1,024 rows are no longer than this
abbrev pub page_limit : ℕ
page_limit = 1025 * line_limit

-- 'rows N'
unfoldable pub header_text : ℕ → List ℕ
header_text n = rows_word ++ decimal_text n ++ newline

-- eight hex digits; '-' where there is no unit
unfoldable pub unit_text : ℕ → List ℕ
unit_text unit = cond (eqb unit no_unit) (45 ∷ []) (hex_text 8 unit)

-- 'KEY DEPTH TAG'
unfoldable pub entry_text : ℕ → ℕ → ℕ → List ℕ
entry_text key depth kind = hex_text 8 key ++ space ++ decimal_text depth ++ space ++ hex_text 4 kind

-- 'KEY DEPTH TAG UNIT'
unfoldable pub row_text : ℕ → ℕ → ℕ → ℕ → List ℕ
row_text key depth kind unit = entry_text key depth kind ++ space ++ unit_text unit ++ newline

-- 'refused N at KEY'
unfoldable pub refusal_text : ℕ → ℕ → List ℕ
refusal_text number place = refused_word ++ decimal_text number ++ at_word ++ hex_text 8 place ++ newline

-- the lines of n rows of a table from row i on; `room` has two words for each row, and the first of them is its depth
unfoldable pub rows_text : List ℕ → List ℕ → ℕ → ℕ → List ℕ
rows_text rows room i zero = []
rows_text rows room i (suc n) =
    row_text (row_at rows i).key (get_or room (2 * i) 0) (row_at rows i).kind (row_at rows i).unit ++ rows_text rows room (suc i) n

-- the listing of n rows: the header and their lines
abbrev pub listing_text : List ℕ → List ℕ → ℕ → List ℕ
listing_text rows room n = header_text n ++ rows_text rows room 0 n

-- a text at the beginning of a page, which holds it if the page has `page_limit` bytes
pub record Printed (text : List ℕ) (next : ℕ) (before after : List ℕ) : Type 0 where
  pub put : Put text 0 next before after
  pub fits : next ≤ page_limit
