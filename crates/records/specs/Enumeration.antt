-- Enumerations (document 01, 'Types, records, sizes'; the Rust's `process_enumeration_tag`): attributes in their order, each list going by the
-- ByteSize last seen before it; then no children; then a ByteSize is needed. GCC reverses the list.
use Rattle.std.specs.Prelude.{Option, ℕ, zero, suc, ◌+◌, ◌/◌, Bool, true, false, cond, ◌&&◌, List, [], ◌∷◌, ◌++◌, length, leb, ℤ}
use Rattle.tables.specs.Table.{Table, Rows, table_rows}
use Rattle.lent.specs.Outcome.{Outcomes}
use Rattle.format.specs.AttributeKind as attribute
use Rattle.format.specs.Said.{Said, gives, ◌>>=◌, ◌>>◌, placed, in_rooms, fills_rooms}
use Rattle.format.specs.declared.settings.Settings.{Settings}
use Rattle.format.specs.declared.settings.Producer.{Producer}
use Rattle.format.specs.declared.settings.Producer.TheVariants.{Mwcc, Gcc, Other}
use Rattle.attributes.specs.Parts.{block_at}
use Rattle.links.specs.Links.{child_walk}
use Rattle.tables.specs.Keyed.{row_of}
use Rattle.records.specs.Taken.{special}
use Rattle.records.specs.Scan.{run_of, attribute_at, number_at, fault_at}
use Rattle.records.specs.Fields.{last_from, name_of, word_by, word_of, needed}
use Rattle.records.specs.Front.{kind_fault, childless_fault}
use Rattle.records.specs.Elements.{Listed, list_width, elements_in, values_of, names_of}
use Rattle.records.specs.declared.taken.Record.TheVariants as record'
use Rattle.records.specs.declared.scan.Run.{Run}
use Rattle.records.specs.declared.fields.Sought.TheVariants as sought
use Rattle.records.specs.declared.enumeration.Enumeration.{Enumeration}

module _ (s attrs : List ℕ) (run : Run) where
  -- the ByteSize last seen before attribute j
  unfoldable pub size_before : ℕ → Option ℕ
  size_before j = word_by s attrs run (last_from (sought.Number attribute.byte_size) attrs run.first j)

  -- the list that is attribute j: a block with a 4-byte length, its values in section endianness
  unfoldable pub list_at : ℕ → Said (List Listed)
  list_at j =
      placed run.key (elements_in (list_width (size_before j)) run.ends.section ((attribute_at attrs (run.first + j)).value + 4)
      (block_at run.ends.«data» 4 s (attribute_at attrs (run.first + j)).value))

module _ (settings : Settings) (s attrs : List ℕ) (run : Run) where
  -- m attributes from number j on, lists being read where they stand
  unfoldable pub lists_from : ℕ → ℕ → Said (List Listed)
  lists_from j zero = gives []
  lists_from j (suc m) = do
    fault_at settings.roles record'.Enumeration run s attrs j
    xs ← elim (special record'.Enumeration (number_at settings.roles record'.Enumeration run s attrs j)) [
      | true ↦ list_at s attrs run j
      | false ↦ gives []
    ]
    ys ← lists_from (suc j) m
    gives (xs ++ ys)

-- GCC reverses the list
unfoldable pub is_gcc : Producer → Bool
is_gcc Mwcc = false
is_gcc Gcc = true
is_gcc Other = false

-- the last first
unfoldable pub reversed : List Listed → List Listed
reversed [] = []
reversed (x ∷ xs) = reversed xs ++ (x ∷ [])

-- the members in the order in which they are handed out
unfoldable pub in_order : Producer → List Listed → List Listed
in_order producer xs = cond (is_gcc producer) (reversed xs) xs

-- with so many members: a ByteSize is needed, the name may be missing
unfoldable pub enumeration_sized : List ℕ → List ℕ → Run → ℕ → Said Enumeration
enumeration_sized s attrs run many = do
  size ← needed run.key (word_of s attrs run attribute.byte_size)
  gives (record { name = name_of s attrs run attribute.name; byte_size = size; members = many })

module _ (settings : Settings) (t : Rows) (i : ℕ) where
  -- the row's attributes
  abbrev the_run : Run
  the_run = run_of settings.endian t.rows i

  -- what they list
  unfoldable pub row_lists : Said (List Listed)
  row_lists = lists_from settings t.section t.attrs the_run 0 the_run.count

  -- the enumeration at row i: name, size and how many members
  unfoldable pub enumeration_at : Said Enumeration
  enumeration_at = do
    kind_fault settings t.rows record'.Enumeration i
    xs ← row_lists
    childless_fault t.rows i (child_walk t i)
    enumeration_sized t.section t.attrs the_run (length xs)

-- ---- into lent room: 8 last, with the count

module _ (settings : Settings) (t : Rows) (values : List ℤ) (names : List ℕ) where
  -- the enumeration of row i and its members in order, if they fit: a member is one value, and two words of names
  unfoldable pub enumeration_into : ℕ → Outcomes (Said Enumeration) ℤ ℕ
  enumeration_into i =
      in_rooms values names (enumeration_at settings t i)
      (λ e. in_rooms values names (row_lists settings t i)
      (λ xs. fills_rooms (leb e.members (length values) && leb e.members (length names / 2)) e (e.members ∷ [])
      (values_of (in_order settings.producer xs)) (names_of (in_order settings.producer xs)) values names))

-- the enumeration of a key
unfoldable pub process_enumeration_tag : Table → ℕ → List ℤ → List ℕ → Outcomes (Said Enumeration) ℤ ℕ
process_enumeration_tag t key values names =
    in_rooms values names (row_of t key) (enumeration_into t.settings (table_rows t) values names)
