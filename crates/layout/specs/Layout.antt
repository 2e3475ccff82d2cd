-- Layouts (document 01, 'Types, records, sizes'), for a structure or class: row number, size, and for each Member child in walk order its offset,
-- its size (ByteSize, else its type's) and its name, empty if none. All members are read whole before any size is taken; then member by member its
-- size, then its end, which is tested (20) only where the ends make the size, that is without ByteSize. The tests in their order: 1, 2, 3; of the
-- entry 11, 12; 9 and what its Member records refuse; member by member its size and end; 8.
use Rattle.std.specs.Prelude.{Option, Some, None}
use Rattle.std.specs.Prelude.{ℕ, ◌+◌, ◌/◌, Bool, true, false, cond, List, [], ◌∷◌, length, leb}
use Rattle.tables.specs.Table.{Table, Rows, table_rows}
use Rattle.lent.specs.Outcome.{Outcome}
use Rattle.format.specs.AttributeKind as attribute
use Rattle.format.specs.Said.{Said, gives, refusal, wanting, must, ◌>>=◌, ◌>>◌, in_room, fills_room}
use Rattle.format.specs.declared.settings.Settings.{Settings}
use Rattle.format.specs.declared.refusal.Reason.TheVariants as reason
use Rattle.blocks.specs.declared.types.Type.{«Type»}
use Rattle.tables.specs.Row.{row_at}
use Rattle.tables.specs.Keyed.{row_of}
use Rattle.records.specs.Scan.{run_of}
use Rattle.records.specs.Fields.{word_of}
use Rattle.records.specs.MemberWords.{name_place, name_length}
use Rattle.records.specs.Unions.{RowMember}
use Rattle.sizes.specs.Size.{inner_size, is_structure, with_end, member_size, members_of, shape_of}
use Rattle.layout.specs.declared.one.Layout.{Layout}

-- a member in a layout: offset, size, and its name's bytes in the section
pub record Laid : Type 0 where
  pub offset : ℕ
  pub size : ℕ
  pub place : ℕ
  pub length : ℕ

-- a structure laid out: its members, and their largest end, which is the size without ByteSize
pub record Lay : Type 0 where
  pub members : List Laid
  pub largest : ℕ

-- the same, in short
abbrev pub lay : List Laid → ℕ → Lay
lay members largest = record { members = members; largest = largest }

-- a member with its size; without a name, place and length are 0
unfoldable pub laid_member : RowMember → ℕ → Laid
laid_member m size =
    record { offset = m.member.offset; size = size; place = name_place m.member.name; length = name_length m.member.name }

-- the largest end so far; with a ByteSize (`sized`) no end is taken for a size, so none is tested
unfoldable pub end_or : Bool → ℕ → ℕ → ℕ → Said ℕ
end_or sized key largest end = cond sized (gives largest) (with_end key largest end)

module _ (rows : List ℕ) (size_of : «Type» → Said ℕ) (sized : Bool) where
  -- member by member: its size, which is taken with a ByteSize too, then its end
  unfoldable pub laid_from : ℕ → List RowMember → Said Lay
  laid_from largest [] = gives (lay [] largest)
  laid_from largest (m ∷ ms) = do
    size ← member_size size_of m
    next ← end_or sized (row_at rows m.row).key largest (m.member.offset + size)
    rest ← laid_from next ms
    gives (lay (laid_member m size ∷ rest.members) rest.largest)

-- there is a ByteSize
unfoldable pub has_byte_size : Option ℕ → Bool
has_byte_size (Some size) = true
has_byte_size None = false

-- ByteSize, or else the largest end
unfoldable pub size_or_largest : ℕ → (Option ℕ) → ℕ
size_or_largest largest (Some size) = size
size_or_largest largest None = largest

-- row i's ByteSize
unfoldable pub own_size : Settings → List ℕ → List ℕ → List ℕ → ℕ → (Option ℕ)
own_size settings s rows attrs i = word_of s attrs (run_of settings.endian rows i) attribute.byte_size

module _ (settings : Settings) (t : Rows) (size_of : «Type» → Said ℕ) (i : ℕ) where
  -- row i laid out: only a structure or a class has a layout, 12 at any other row; what its Member records refuse comes first, ByteSize or not
  unfoldable pub row_lay : Said Lay
  row_lay = do
    must (is_structure (shape_of (row_at t.rows i).kind)) reason.Kind (row_at t.rows i).key
    ms ← members_of settings t i
    laid_from t.rows size_of (has_byte_size (own_size settings t.section t.rows t.attrs i)) 0 ms

  -- its layout: row number, size, how many members
  unfoldable pub layout_of : Lay → Layout
  layout_of l =
      record {
        row = i;
        size = size_or_largest l.largest (own_size settings t.section t.rows t.attrs i);
        members = length l.members;
      }

  -- row i's layout; no room is looked at yet
  unfoldable pub layout_at : Said Layout
  layout_at = do
    l ← row_lay
    gives (layout_of l)

-- ---- into lent room: 8 last, with the count

-- four words for each member: offset, size, place and length of its name
unfoldable pub laid_words : List Laid → List ℕ
laid_words [] = []
laid_words (x ∷ xs) = x.offset ∷ x.size ∷ x.place ∷ x.length ∷ laid_words xs

-- so many words
abbrev pub laid_width : ℕ
laid_width = 4

module _ (settings : Settings) (t : Rows) (size_of : «Type» → Said ℕ) (room : List ℕ) where
  -- row i's layout and its members, if they fit
  unfoldable pub layout_into : ℕ → Outcome (Said Layout) ℕ
  layout_into i =
      in_room room (row_lay settings t size_of i)
      (λ l. fills_room (leb (length l.members) (length room / laid_width)) (layout_of settings t size_of i l) (length l.members ∷ [])
      (laid_words l.members) room)

-- the layout of a key's entry, which is depth 1: the entries that its members name are depth 2
unfoldable pub layout_of_key : Table → ℕ → List ℕ → Outcome (Said Layout) ℕ
layout_of_key t key room =
    in_room room (row_of t key) (layout_into t.settings (table_rows t) (inner_size t) room)
