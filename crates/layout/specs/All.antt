-- Every structure's and class's layout of a table, in file order, each as `Layout` has it for its key. One that is refused says so, and the rest go
-- on: only 1, 2, 3 and 8 refuse the call.
use Rattle.std.specs.Prelude.{Result, Ok, Err}
use Rattle.format.specs.declared.refusal.Unfilled.TheVariants.{Refused, Room}
use Rattle.format.specs.declared.refusal.Unfilled.{Unfilled}
use Rattle.std.specs.Prelude.{Option, Result, Ok}
use Rattle.std.specs.Prelude.{ℕ, zero, suc, ◌+◌, ◌/◌, Bool, cond, ◌&&◌, List, [], ◌∷◌, ◌++◌, length, leb}
use Rattle.tables.specs.Table.{Table, Rows, table_rows}
use Rattle.lent.specs.Outcome.{Outcomes}
use Rattle.format.specs.AttributeKind as attribute
use Rattle.format.specs.Said.{Said, gives, refuses, refusal, wanting, in_rooms, fills_rooms}
use Rattle.format.specs.declared.settings.Settings.{Settings}
use Rattle.blocks.specs.declared.types.Type.{«Type»}
use Rattle.tables.specs.Row.{row_at}
use Rattle.tables.specs.Tests.{test_table}
use Rattle.records.specs.Scan.{run_of}
use Rattle.records.specs.declared.fields.Text.{Text}
use Rattle.records.specs.Fields.{name_of}
use Rattle.records.specs.MemberWords.{name_place, name_length}
use Rattle.sizes.specs.Size.{inner_size, is_structure, shape_of}
use Rattle.layout.specs.Layout.{Laid, Lay, row_lay, layout_at, laid_words, laid_width}
use Rattle.layout.specs.declared.one.Layout.{Layout}
use Rattle.layout.specs.declared.all.LayoutCounts.{LayoutCounts}

-- what an answer says
unfoldable pub said_all_layouts : Result LayoutCounts (Unfilled LayoutCounts) → Said LayoutCounts
said_all_layouts (Ok counts) = gives counts
said_all_layouts (Err (Refused why)) = refusal why
said_all_layouts (Err (Room counts)) = wanting (counts.structures ∷ counts.members ∷ [])

-- a structure or class: its row and name, and how it is laid out, or why it is not
pub record Structure : Type 0 where
  pub row : ℕ
  pub name : (Option Text)
  pub answer : Said Layout
  pub members : List Laid

-- the members that were laid; none where it is refused
unfoldable pub laid_of : Said Lay → List Laid
laid_of (gives l) = l.members
laid_of (refuses number place counts) = []

-- a structure before the others, if it is to stand among them
unfoldable pub also_if : Bool → Structure → List Structure → List Structure
also_if kept x xs = cond kept (x ∷ xs) xs

module _ (settings : Settings) (t : Rows) (size_of : «Type» → Said ℕ) where
  -- what is said of row i; its name is its last, as a record's is
  unfoldable pub structure_at : ℕ → Structure
  structure_at i =
      record {
        row = i;
        name = name_of t.section t.attrs (run_of settings.endian t.rows i) attribute.name;
        answer = layout_at settings t size_of i;
        members = laid_of (row_lay settings t size_of i);
      }

  -- the structures and classes among so many t.rows from row i on
  unfoldable pub structures_from : ℕ → ℕ → List Structure
  structures_from i zero = []
  structures_from i (suc left) = also_if (is_structure (shape_of (row_at t.rows i).kind)) (structure_at i) (structures_from (suc i) left)

-- ---- into lent rooms: 8 last, with the counts

-- eight words for each: its row; 0, its size and 0, or a refusal's number, 0 and its place; the first of its members, and how many; its name's
-- bytes in the section
unfoldable pub answer_words : ℕ → (Option Text) → ℕ → Said Layout → List ℕ
answer_words row name first (gives x) = row ∷ 0 ∷ x.size ∷ 0 ∷ first ∷ x.members ∷ name_place name ∷ name_length name ∷ []
answer_words row name first (refuses number place counts) = row ∷ number ∷ 0 ∷ place ∷ first ∷ 0 ∷ name_place name ∷ name_length name ∷ []

-- so many words
abbrev pub structure_width : ℕ
structure_width = 8

-- structures one after the other; members are numbered through all of them, those of the first structure from `first` on
unfoldable pub structure_words : ℕ → List Structure → List ℕ
structure_words first [] = []
structure_words first (x ∷ xs) = answer_words x.row x.name first x.answer ++ structure_words (first + length x.members) xs

-- the members of all, one after the other, in the words of a single layout
unfoldable pub all_member_words : List Structure → List ℕ
all_member_words [] = []
all_member_words (x ∷ xs) = laid_words x.members ++ all_member_words xs

-- how many members all have together
unfoldable pub member_count : List Structure → ℕ
member_count [] = 0
member_count (x ∷ xs) = length x.members + member_count xs

-- the counts of the answer: structures, those that are refused too, and members
unfoldable pub counts_of : List Structure → LayoutCounts
counts_of xs = record { structures = length xs; members = member_count xs }

-- structures and members, if they fit
unfoldable pub layouts_into : List ℕ → List ℕ → List Structure → Outcomes (Said LayoutCounts) ℕ ℕ
layouts_into structures members xs =
    fills_rooms (leb (length xs) (length structures / structure_width) && leb (member_count xs) (length members / laid_width)) (counts_of xs)
    (length xs ∷ member_count xs ∷ []) (structure_words 0 xs) (all_member_words xs) structures members

-- all layouts of a table; each structure is depth 1: the entries that its members name are depth 2
unfoldable pub all_layouts : Table → List ℕ → List ℕ → Outcomes (Said LayoutCounts) ℕ ℕ
all_layouts t structures members =
    in_rooms structures members (test_table t)
    (λ passed. layouts_into structures members
    (structures_from t.settings (table_rows t) (inner_size t) 0 t.counts.rows))
