-- Typedefs (document 01, 'Types, records, sizes'; the Rust's `process_typedef_tag`): attributes in their order; a specification fills what is
-- missing at that point, later attributes overwrite. Each specification is read whole. So many may be followed one after the other: 10 at the row
-- past the limit, cycles too.
use Rattle.std.specs.Prelude.{Option, Some, None, ℕ, zero, suc, ◌+◌, true, false, not, cond, List, eqb}
use Rattle.tables.specs.Table.{Table, Rows, table_rows}
use Rattle.numbers.specs.Value.{read_at}
use Rattle.format.specs.AttributeKind as attribute
use Rattle.format.specs.Limits.{specification_limit}
use Rattle.format.specs.Said.{Said, gives, refuse, must, ◌>>=◌, ◌>>◌, placed}
use Rattle.format.specs.declared.settings.Settings.{Settings}
use Rattle.format.specs.declared.refusal.Reason.TheVariants as reason
use Rattle.blocks.specs.Types.{process_type}
use Rattle.blocks.specs.declared.types.Type.{«Type»}
use Rattle.tables.specs.Row.{row_at}
use Rattle.tables.specs.Find.{row_of_key}
use Rattle.tables.specs.Keyed.{found_row, row_of}
use Rattle.links.specs.Links.{child_walk}
use Rattle.records.specs.Taken.{special}
use Rattle.records.specs.Scan.{run_of, attribute_at, number_at, fault_at, is_type}
use Rattle.records.specs.Fields.{text_of, needed}
use Rattle.records.specs.Front.{kind_fault, childless_fault}
use Rattle.records.specs.declared.taken.Record.TheVariants as record'
use Rattle.records.specs.declared.scan.Run.{Run}
use Rattle.records.specs.declared.scan.Attribute.{Attribute}
use Rattle.records.specs.declared.fields.Text.{Text}
use Rattle.records.specs.declared.typedef.Typedef.{Typedef}

-- ---- what is known at some point

-- a type, if there is one yet
pub data Held : Type 0 where
  nothing : Held
  holds : Said «Type» → Held

-- a name and a type, if there are any yet
pub record SoFar : Type 0 where
  pub name : Option Text
  pub of : Held

-- nothing is known yet
unfoldable pub nothing_yet : SoFar
nothing_yet = record { name = None; of = nothing }

-- a specification fills a name that is missing
unfoldable pub name_filled : Option Text → Text → Option Text
name_filled (Some text) other = Some text
name_filled None other = Some other

-- and a type
unfoldable pub type_filled : Held → «Type» → Held
type_filled (holds t) other = holds t
type_filled nothing other = holds (gives other)

-- what a specification fills
unfoldable pub filled_in : SoFar → Typedef → SoFar
filled_in known t = record { name = name_filled known.name t.name; of = type_filled known.of t.of }

-- an attribute overwrites what it says: a name, a type, or nothing of both
unfoldable pub overwritten : List ℕ → Run → Attribute → SoFar → SoFar
overwritten s run a known =
    record {
      name = cond (eqb a.number attribute.name) (Some (text_of s a.value)) known.name;
      of = cond (is_type a.number) (holds (placed run.key (process_type run.ends s a.number a.value))) known.of;
    }

-- a type that is needed: 15 without
unfoldable pub type_needed : ℕ → Held → Said «Type»
type_needed key (holds t) = t
type_needed key nothing = refuse reason.Missing key

-- name first, then type
unfoldable pub typedef_fields : ℕ → SoFar → Said Typedef
typedef_fields key known = do
  text ← needed key known.name
  of ← type_needed key known.of
  gives (record { name = text; of = of })

-- ---- specifications

module _ (settings : Settings) (rows : List ℕ) (n : ℕ) where
  -- the row that a specification names, `levels` more being allowed: it must be there (11), not past the limit (10), and a typedef's (12)
  unfoldable pub specified_by : ℕ → ℕ → Said ℕ
  specified_by levels key = do
    r ← found_row key (row_of_key rows n key)
    must (not (eqb levels 0)) reason.Depth key
    kind_fault settings rows record'.Typedef r
    gives r

module _ (settings : Settings) (t : Rows) where
  -- attribute j of the run, a specification
  unfoldable pub specified : Run → ℕ → ℕ → Said ℕ
  specified run levels j = do
    fault_at settings.roles record'.Typedef run t.section t.attrs j
    read_at (specified_by settings t.rows t.count levels) (refuse reason.Block run.key) run.ends.section 4 t.section
        (attribute_at t.attrs (run.first + j)).value

  -- ---- the attributes in their order

  -- after the attributes: no children, then name and type
  unfoldable pub typedef_end : ℕ → SoFar → Said Typedef
  typedef_end i known = do
    childless_fault t.rows i (child_walk t i)
    typedef_fields (row_at t.rows i).key known

  -- m attributes of row i's run from number j on; `below` reads the typedef that a specification names
  unfoldable pub attributes_from : (ℕ → Said Typedef) → ℕ → ℕ → Run → ℕ → ℕ → SoFar → Said Typedef
  attributes_from below levels i run j zero known = typedef_end i known
  attributes_from below levels i run j (suc m) known =
      elim (special record'.Typedef (number_at settings.roles record'.Typedef run t.section t.attrs j)) [
        | true ↦ do
          r ← specified run levels j
          typedef ← below r
          attributes_from below levels i run (suc j) m (filled_in known typedef)
        | false ↦ do
          fault_at settings.roles record'.Typedef run t.section t.attrs j
          attributes_from below levels i run (suc j) m (overwritten t.section run (attribute_at t.attrs (run.first + j)) known)
      ]

  -- the typedef at row i, a typedef's row, where so many specifications may still be followed
  unfoldable pub typedef_run : ℕ → ℕ → Said Typedef
  typedef_run zero i =
      attributes_from (λ r. refuse reason.Depth (row_at t.rows r).key) zero i (run_of settings.endian t.rows i) 0
      (run_of settings.endian t.rows i).count
      nothing_yet
  typedef_run (suc levels) i =
      attributes_from (typedef_run levels) (suc levels) i (run_of settings.endian t.rows i) 0
      (run_of settings.endian t.rows i).count
      nothing_yet

  -- the typedef at row i
  unfoldable pub typedef_at : ℕ → Said Typedef
  typedef_at i = do
    kind_fault settings t.rows record'.Typedef i
    typedef_run specification_limit i

-- the typedef of a key
unfoldable pub process_typedef_tag : Table → ℕ → Said Typedef
process_typedef_tag t key = do
  i ← row_of t key
  typedef_at t.settings (table_rows t) i
