-- Labels (the Rust's `process_subroutine_label_tag`): a name and an address are needed.
use Rattle.std.specs.Prelude.{ℕ, List}
use Rattle.tables.specs.Table.{Table, Rows, table_rows}
use Rattle.format.specs.AttributeKind as attribute
use Rattle.format.specs.Said.{Said, gives, ◌>>=◌, ◌>>◌}
use Rattle.format.specs.declared.settings.Settings.{Settings}
use Rattle.tables.specs.Keyed.{row_of}
use Rattle.records.specs.Scan.{run_of}
use Rattle.records.specs.Fields.{name_of, word_of, needed}
use Rattle.records.specs.Front.{front_of}
use Rattle.records.specs.declared.taken.Record.TheVariants as record'
use Rattle.records.specs.declared.scan.Run.{Run}
use Rattle.records.specs.declared.label.Label.{Label}

-- what the row's attributes say of a label: a name, then an address
unfoldable pub label_fields : List ℕ → List ℕ → Run → Said Label
label_fields s attrs run = do
  text ← needed run.key (name_of s attrs run attribute.name)
  address ← needed run.key (word_of s attrs run attribute.low_pc)
  gives (record { name = text; address = address })

-- the label at row i
unfoldable pub label_at : Settings → Rows → ℕ → Said Label
label_at settings t i = do
  front_of settings t record'.Label i
  label_fields t.section t.attrs (run_of settings.endian t.rows i)

-- the label of a key
unfoldable pub process_subroutine_label_tag : Table → ℕ → Said Label
process_subroutine_label_tag t key = do
  i ← row_of t key
  label_at t.settings (table_rows t) i
