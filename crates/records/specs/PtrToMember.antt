-- Pointers to member (the Rust's `process_ptr_to_member_tag`): a type and a containing type are needed.
use Rattle.std.specs.Prelude.{ℕ, List}
use Rattle.tables.specs.Table.{Table, Rows, table_rows}
use Rattle.format.specs.AttributeKind as attribute
use Rattle.format.specs.Said.{Said, gives, ◌>>=◌, ◌>>◌}
use Rattle.format.specs.declared.settings.Settings.{Settings}
use Rattle.tables.specs.Keyed.{row_of}
use Rattle.records.specs.Scan.{run_of}
use Rattle.records.specs.Fields.{type_of, word_of, needed}
use Rattle.records.specs.Front.{front_of}
use Rattle.records.specs.declared.taken.Record.TheVariants as record'
use Rattle.records.specs.declared.scan.Run.{Run}
use Rattle.records.specs.declared.ptr_to_member.PtrToMember.{PtrToMember}

-- what the row's attributes say of a pointer to member: type, containing type
unfoldable pub ptr_fields : List ℕ → List ℕ → Run → Said PtrToMember
ptr_fields s attrs run = do
  of ← type_of s attrs run
  containing ← needed run.key (word_of s attrs run attribute.containing_type)
  gives (record { of = of; containing = containing })

-- the pointer to member at row i
unfoldable pub ptr_at : Settings → Rows → ℕ → Said PtrToMember
ptr_at settings t i = do
  front_of settings t record'.PtrToMember i
  ptr_fields t.section t.attrs (run_of settings.endian t.rows i)

-- the pointer to member of a key
unfoldable pub process_ptr_to_member_tag : Table → ℕ → Said PtrToMember
process_ptr_to_member_tag t key = do
  i ← row_of t key
  ptr_at t.settings (table_rows t) i
