-- Members (the Rust's `process_structure_member_tag`): a type and an offset are needed, and both bit attributes or neither.
use Rattle.std.specs.Prelude.{Option, Some, None, ℕ, List}
use Rattle.tables.specs.Table.{Table, Rows, table_rows}
use Rattle.format.specs.AttributeKind as attribute
use Rattle.format.specs.Said.{Said, gives, refuse, ◌>>=◌, ◌>>◌}
use Rattle.format.specs.declared.settings.Settings.{Settings}
use Rattle.format.specs.declared.refusal.Reason.TheVariants as reason
use Rattle.tables.specs.Keyed.{row_of}
use Rattle.records.specs.Scan.{run_of}
use Rattle.records.specs.Fields.{name_of, type_of, offset_field, word_of, visibility_of}
use Rattle.records.specs.Front.{front_of}
use Rattle.records.specs.declared.taken.Record.TheVariants as record'
use Rattle.records.specs.declared.scan.Run.{Run}
use Rattle.records.specs.declared.member.Bits.{Bits}
use Rattle.records.specs.declared.member.Member.{Member}

-- BitSize and BitOffset: one without the other is 15
unfoldable pub bits_by : ℕ → Option ℕ → Option ℕ → Said (Option Bits)
bits_by key (Some size) (Some offset) = gives (Some (record { size = size; offset = offset }))
bits_by key (Some size) None = refuse reason.Missing key
bits_by key None (Some offset) = refuse reason.Missing key
bits_by key None None = gives None

-- what the row's attributes say of a member: type, offset, bits, then what may be missing
unfoldable pub member_fields : List ℕ → List ℕ → Run → Said Member
member_fields s attrs run = do
  of ← type_of s attrs run
  offset ← offset_field s attrs run
  b ← bits_by run.key (word_of s attrs run attribute.bit_size) (word_of s attrs run attribute.bit_offset)
  gives (record {
    name = name_of s attrs run attribute.name;
    of = of;
    offset = offset;
    bits = b;
    visibility = visibility_of attrs run;
    byte_size = word_of s attrs run attribute.byte_size;
  })

-- the member at row i
unfoldable pub member_at : Settings → Rows → ℕ → Said Member
member_at settings t i = do
  front_of settings t record'.Member i
  member_fields t.section t.attrs (run_of settings.endian t.rows i)

-- the member of a key
unfoldable pub process_structure_member_tag : Table → ℕ → Said Member
process_structure_member_tag t key = do
  i ← row_of t key
  member_at t.settings (table_rows t) i
