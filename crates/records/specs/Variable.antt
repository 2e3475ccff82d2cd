-- Variables (the Rust's `process_variable_tag`): a type is needed; a Typedef row counts as a variable for MWCC.
use Rattle.std.specs.Prelude.{ℕ, Bool, List, eqb}
use Rattle.tables.specs.Table.{Table, Rows, table_rows}
use Rattle.format.specs.AttributeKind as attribute
use Rattle.format.specs.TagKind as tag
use Rattle.format.specs.Said.{Said, gives, ◌>>=◌, ◌>>◌}
use Rattle.format.specs.declared.settings.Settings.{Settings}
use Rattle.tables.specs.Row.{row_at}
use Rattle.tables.specs.Keyed.{row_of}
use Rattle.records.specs.Scan.{run_of}
use Rattle.records.specs.Fields.{name_of, role_name, type_of, address_field}
use Rattle.records.specs.Front.{front_of}
use Rattle.records.specs.declared.taken.Record.TheVariants as record'
use Rattle.records.specs.declared.scan.Run.{Run}
use Rattle.records.specs.declared.variable.Variable.{Variable}

-- what the row's attributes say of a variable: once its type is known, all else may be missing
unfoldable pub variable_fields : List ℕ → List ℕ → Run → ℕ → Bool → Said Variable
variable_fields s attrs run role local = do
  of ← type_of s attrs run
  gives (record {
    name = name_of s attrs run attribute.name;
    mangled_name = role_name s attrs run role;
    of = of;
    address = address_field s attrs run;
    local = local;
  })

-- the variable at row i; it is local if the row's kind says so
unfoldable pub variable_at : Settings → Rows → ℕ → Said Variable
variable_at settings t i = do
  front_of settings t record'.Variable i
  variable_fields t.section t.attrs (run_of settings.endian t.rows i) settings.roles.mangled
      (eqb (row_at t.rows i).kind tag.local_variable)

-- the variable of a key
unfoldable pub process_variable_tag : Table → ℕ → Said Variable
process_variable_tag t key = do
  i ← row_of t key
  variable_at t.settings (table_rows t) i
