-- Overlay branches (the Rust's `process_overlay_branch`): a name and a number by their roles, a first and a last address are needed. There is no
-- child test.
use Rattle.std.specs.Prelude.{ℕ, List}
use Rattle.tables.specs.Table.{Table}
use Rattle.format.specs.AttributeKind as attribute
use Rattle.format.specs.Said.{Said, gives, ◌>>=◌, ◌>>◌}
use Rattle.format.specs.declared.settings.Roles.{Roles}
use Rattle.format.specs.declared.settings.Settings.{Settings}
use Rattle.tables.specs.Keyed.{row_of}
use Rattle.records.specs.Scan.{run_of}
use Rattle.records.specs.Fields.{role_name, role_word, word_of, needed}
use Rattle.records.specs.Front.{head_of}
use Rattle.records.specs.declared.taken.Record.TheVariants as record'
use Rattle.records.specs.declared.scan.Run.{Run}
use Rattle.records.specs.declared.overlay_branch.OverlayBranch.{OverlayBranch}

-- what the row's attributes say of an overlay branch: name, number, first address, last address
unfoldable pub overlay_fields : List ℕ → List ℕ → Run → Roles → Said OverlayBranch
overlay_fields s attrs run roles = do
  text ← needed run.key (role_name s attrs run roles.overlay_name)
  id ← needed run.key (role_word s attrs run roles.overlay_id)
  start ← needed run.key (word_of s attrs run attribute.low_pc)
  end ← needed run.key (word_of s attrs run attribute.high_pc)
  gives (record {
    name = text;
    id = id;
    start_address = start;
    end_address = end;
    compile_unit = word_of s attrs run attribute.member;
  })

-- the overlay branch at row i
unfoldable pub overlay_at : Settings → List ℕ → List ℕ → List ℕ → ℕ → Said OverlayBranch
overlay_at settings s rows attrs i = do
  head_of settings s rows attrs record'.OverlayBranch i
  overlay_fields s attrs (run_of settings.endian rows i) settings.roles

-- the overlay branch of a key
unfoldable pub process_overlay_branch : Table → ℕ → Said OverlayBranch
process_overlay_branch t key = do
  i ← row_of t key
  overlay_at t.settings t.section t.rows t.attrs i
