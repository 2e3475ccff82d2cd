-- The tests that every public call on a table makes first, in this order: 1 settings, 2 long, 3 table. Their place is 0.
use Rattle.std.specs.Prelude.{Result, ◌≡◌, length, ltb}
use Rattle.format.specs.declared.refusal.Refusal.{Refusal}
use Rattle.tables.specs.Table.{Table}
use Rattle.format.specs.Limits.{section_limit}
use Rattle.format.specs.Settings.{settings_hold}
use Rattle.format.specs.Said.{Said, said, must, ◌>>◌}
use Rattle.format.specs.declared.refusal.Reason.TheVariants as reason
use Rattle.tables.specs.Holds.{table_holds}

-- the three tests, in their order
unfoldable pub test_table : Table → Said Unit
test_table t = do
  must (settings_hold t.settings t.vendors t.sizes) reason.Settings 0
  must (ltb (length t.section) section_limit) reason.Long 0
  must (table_holds t.section t.vendors t.rows t.attrs t.counts) reason.Table 0

-- what the tests alone answer
pub record Tells (t : Table) (r : Result Unit Refusal) : Type 0 where
  pub told : said r ≡ test_table t
