-- For each way that the code tests; and what holds where all three passed.
use Rattle.std.specs.Prelude.{Result, Ok, Err}
use Rattle.format.specs.declared.refusal.Refusal.{Refusal}
use Prim.Native.Nat.{ℕ, ◌≤◌, ◌<◌}
use mathlib.Core.Path.{◌≡◌, sym, ap, ◌∙◌}
use mathlib.Core.Bool.{true, false}
use mathlib.Core.List.{List}
use lib.ListN.{length}
use lib.Dec.{ltb}
use borrow.Author.Tests.{lt-ltb, le-ltb, ltb-true}
use Rattle.tables.specs.Table.{Table, table}
use Rattle.format.specs.Limits.{section_limit}
use Rattle.format.specs.Settings.{settings_hold}
use Rattle.format.specs.declared.settings.Settings.{Settings}
use Rattle.format.specs.declared.refusal.Reason.TheVariants as reason
use Rattle.tables.specs.Holds.{table_holds, TableHolds}
use Rattle.format.specs.Said.{said, gives, must, ◌>>◌}
use Rattle.format.proofs.Laws.Said.{case-said, must-gave, last-gave}
use Rattle.tables.specs.Tests.{test_table, Tells}
use Rattle.tables.specs.Inside.Keyed.{refused_at}
use Rattle.tables.specs.declared.row.Counts.{Counts}

-- ---- the three tests passed

pub record Holding (t : Table) : Type 0 where
  pub settings_held : settings_hold t.settings t.vendors t.sizes ≡ true
  pub section_short : ltb (length t.section) section_limit ≡ true
  pub table_held : table_holds t.section t.vendors t.rows t.attrs t.counts ≡ true

pub tests-hold : (t : Table) → test_table t ≡ gives tt → Holding t
unfolding test_table
tests-hold t p =
    let first = must-gave (settings_hold t.settings t.vendors t.sizes) reason.Settings 0 _ p in
    let second = must-gave (ltb (length t.section) section_limit) reason.Long 0 _ first.1 in
    record { settings_held = first.0; section_short = second.0; table_held = last-gave _ reason.Table 0 second.1 }

-- ---- what passed holds

module _ {settings : Settings} {vendors sizes s rows attrs : List ℕ} {counts : Counts} {r : Result Unit Refusal} where
  passed-holds : Tells (table s settings vendors sizes rows attrs counts) r → r ≡ Ok tt → Holding (table s settings vendors sizes rows attrs counts)
  unfolding said
  passed-holds is p = tests-hold (table s settings vendors sizes rows attrs counts) (sym (case-said said is.told p))

  pub passed-held : Tells (table s settings vendors sizes rows attrs counts) r → r ≡ Ok tt → TableHolds s vendors rows attrs counts
  passed-held is p = record { holds = (passed-holds is p).table_held }

  pub passed-short : Tells (table s settings vendors sizes rows attrs counts) r → r ≡ Ok tt → length s < section_limit
  passed-short is p = ltb-true (length s) section_limit (passed-holds is p).section_short

-- ---- the ways through the code

module _ (t : Table) {r : Result Unit Refusal} where
  pub settings-fail : settings_hold t.settings t.vendors t.sizes ≡ false → r ≡ Err (refused_at 0 reason.Settings) → Tells t r
  unfolding test_table must ◌>>◌ said
  settings-fail h e = record { told = ap said e ∙ rw h }

  pub section-long : settings_hold t.settings t.vendors t.sizes ≡ true → section_limit ≤ length t.section → r ≡ Err (refused_at 0 reason.Long) → Tells t r
  unfolding test_table must ◌>>◌ said
  section-long h k e = record { told = ap said e ∙ rw (h, le-ltb (length t.section) section_limit k) }

  pub table-fails : settings_hold t.settings t.vendors t.sizes ≡ true → length t.section < section_limit
      → table_holds t.section t.vendors t.rows t.attrs t.counts ≡ false → r ≡ Err (refused_at 0 reason.Table) → Tells t r
  unfolding test_table must ◌>>◌ said
  table-fails h k q e = record { told = ap said e ∙ rw (h, lt-ltb (length t.section) section_limit k, q) }

  pub all_pass : settings_hold t.settings t.vendors t.sizes ≡ true → length t.section < section_limit
      → table_holds t.section t.vendors t.rows t.attrs t.counts ≡ true → r ≡ Ok tt → Tells t r
  unfolding test_table must ◌>>◌ said
  all_pass h k q e = record { told = ap said e ∙ rw (h, lt-ltb (length t.section) section_limit k, q) }
