-- What follows from `Keyed`: for each way that the code comes to a row, and what is known of a row that was found.
use Rattle.std.specs.Prelude.{Option, Some, None, Result, Ok}
use Rattle.format.specs.declared.refusal.Refusal.{Refusal}
use Prim.Native.Nat.{ℕ, ◌<◌}
use mathlib.Core.Path.{◌≡◌, sym, ap, ◌∙◌}
use mathlib.Core.List.{List}
use lib.ListN.{length}
use borrow.Author.Tests.{ltb-true}
use Rattle.format.specs.Limits.{section_limit}
use Rattle.format.specs.Said.{said, gives}
use Rattle.format.proofs.Laws.Said.{case-said, given_is, given-refused, tests-gave}
use Rattle.format.specs.declared.settings.Settings.{Settings}
use Rattle.tables.specs.Table.{Table, table}
use Rattle.tables.specs.Row.{row_at}
use Rattle.tables.specs.Find.{row_of_key}
use Rattle.tables.proofs.Laws.Find.{row-found}
use Rattle.tables.specs.Holds.{TableHolds}
use Rattle.tables.specs.Tests.{test_table}
use Rattle.tables.proofs.Laws.Tests.{Holding, tests-hold}
use Rattle.tables.specs.Keyed.{found_row, row_of}
use Rattle.tables.specs.declared.row.Counts.{Counts}

-- ---- the row of a key

pub key-found : (key : ℕ) {found f : Option ℕ} → found ≡ f → {i : ℕ} → found ≡ Some i → said (Ok i) ≡ found_row key f
unfolding found_row said
key-found key is p = ap (found_row key) (sym p ∙ is)

-- ---- what is known of a row that was found

found-gave : (key : ℕ) (f : Option ℕ) {i : ℕ} → found_row key f ≡ gives i → f ≡ Some i
unfolding found_row
found-gave key (Some j) p = ap Some (given_is p)
found-gave key None p = absurd (given-refused (sym p))

-- the tests passed, and the row was found in the table
row-gave : (t : Table) (key : ℕ) {i : ℕ} → row_of t key ≡ gives i → Holding t × (row_of_key t.rows t.counts.rows key ≡ Some i)
unfolding row_of
row-gave t key p =
    let both = tests-gave (test_table t) (found_row key (row_of_key t.rows t.counts.rows key)) p in
    (tests-hold t both.0, found-gave key (row_of_key t.rows t.counts.rows key) both.1)

module _ (settings : Settings) (vendors sizes s rows attrs : List ℕ) (counts : Counts) (key : ℕ) {told : Result ℕ Refusal}
    (is : said told ≡ row_of (table s settings vendors sizes rows attrs counts) key) {i : ℕ} (p : told ≡ Ok i) where
  told-known : Holding (table s settings vendors sizes rows attrs counts) × (row_of_key rows counts.rows key ≡ Some i)
  unfolding said
  told-known = row-gave (table s settings vendors sizes rows attrs counts) key (sym (case-said said is p))

  pub keyed-held : TableHolds s vendors rows attrs counts
  keyed-held = record { holds = told-known.0.table_held }

  pub keyed-short : length s < section_limit
  keyed-short = ltb-true (length s) section_limit told-known.0.section_short

  pub keyed-there : i < counts.rows
  keyed-there = (row-found rows counts.rows key told-known.1).0

  pub keyed-key : (row_at rows i).key ≡ key
  keyed-key = (row-found rows counts.rows key told-known.1).1
