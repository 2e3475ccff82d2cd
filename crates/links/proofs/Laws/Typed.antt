-- What is known of the row of a key: the table was tested, and the row is there.
use Rattle.std.specs.Prelude.{Result, Ok}
use Rattle.format.specs.declared.refusal.Refusal.{Refusal}
use Rattle.format.specs.Said.{said}
use Prim.Native.Nat.{ℕ}
use mathlib.Core.Path.{◌≡◌}
use mathlib.Core.List.{List}
use Rattle.tables.specs.Table.{table}
use Rattle.format.specs.declared.settings.Settings.{Settings}
use Rattle.tables.specs.Holds.{TableHolds}
use Rattle.tables.proofs.Laws.Held.{held-rising, held-rows-few}
use Rattle.tables.specs.declared.row.Counts.{Counts}
use Rattle.tables.specs.Keyed.{row_of}
use Rattle.tables.proofs.Laws.Keyed.{keyed-held, keyed-there}
use Rattle.links.specs.Inside.Children.{Asked}
use Rattle.links.specs.Inside.Links.{AtRow}

module _ (settings : Settings) (vendors sizes s rows attrs : List ℕ) (counts : Counts) (key : ℕ) {told : Result ℕ Refusal}
    (is : said told ≡ row_of (table s settings vendors sizes rows attrs counts) key) {i : ℕ} (p : told ≡ Ok i) where
  pub keyed-asked : Asked rows counts.rows i
  keyed-asked =
      let holds : TableHolds s vendors rows attrs counts = keyed-held settings vendors sizes s rows attrs counts key is p in
      record {
        table = record { rising = held-rising holds; few = held-rows-few holds };
        there = keyed-there settings vendors sizes s rows attrs counts key is p;
      }

  pub keyed-at : AtRow rows counts.rows i
  keyed-at = record { rising = keyed-asked.table.rising; there = keyed-asked.there }
