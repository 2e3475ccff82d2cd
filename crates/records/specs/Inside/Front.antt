-- What a record that reads no attribute itself asks of its row.
use Rattle.std.specs.Prelude.{ℕ, List}
use Rattle.links.specs.Inside.Children.{Asked}
use Rattle.records.specs.Inside.Scan.{Plain}
use Rattle.records.specs.declared.taken.Record.{Record}

-- what a record without attributes of its own requires
pub record PlainAt (r : Record) (rows : List ℕ) (n i : ℕ) : Type 0 where
  pub plain : Plain r
  pub asked : Asked rows n i
