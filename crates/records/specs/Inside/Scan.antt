-- How the scan over a row's attributes pauses: it stops at an attribute that the record reads itself.
use Rattle.std.specs.Prelude.{ℕ, zero, suc, ◌≡◌, false, cond, List}
use Rattle.format.specs.Said.{Said, gives, ◌>>◌}
use Rattle.format.specs.declared.settings.Roles.{Roles}
use Rattle.records.specs.Taken.{special}
use Rattle.records.specs.declared.taken.Record.{Record}
use Rattle.records.specs.declared.scan.Run.{Run}
use Rattle.records.specs.Scan.{fault_at, number_at}

module _ (roles : Roles) (r : Record) (run : Run) (s attrs : List ℕ) where
  -- n attributes from number j on, up to the next that the record reads itself
  unfoldable pub scan_from : ℕ → ℕ → Said ℕ
  scan_from j zero = gives j
  scan_from j (suc n) = cond (special r (number_at roles r run s attrs j)) (gives j) (fault_at roles r run s attrs j >> scan_from (suc j) n)

-- the record reads no attribute itself
pub record Plain (r : Record) : Type 0 where
  pub plain : (number : ℕ) → special r number ≡ false
