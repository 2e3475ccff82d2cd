-- How the code goes over an enumeration's attributes: up to the next list, again and again.
use Rattle.std.specs.Prelude.{Result, ℕ, ◌*◌, ◌≤◌, ◌<◌, ◌≡◌, List, length, ℤ}
use Rattle.format.specs.declared.refusal.Refusal.{Refusal}
use Rattle.format.specs.Said.{said}
use Rattle.tables.specs.Table.{lent_rows}
use Rattle.format.specs.Limits.{section_limit}
use Rattle.format.specs.Said.{Said, gives, ◌>>◌}
use Rattle.format.specs.declared.settings.Settings.{Settings}
use Rattle.links.specs.Inside.Children.{Asked}
use Rattle.links.specs.Links.{child_walk}
use Rattle.records.specs.Scan.{run_of, fault_at}
use Rattle.records.specs.Front.{childless_fault}
use Rattle.records.specs.Elements.{Listed}
use Rattle.records.specs.Inside.Elements.{store_values, store_names}
use Rattle.records.specs.Enumeration.{list_at, enumeration_sized}
use Rattle.records.specs.declared.taken.Record.TheVariants as record'
use Rattle.records.specs.declared.scan.Run.{Run}
use Rattle.records.specs.declared.elements.Slots.{Slots}
use Rattle.records.specs.declared.enumeration.Enumeration.{Enumeration}

-- so many elements before attribute j that no count overflows
pub record Countable (s : List ℕ) (j count : ℕ) : Type 0 where
  pub short : length s < section_limit
  pub few : count ≤ j * section_limit

-- a row of a table, and a section that is not too long
pub record AskedShort (s rows : List ℕ) (n i : ℕ) : Type 0 where
  pub asked : Asked rows n i
  pub short : length s < section_limit

-- ---- what is read

module _ (settings : Settings) (s attrs : List ℕ) (run : Run) where
  -- attribute j, a list
  unfoldable pub one_list : ℕ → Said (List Listed)
  one_list j = do
    fault_at settings.roles record'.Enumeration run s attrs j
    list_at s attrs run j

-- after the attributes: no children, then a ByteSize
unfoldable pub enumeration_end : Settings → List ℕ → List ℕ → List ℕ → ℕ → ℕ → ℕ → Said Enumeration
enumeration_end settings s rows attrs n i many = do
  childless_fault rows i (child_walk (lent_rows settings.endian s rows attrs n) i)
  enumeration_sized s attrs (run_of settings.endian rows i) many

-- the whole enumeration
pub record EnumerationStored (answer : Said Enumeration) (lists : Said (List Listed)) (slots : Slots) (r : Result Enumeration Refusal) (values values' : List ℤ) (names names' : List ℕ) : Type 0 where
  pub answer_is : said r ≡ answer
  pub values_are : (e : Enumeration) → answer ≡ gives e → (xs : List Listed) → lists ≡ gives xs → values' ≡ store_values slots 0 xs values
  pub names_are : (e : Enumeration) → answer ≡ gives e → (xs : List Listed) → lists ≡ gives xs → names' ≡ store_names slots 0 xs names
