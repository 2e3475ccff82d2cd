-- The scan over a row's attributes, one for all records (document 01, 'Types, records, sizes' and its refusal numbers): attributes in their order,
-- each of which the record must take (13), and whose type or location must be one (17, 18). The first fault met counts; its place is the row's key.
use Rattle.std.specs.Prelude.{ℕ, zero, suc, ◌+◌, ◌%◌, Bool, cond, ◌||◌, List, eqb}
use Rattle.numbers.specs.declared.Endian.{Endian}
use Rattle.format.specs.AttributeKind.{location, fund_type, mod_fund_type, user_def_type, mod_ud_type}
use Rattle.format.specs.declared.settings.Roles.{Roles}
use Rattle.format.specs.Said.{Said, gives, must, ◌>>◌, placed}
use Rattle.format.specs.declared.refusal.Reason.TheVariants as reason
use Rattle.attributes.specs.Parts.{block_at}
use Rattle.blocks.specs.Location.{process_offset, process_address}
use Rattle.blocks.specs.Types.{process_type}
use Rattle.tables.specs.Row.{row_at, attr_at}
use Rattle.tables.specs.Row.{ends_of}
use Rattle.records.specs.Taken.{takes}
use Rattle.records.specs.declared.taken.Record.{Record}
use Rattle.records.specs.declared.taken.Record.TheVariants as record'
use Rattle.records.specs.declared.scan.Run.{Run}
use Rattle.records.specs.declared.scan.Attribute.{Attribute}

-- row i's attributes, its key, the endiannesses
unfoldable pub run_of : Endian → List ℕ → ℕ → Run
run_of e rows i = record { first = (row_at rows i).first; count = (row_at rows i).count; key = (row_at rows i).key; ends = ends_of e rows i }

-- attribute k of the table: a number has 16 bits, and in a table that was tested no word has more
unfoldable pub attribute_at : List ℕ → ℕ → Attribute
attribute_at attrs k = record { number = (attr_at attrs k).number % 65536; value = (attr_at attrs k).value }

-- ---- 17 and 18: what a type or a location says

-- one of the four type attributes
unfoldable pub is_type : ℕ → Bool
is_type number = eqb number fund_type || (eqb number mod_fund_type || (eqb number user_def_type || eqb number mod_ud_type))

-- a location is an address for a variable, an offset for all others
unfoldable pub location_of : Record → Endian → List ℕ → Said ℕ
location_of record'.Member e block = process_offset e block
location_of record'.Union e block = process_offset e block
location_of record'.Enumeration e block = process_offset e block
location_of record'.Typedef e block = process_offset e block
location_of record'.Variable e block = process_address e block
location_of record'.Label e block = process_offset e block
location_of record'.PtrToMember e block = process_offset e block
location_of record'.OverlayBranch e block = process_offset e block

-- what is wrong with it, placed at the row
unfoldable pub fault_of : {A : Type 0} → ℕ → Said A → Said Unit
fault_of key d = placed key d >> gives tt

-- what is wrong with the value of a type attribute or of a location; other values are not looked at here
unfoldable pub content_fault : Record → Run → List ℕ → Attribute → Said Unit
content_fault r run s a =
    cond (is_type a.number) (fault_of run.key (process_type run.ends s a.number a.value))
    (cond (eqb a.number location) (fault_of run.key (location_of r run.ends.section (block_at run.ends.«data» 2 s a.value))) (gives tt))

-- ---- an attribute, and all of them

-- 13 where the record does not take the attribute, then what the value says
unfoldable pub attribute_fault : Roles → Record → Run → List ℕ → Attribute → Said Unit
attribute_fault roles r run s a = do
  must (takes roles r a.number) reason.Extra run.key
  content_fault r run s a

-- the first fault among n attributes from number j of the run on
unfoldable pub faults_from : (ℕ → Said Unit) → ℕ → ℕ → Said Unit
faults_from fault j zero = gives tt
faults_from fault j (suc n) = fault j >> faults_from fault (suc j) n

module _ (roles : Roles) (r : Record) (run : Run) (s attrs : List ℕ) where
  -- attribute j of the run
  unfoldable pub fault_at : ℕ → Said Unit
  fault_at j = attribute_fault roles r run s (attribute_at attrs (run.first + j))

  -- the number of attribute j
  unfoldable pub number_at : ℕ → ℕ
  number_at j = (attribute_at attrs (run.first + j)).number
