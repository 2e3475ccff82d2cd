-- Settings, answers and tables as they cross to a program in Rust or C: numbers and slices. A number that stands for a choice always means one, so
-- crossing itself refuses nothing.
use Rattle.std.specs.Prelude.{ℕ, ◌^◌, ◌-◌, ◌≡◌, Bool, not, cond, List, [], ◌∷◌, get_or, eqb}
use Rattle.lent.specs.Outcome.{Outcome, Outcomes}
use Rattle.numbers.specs.declared.Endian.{Endian}
use Rattle.numbers.specs.declared.Endian.TheVariants.{Big, Little}
use Rattle.format.specs.Said.{Said, gives, refuses}
use Rattle.format.specs.declared.settings.Producer.{Producer}
use Rattle.format.specs.declared.settings.Producer.TheVariants.{Mwcc, Gcc, Other}
use Rattle.format.specs.declared.settings.Settings.{Settings}
use Rattle.tables.specs.declared.row.Counts.{Counts}
use Rattle.layout.specs.declared.one.Layout.{Layout}
use Rattle.layout.specs.declared.all.LayoutCounts.{LayoutCounts}
use Rattle.exports.specs.declared.told.Results.{Results}
use Rattle.exports.specs.declared.told.Told.{Told}

-- ---- settings

-- 0 is big-endian, any other number little-endian
unfoldable pub endian_from : ℕ → Endian
endian_from n = cond (eqb n 0) Big Little

-- 0 is off, any other number on
unfoldable pub erased_from : ℕ → Bool
erased_from n = not (eqb n 0)

-- 0 is MWCC, 1 is GCC, any other number another producer
unfoldable pub producer_from : ℕ → Producer
producer_from n = cond (eqb n 0) Mwcc (cond (eqb n 1) Gcc Other)

-- the settings: three choices, then the numbers of the four roles, 0 for absent; vendor list and sizes cross as slices
unfoldable pub settings_from : ℕ → ℕ → ℕ → ℕ → ℕ → ℕ → ℕ → Settings
settings_from endian erased producer global mangled name id =
    record {
      endian = endian_from endian;
      erased = erased_from erased;
      producer = producer_from producer;
      roles = record { global_ref = global; mangled = mangled; overlay_name = name; overlay_id = id };
    }

-- how many rows and attributes a lent table has
abbrev pub counts_from : ℕ → ℕ → Counts
counts_from rows attrs = record { rows = rows; attrs = attrs }

-- ---- answers: a number (0 for given, else the refusal's), a place (0 where nothing is refused), up to three results

-- up to three results, in short; 0 where a call has fewer
abbrev pub results : ℕ → ℕ → ℕ → Results
results a b c = record { first = a; second = b; third = c }

-- a number, a place and results
abbrev pub told_with : ℕ → ℕ → Results → Told
told_with number place r = record { number = number; place = place; first = r.first; second = r.second; third = r.third }

-- an answer as it crosses: `given` has the results of a value, `wanted` those of the counts that 8 needs; at any other refusal the results hold what
-- they held before
unfoldable pub crossed : {A : Type 0} → (A → Results) → (List ℕ → Results) → Results → Said A → Told
crossed given wanted held (gives x) = told_with 0 0 (given x)
crossed given wanted held (refuses number place []) = told_with number place held
crossed given wanted held (refuses number place (n ∷ more)) = told_with number place (wanted (n ∷ more))

-- the counts that are needed, in their order
unfoldable pub in_order : List ℕ → Results
in_order counts = results (get_or counts 0 0) (get_or counts 1 0) (get_or counts 2 0)

-- no byte is told: no place that reading comes to is that far
abbrev pub no_byte : ℕ
no_byte = 2 ^ 64 - 1

-- of counting and reading: rows and attributes, with 8 those that are needed, at any other refusal what they held before; and the byte that 4 to 6 tell
unfoldable pub counts_told : Results → Said Counts → Told
counts_told held (gives c) = told_with 0 0 (results c.rows c.attrs no_byte)
counts_told held (refuses number place []) = told_with number place (results held.first held.second no_byte)
counts_told held (refuses number place (byte ∷ [])) = told_with number place (results held.first held.second byte)
counts_told held (refuses number place (rows ∷ attrs ∷ more)) = told_with number place (results rows attrs no_byte)

-- of a size, an offset, and a listing's rows: the number itself
unfoldable pub number_told : Results → Said ℕ → Told
number_told held d = crossed (λ n. results n 0 0) in_order held d

-- of a layout: row, size and how many members; with 8 only how many members there are, and row and size hold what they held
unfoldable pub layout_told : Results → Said Layout → Told
layout_told held d =
    crossed (λ x. results x.row x.size x.members) (λ counts. results held.first held.second (get_or counts 0 0)) held d

-- of all layouts: how many structures and classes, and how many members
unfoldable pub layouts_told : Results → Said LayoutCounts → Told
layouts_told held d = crossed (λ c. results c.structures c.members 0) in_order held d

-- ---- what the functions hand back

-- a number, a place and one result that say what was told
pub record SaysOne (told : Told) (number place first : ℕ) : Type 0 where
  pub number_is : number ≡ told.number
  pub place_is : place ≡ told.place
  pub first_is : first ≡ told.first

-- the same with a second result
pub record SaysTwo (told : Told) (number place first second : ℕ) : Type 0 where
  pub says : SaysOne told number place first
  pub second_is : second ≡ told.second

-- and with a third
pub record SaysThree (told : Told) (number place first second third : ℕ) : Type 0 where
  pub says : SaysTwo told number place first second
  pub third_is : third ≡ told.third

-- what is handed back says what reading answered, from results that held this before; the lent tables hold what its outcome has
pub record SectionCrosses (held : Results) (o : Outcomes (Said Counts) ℕ ℕ) (number place rows attrs byte : ℕ)
    (rows_now attrs_now : List ℕ) : Type 0 where
  pub says : SaysThree (counts_told held o.answer) number place rows attrs byte
  pub row_table : rows_now ≡ o.first
  pub attr_table : attrs_now ≡ o.second

-- the same of the tree listing
pub record TreeCrosses (held : Results) (o : Outcome (Said ℕ) ℕ) (number place rows : ℕ) (room : List ℕ) : Type 0 where
  pub says : SaysOne (number_told held o.answer) number place rows
  pub room_is : room ≡ o.room

-- the same of a layout
pub record LayoutCrosses (held : Results) (o : Outcome (Said Layout) ℕ) (number place row size members : ℕ) (room : List ℕ) : Type 0 where
  pub says : SaysThree (layout_told held o.answer) number place row size members
  pub room_is : room ≡ o.room

-- the same of all layouts, with both lent rooms
pub record LayoutsCross (held : Results) (o : Outcomes (Said LayoutCounts) ℕ ℕ) (number place structures members : ℕ)
    (structures_now members_now : List ℕ) : Type 0 where
  pub says : SaysTwo (layouts_told held o.answer) number place structures members
  pub structure_room : structures_now ≡ o.first
  pub member_room : members_now ≡ o.second
