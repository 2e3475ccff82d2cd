-- What is kept of each row for calls that take many sizes: three answers, in the words of noted sizes. Nothing is said of a list that is empty: then nothing is
-- kept.
use Rattle.std.specs.Prelude.{ℕ, ◌+◌, ◌*◌, ◌≤◌, ◌<◌, ◌≡◌, true, false, cond, List, length, eqb}
use Rattle.numbers.specs.declared.Endian.{Endian}
use Rattle.format.specs.TagKind as tag
use Rattle.format.specs.Said.{Said, gives, refuses, refuse, ◌>>=◌, ◌>>◌}
use Rattle.format.specs.declared.settings.Settings.{Settings}
use Rattle.format.specs.declared.refusal.Reason.TheVariants as reason
use Rattle.tables.specs.Table.{lent_rows}
use Rattle.tables.specs.Row.{row_at}
use Rattle.tables.specs.Find.{row_of_key}
use Rattle.tables.specs.Keyed.{found_row}
use Rattle.links.specs.Links.{sibling_row}
use Rattle.links.specs.Inside.Links.{RowsHold}
use Rattle.links.specs.Inside.Children.{Asked}
use Rattle.records.specs.Inside.Enumeration.{AskedShort}
use Rattle.records.specs.Member.{member_at}
use Rattle.records.specs.declared.member.Member.{Member}
use Rattle.sizes.specs.Size.{type_size_by, size_or, shape_of, is_structure}
use Rattle.sizes.specs.Inside.Noted.{noted_at}
use Rattle.sizes.specs.Inside.Prepare.{structure_fault}
use Rattle.sizes.specs.Inside.Size.{Extent, with_size}

-- the words of a row
abbrev pub kept_width : ℕ
kept_width = 9

-- ---- a member: its offset, or why it is refused; its size, or the row of the entry that has it

-- the row of the entry that has a key, told as 10 at it; 11 where there is none
unfoldable pub row_named : List ℕ → ℕ → ℕ → Said ℕ
row_named rows n key = found_row key (row_of_key rows n key) >>= λ i. refuse reason.Depth i

-- a member's size, or the row of the entry that has it
unfoldable pub size_named : List ℕ → List ℕ → ℕ → Member → Said ℕ
size_named sizes rows n m = size_or (type_size_by sizes (row_named rows n)) m.of m.byte_size

-- the first answer: the offset
unfoldable pub first_of : Said Member → Said ℕ
first_of d = do
  m ← d
  gives m.offset

-- the second: the size
unfoldable pub second_of : List ℕ → List ℕ → ℕ → Said Member → Said ℕ
second_of sizes rows n (gives m) = size_named sizes rows n m
second_of sizes rows n (refuses number place counts) = gives 0

-- and back, with noted sizes
unfoldable pub size_kept : List ℕ → Said ℕ → Said ℕ
size_kept noted (gives size) = gives size
size_kept noted (refuses number place counts) = cond (eqb number 10) (noted_at noted place) (refuses number place counts)

-- both answers together
unfoldable pub added_by : List ℕ → Said ℕ → Said ℕ → Said Extent
added_by noted first second = do
  offset ← first
  with_size offset (size_kept noted second)

-- those that are kept of row c
unfoldable pub added_kept : List ℕ → List ℕ → ℕ → Said Extent
added_kept noted kept c = added_by noted (noted_at kept (c * 3)) (noted_at kept (c * 3 + 1))

-- ---- a fault, a structure's or a member's

-- as a size
unfoldable pub fault_size : Said Unit → Said ℕ
fault_size d = d >> gives 0

-- and back
unfoldable pub size_fault : Said ℕ → Said Unit
size_fault d = d >> gives tt

-- the one that is kept of row c
unfoldable pub fault_kept : List ℕ → ℕ → Said Unit
fault_kept kept c = size_fault (noted_at kept (c * 3))

-- ---- what is kept of all rows

pub record SiblingsKept (e : Endian) (s rows attrs : List ℕ) (n : ℕ) (kept : List ℕ) : Type 0 where
  pub sibling : (c : ℕ) → c < n → 0 < length kept → noted_at kept (c * 3 + 2) ≡ gives (sibling_row (lent_rows e s rows attrs n) c)

module _ (settings : Settings) (s rows attrs : List ℕ) (n : ℕ) (kept : List ℕ) where
  -- siblings, and members' faults
  pub record FaultsKept : Type 0 where
    pub siblings : SiblingsKept settings.endian s rows attrs n kept
    pub first : (c : ℕ) → c < n → 0 < length kept → (row_at rows c).kind ≡ tag.member
        → noted_at kept (c * 3) ≡ first_of (member_at settings (lent_rows settings.endian s rows attrs n) c)

  -- and structures' faults
  pub record RowsKept : Type 0 where
    pub faults : FaultsKept
    pub structure : (i : ℕ) → i < n → 0 < length kept → is_structure (shape_of (row_at rows i).kind) ≡ true
        → noted_at kept (i * 3) ≡ fault_size (structure_fault settings s rows attrs n i)

module _ (settings : Settings) (sizes s rows attrs : List ℕ) (n : ℕ) (kept : List ℕ) where
  abbrev pub SecondKept : ℕ → Type 0
  SecondKept k =
      (c : ℕ) → c < k → 0 < length kept → (row_at rows c).kind ≡ tag.member
      → noted_at kept (c * 3 + 1) ≡ second_of sizes rows n (member_at settings (lent_rows settings.endian s rows attrs n) c)

  -- siblings and members
  pub record MembersKept : Type 0 where
    pub faults : FaultsKept settings s rows attrs n kept
    pub second : SecondKept n

  -- siblings, members and structures' faults
  pub record PartsKept : Type 0 where
    pub rows_kept : RowsKept settings s rows attrs n kept
    pub second : SecondKept n

-- where anything is kept, sizes are noted
pub record AllKept (settings : Settings) (sizes s rows attrs : List ℕ) (n : ℕ) (noted kept : List ℕ) : Type 0 where
  pub parts : PartsKept settings sizes s rows attrs n kept
  pub paired : (i : ℕ) → i < n → 0 < length kept → 0 < length noted

-- ---- what is asked for

pub record StructureAsked (settings : Settings) (s rows attrs : List ℕ) (n : ℕ) (kept : List ℕ) (i : ℕ) : Type 0 where
  pub asked : Asked rows n i
  pub structure : is_structure (shape_of (row_at rows i).kind) ≡ true
  pub kept_rows : RowsKept settings s rows attrs n kept

pub record MemberAsked (settings : Settings) (sizes s rows attrs : List ℕ) (n : ℕ) (noted kept : List ℕ) (c : ℕ) : Type 0 where
  pub asked : AskedShort s rows n c
  pub is_member : (row_at rows c).kind ≡ tag.member
  pub all_kept : AllKept settings sizes s rows attrs n noted kept

pub record LayoutAsked (settings : Settings) (sizes s rows attrs : List ℕ) (n : ℕ) (noted kept : List ℕ) (i : ℕ) : Type 0 where
  pub asked : AskedShort s rows n i
  pub structure : is_structure (shape_of (row_at rows i).kind) ≡ true
  pub all_kept : AllKept settings sizes s rows attrs n noted kept

-- ---- keeping

-- a table that was tested, and room for all rows
pub record KeepAsked (rows : List ℕ) (n : ℕ) (kept : List ℕ) : Type 0 where
  pub table : RowsHold rows n
  pub fits : n * kept_width ≤ length kept

pub record FaultAsked (settings : Settings) (s rows attrs : List ℕ) (n : ℕ) (kept : List ℕ) : Type 0 where
  pub fits : n * kept_width ≤ length kept
  pub faults : FaultsKept settings s rows attrs n kept

-- two answers about row c, all others as before
pub record PutTwo (c : ℕ) (first second : Said ℕ) (kept kept' : List ℕ) : Type 0 where
  pub first_is : noted_at kept' (c * 3) ≡ first
  pub second_is : noted_at kept' (c * 3 + 1) ≡ second
  pub others : (j : ℕ) → (j ≡ c * 3 → ⊥) → (j ≡ c * 3 + 1 → ⊥) → noted_at kept' j ≡ noted_at kept j
  pub same_long : length kept' ≡ length kept

-- row c, those before it as before
pub record PutRow (settings : Settings) (sizes s rows attrs : List ℕ) (n c : ℕ) (kept kept' : List ℕ) : Type 0 where
  pub sibling_is : noted_at kept' (c * 3 + 2) ≡ gives (sibling_row (lent_rows settings.endian s rows attrs n) c)
  pub first_is : (row_at rows c).kind ≡ tag.member → noted_at kept' (c * 3) ≡ first_of (member_at settings (lent_rows settings.endian s rows attrs n) c)
  pub second_is : (row_at rows c).kind ≡ tag.member
      → noted_at kept' (c * 3 + 1) ≡ second_of sizes rows n (member_at settings (lent_rows settings.endian s rows attrs n) c)
  pub before : (j : ℕ) → j < c * 3 → noted_at kept' j ≡ noted_at kept j
  pub same_long : length kept' ≡ length kept

-- row i's fault, if it is a structure; a row that is none stays as it was
pub record PutFault (settings : Settings) (s rows attrs : List ℕ) (n i : ℕ) (kept kept' : List ℕ) : Type 0 where
  pub fault_is : is_structure (shape_of (row_at rows i).kind) ≡ true → noted_at kept' (i * 3) ≡ fault_size (structure_fault settings s rows attrs n i)
  pub none : is_structure (shape_of (row_at rows i).kind) ≡ false → kept' ≡ kept
  pub others : (j : ℕ) → (j ≡ i * 3 → ⊥) → noted_at kept' j ≡ noted_at kept j
  pub same_long : length kept' ≡ length kept
