-- How the layouts of all structures are given: row by row, counted first.
use Rattle.std.specs.Prelude.{Option}
use Rattle.std.specs.Prelude.{ℕ, ◌+◌, ◌*◌, ◌^◌, ◌≤◌, ◌<◌, ◌≡◌, true, List, [], ◌∷◌, length}
use Rattle.std.proofs.lemmas.List.Edits.{sets}
use Rattle.format.specs.Limits.{entry_limit}
use Rattle.format.specs.Said.{Said, gives, ◌>>=◌}
use Rattle.format.specs.declared.settings.Settings.{Settings}
use Rattle.blocks.specs.declared.types.Type.{«Type»}
use Rattle.tables.specs.Table.{lent_rows}
use Rattle.tables.specs.Row.{row_at}
use Rattle.records.specs.Inside.Enumeration.{AskedShort}
use Rattle.records.specs.declared.fields.Text.{Text}
use Rattle.records.specs.MemberWords.{name_place, name_length}
use Rattle.sizes.specs.Size.{shape_of}
use Rattle.sizes.specs.Inside.Size.{TableReady}
use Rattle.sizes.specs.Inside.Noted.{noted_width, noted_at}
use Rattle.layout.specs.Layout.{layout_at, laid_width}
use Rattle.sizes.specs.Size.{is_structure}
use Rattle.layout.specs.All.{Structure, also_if, structure_at, structures_from, counts_of, structure_words, structure_width, all_member_words, member_count}
use Rattle.layout.specs.declared.one.Layout.{Layout}
use Rattle.layout.specs.declared.all.LayoutCounts.{LayoutCounts}

-- row i, if it is a structure
unfoldable pub row_structures : Settings → List ℕ → List ℕ → List ℕ → ℕ → («Type» → Said ℕ) → ℕ → List Structure
row_structures settings s rows attrs n size_of i = also_if (is_structure (shape_of (row_at rows i).kind)) (structure_at settings (lent_rows settings.endian s rows attrs n) size_of i) []

unfoldable pub eight_words : ℕ → ℕ → ℕ → ℕ → ℕ → ℕ → (Option Text) → List ℕ
eight_words row number size place first many name = row ∷ number ∷ size ∷ place ∷ first ∷ many ∷ name_place name ∷ name_length name ∷ []

-- ---- counting

-- one structure more, with so many members
unfoldable pub counted_on : LayoutCounts → ℕ → LayoutCounts
counted_on counts many = record { structures = counts.structures + 1; members = counts.members + many }

unfoldable pub counted_with : LayoutCounts → List Structure → LayoutCounts
counted_with counts xs = record { structures = counts.structures + length xs; members = counts.members + member_count xs }

pub record OneMore (counts : LayoutCounts) (many : ℕ) : Type 0 where
  pub structures_small : counts.structures + 1 < 2 ^ 64
  pub members_small : counts.members + many < 2 ^ 64

-- what was counted before row i: at most one structure for each row, and in each at most as many members as there can be rows
pub record CountAsked (s rows : List ℕ) (n i : ℕ) (counts : LayoutCounts) : Type 0 where
  pub asked : AskedShort s rows n i
  pub few_structures : counts.structures ≤ i
  pub few_members : counts.members ≤ i * entry_limit

-- what a layout tells: its size, or its refusal
unfoldable pub whole_told : Said Layout → Said ℕ
whole_told d = do
  x ← d
  gives x.size

module _ (settings : Settings) (s rows attrs : List ℕ) (n : ℕ) (size_of : «Type» → Said ℕ) where
  -- the structures among the first k of n rows have told
  pub record WholesTold (k : ℕ) (told : List ℕ) : Type 0 where
    pub fits : n * noted_width ≤ length told
    pub each : (i : ℕ) → i < k → is_structure (shape_of (row_at rows i).kind) ≡ true → noted_at told i ≡ whole_told (layout_at settings (lent_rows settings.endian s rows attrs n) size_of i)

  -- row i is counted and has told, what others told is as before
  pub record RowCounted (i : ℕ) (counts counts' : LayoutCounts) (told told' : List ℕ) : Type 0 where
    pub counts_are : counts' ≡ counted_with counts (row_structures settings s rows attrs n size_of i)
    pub told_is : is_structure (shape_of (row_at rows i).kind) ≡ true → noted_at told' i ≡ whole_told (layout_at settings (lent_rows settings.endian s rows attrs n) size_of i)
    pub others : (j : ℕ) → (j ≡ i → ⊥) → noted_at told' j ≡ noted_at told j
    pub same_long : length told' ≡ length told

  pub record AllCounted (counts : LayoutCounts) (told : List ℕ) : Type 0 where
    pub counts_are : counts ≡ counts_of (structures_from settings (lent_rows settings.endian s rows attrs n) size_of 0 n)
    pub all_told : WholesTold n told

-- ---- giving

-- the members' room goes on from those that are given
pub record PutAsked (s rows : List ℕ) (n i : ℕ) (counts : LayoutCounts) (members : List ℕ) : Type 0 where
  pub counted : CountAsked s rows n i counts
  pub begins : counts.members * laid_width ≤ length members

pub record Puts (xs : List Structure) (counts counts' : LayoutCounts) (structures structures' members members' : List ℕ) : Type 0 where
  pub counts_are : counts' ≡ counted_with counts xs
  pub structures_are : structures' ≡ sets structures (counts.structures * structure_width) (structure_words counts.members xs)
  pub members_are : members' ≡ sets members (counts.members * laid_width) (all_member_words xs)

-- room for all members
pub record PutsAsked (s rows : List ℕ) (n : ℕ) (xs : List Structure) (members : List ℕ) : Type 0 where
  pub ready : TableReady s rows n
  pub fits : member_count xs * laid_width ≤ length members

pub record PutAll (xs : List Structure) (structures structures' members members' : List ℕ) : Type 0 where
  pub structures_are : structures' ≡ sets structures 0 (structure_words 0 xs)
  pub members_are : members' ≡ sets members 0 (all_member_words xs)
