-- How the code lays out a structure: children one at a time, into room as far as they fit.
use Rattle.std.specs.Prelude.{Result, Ok, Err}
use Rattle.std.specs.Prelude.{Result}
use Rattle.format.specs.declared.refusal.Refusal.{Refusal}
use Rattle.format.specs.Said.{said}
use Rattle.std.specs.Prelude.{ℕ, ◌+◌, ◌*◌, ◌^◌, ◌<◌, ◌≡◌, Bool, cond, List, [], ◌∷◌, ◌++◌, length, eqb}
use Rattle.std.proofs.lemmas.List.Edits.{sets}
use Rattle.numbers.specs.declared.Endian.{Endian}
use Rattle.format.specs.AttributeKind as attribute
use Rattle.format.specs.TagKind as tag
use Rattle.format.specs.Said.{Said, gives, refusal, ◌>>=◌, ◌>>◌}
use Rattle.format.specs.declared.settings.Settings.{Settings}
use Rattle.blocks.specs.declared.types.Type.{«Type»}
use Rattle.tables.specs.Table.{lent_rows}
use Rattle.tables.specs.Row.{row_at}
use Rattle.links.specs.Inside.EachChild.{children_at}
use Rattle.records.specs.Inside.Enumeration.{AskedShort}
use Rattle.records.specs.Member.{member_at}
use Rattle.records.specs.Scan.{run_of}
use Rattle.records.specs.Fields.{name_of}
use Rattle.records.specs.MemberWords.{name_place, name_length}
use Rattle.records.specs.declared.member.Member.{Member}
use Rattle.sizes.specs.Inside.Prepare.{structure_fault}
use Rattle.sizes.specs.Inside.Size.{Extent}
use Rattle.layout.specs.Layout.{Laid, Lay, lay, end_or, laid_from, laid_words, laid_width}
use Rattle.layout.specs.declared.one.Layout.{Layout}
use Rattle.layout.specs.declared.one.Laying.{Laying}

-- the member at row c, its name being what its row says
unfoldable pub laid_at : Endian → List ℕ → List ℕ → List ℕ → ℕ → ℕ → ℕ → Laid
laid_at e s rows attrs c offset size =
    record {
      offset = offset;
      size = size;
      place = name_place (name_of s attrs (run_of e rows c) attribute.name);
      length = name_length (name_of s attrs (run_of e rows c) attribute.name);
    }

module _ (e : Endian) (s rows attrs : List ℕ) (sized : Bool) (largest c : ℕ) where
  -- a member whose size is noted
  unfoldable pub sized_laid : ℕ → ℕ → Said Lay
  sized_laid offset size = do
    next ← end_or sized (row_at rows c).key largest (offset + size)
    gives (lay (laid_at e s rows attrs c offset size ∷ []) next)

  -- what a member adds, laid
  unfoldable pub added_laid : Said Extent → Said Lay
  added_laid d = d >>= λ x. sized_laid x.offset x.size

-- a child, and a count that can grow
pub record LayAsked (s rows : List ℕ) (n c count : ℕ) : Type 0 where
  pub asked : AskedShort s rows n c
  pub count_small : count + 1 < 2 ^ 64

-- ---- children one at a time

-- what is laid, and what follows
unfoldable pub lay_before : List Laid → Said Lay → Said Lay
lay_before xs d = do
  l ← d
  gives (lay (xs ++ l.members) l.largest)

-- the same, what follows going on from the largest end
unfoldable pub lay_on : (ℕ → Said Lay) → Said Lay → Said Lay
lay_on next d = do
  l ← d
  lay_before l.members (next l.largest)

module _ (rows : List ℕ) (size_of : «Type» → Said ℕ) (sized : Bool) (largest c : ℕ) where
  -- a member that was read
  unfoldable pub read_laid : Said Member → Said Lay
  read_laid d = d >>= λ m. laid_from rows size_of sized largest (record { row = c; member = m } ∷ [])

module _ (settings : Settings) (s rows attrs : List ℕ) (n : ℕ) (size_of : «Type» → Said ℕ) (sized : Bool) where
  -- child c, if it is a Member
  unfoldable pub child_laid : ℕ → ℕ → Said Lay
  child_laid largest c =
      cond (eqb (row_at rows c).kind tag.member) (read_laid rows size_of sized largest c (member_at settings (lent_rows settings.endian s rows attrs n) c)) (gives (lay [] largest))

  -- children one after the other
  unfoldable pub children_laid : ℕ → List ℕ → Said Lay
  children_laid largest [] = gives (lay [] largest)
  children_laid largest (c ∷ cs) = lay_on (λ next. children_laid next cs) (child_laid largest c)

  -- all are read whole before any size is taken
  unfoldable pub structure_laid : ℕ → Said Lay
  structure_laid i = do
    structure_fault settings s rows attrs n i
    children_laid 0 (children_at settings.endian s rows attrs n i)

-- ---- what the code answers, after k others

-- how many are laid, and their largest end
pub record Progress : Type 0 where
  pub count : ℕ
  pub largest : ℕ

-- what an answer says
unfoldable pub said_laying : Result Laying Refusal → Said Progress
said_laying (Ok laying) = gives (record { count = laying.count; largest = laying.largest })
said_laying (Err why) = refusal why

-- what is laid after k others
unfoldable pub laying_of : ℕ → Said Lay → Said Progress
laying_of k d = do
  l ← d
  gives (record { count = k + length l.members; largest = l.largest })

-- of the room something is said only where there was no refusal
pub record Lays (d : Said Lay) (k : ℕ) (r : Result Laying Refusal) (room room' : List ℕ) : Type 0 where
  pub answer_is : said_laying r ≡ laying_of k d
  pub room_is : (l : Lay) → d ≡ gives l → room' ≡ sets room (k * laid_width) (laid_words l.members)
  pub same_room : length room' ≡ length room

-- the whole structure
pub record WholeLaid (answer : Said Layout) (d : Said Lay) (r : (Result Layout Refusal)) (room room' : List ℕ) : Type 0 where
  pub answer_is : said r ≡ answer
  pub room_is : (l : Lay) → d ≡ gives l → room' ≡ sets room 0 (laid_words l.members)
