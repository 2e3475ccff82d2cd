-- How the code takes sizes: with the levels that are left, or from sizes that are noted already; a structure's children one at a time.
use Rattle.format.specs.declared.refusal.Refusal.{Refusal}
use Rattle.std.specs.Prelude.{ℕ, ◌+◌, ◌<◌, cond, List, [], ◌∷◌, length, eqb, Result, Ok, Err, Option}
use Rattle.format.specs.Limits.{section_limit}
use Rattle.format.specs.TagKind as tag
use Rattle.format.specs.Said.{Said, gives, refusal, ◌>>=◌}
use Rattle.format.specs.declared.settings.Settings.{Settings}
use Rattle.blocks.specs.declared.types.Type.{«Type»}
use Rattle.tables.specs.Table.{lent_rows}
use Rattle.tables.specs.Row.{row_at}
use Rattle.tables.specs.Find.{row_of_key}
use Rattle.tables.specs.Keyed.{found_row}
use Rattle.links.specs.Inside.Links.{RowsHold}
use Rattle.records.specs.Scan.{run_of}
use Rattle.records.specs.Member.{member_at}
use Rattle.records.specs.Inside.Unions.{EndsAt}
use Rattle.sizes.specs.Size.{subscript_block, product_of, size_or, with_end, entry_size, type_size_by}
use Rattle.sizes.specs.Inside.Noted.{noted_at}
use Rattle.sizes.specs.declared.kept.Added.{Added}

-- a table that was tested
pub record TableReady (s rows : List ℕ) (n : ℕ) : Type 0 where
  pub table : RowsHold rows n
  pub short : length s < section_limit

-- a row of it whose child walk ends
pub record EndsShort (settings : Settings) (s rows attrs : List ℕ) (n i : ℕ) : Type 0 where
  pub ends_at : EndsAt settings.endian s rows attrs n i
  pub short : length s < section_limit

-- ---- a structure's children one at a time

-- what a member adds to its structure: its offset and its size
pub record Extent : Type 0 where
  pub offset : ℕ
  pub size : ℕ

-- what an answer says
unfoldable pub said_added : Result Added Refusal → Said Extent
said_added (Ok added) = gives (record { offset = added.offset; size = added.size })
said_added (Err why) = refusal why

-- a size that is said, with an offset
unfoldable pub with_size : ℕ → Said ℕ → Said Extent
with_size offset d = do
  size ← d
  gives (record { offset = offset; size = size })

-- the largest end with that of a member at row c
unfoldable pub grown : List ℕ → ℕ → ℕ → ℕ → ℕ → Said ℕ
grown rows c largest offset size = with_end (row_at rows c).key largest (offset + size)

module _ (settings : Settings) (s rows attrs : List ℕ) (n : ℕ) (type_size : «Type» → Said ℕ) where
  -- what the member at row c adds to its structure
  unfoldable pub member_added : ℕ → Said Extent
  member_added c = do
    m ← member_at settings (lent_rows settings.endian s rows attrs n) c
    with_size m.offset (size_or type_size m.of m.byte_size)

  -- the largest end with that of child c, if it is a Member
  unfoldable pub child_end : ℕ → ℕ → Said ℕ
  child_end largest c =
      cond (eqb (row_at rows c).kind tag.member) (member_added c >>= λ x. grown rows c largest x.offset x.size) (gives largest)

  -- the largest end of children, one after the other
  unfoldable pub ends_over : ℕ → List ℕ → Said ℕ
  ends_over largest [] = gives largest
  ends_over largest (c ∷ cs) = do
    next ← child_end largest c
    ends_over next cs

-- an array's product
unfoldable pub array_product : Settings → List ℕ → List ℕ → List ℕ → ℕ → ℕ → ℕ → Said ℕ
array_product settings s rows attrs i k size =
    product_of settings.endian (row_at rows i).key (subscript_block s attrs (run_of settings.endian rows i) k) size

-- ---- with sizes that are noted already

-- the size of the row that was found, from the noted ones; 11 where there is none
unfoldable pub noted_found : List ℕ → ℕ → Option ℕ → Said ℕ
noted_found noted key found = found_row key found >>= noted_at noted

module _ (settings : Settings) (sizes s rows attrs : List ℕ) (n : ℕ) (noted : List ℕ) (levels : ℕ) where
  -- the size of an entry: from the noted ones if there are any, else with so many levels left
  unfoldable pub entry_size_from : ℕ → Said ℕ
  entry_size_from key =
      cond (eqb (length noted) 0) (entry_size settings sizes (lent_rows settings.endian s rows attrs n) levels key)
      (noted_found noted key (row_of_key rows n key))

  -- the same of a type
  unfoldable pub type_size_from : «Type» → Said ℕ
  type_size_from t = type_size_by sizes entry_size_from t
