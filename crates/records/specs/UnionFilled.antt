-- What the room of a union holds.
use Rattle.std.specs.Prelude.{ℕ, ◌*◌, ◌<◌, ◌≡◌, List, length}
use Rattle.lent.specs.Filled.{Filled}
use Rattle.format.specs.Said.{gives}
use Rattle.format.specs.declared.settings.Settings.{Settings}
use Rattle.tables.specs.Table.{lent_rows}
use Rattle.tables.specs.Row.{row_at}
use Rattle.records.specs.MemberWords.{member_width}
use Rattle.records.specs.Unions.{RowMember, row_members, union_at, members_words}
use Rattle.records.specs.declared.unions.Union.{Union}

-- the union of a key, and the room after it was read
pub record UnionFilled (settings : Settings) (s rows attrs : List ℕ) (n key : ℕ) (u : Union) (room room' : List ℕ) : Type 0 where
  pub row : ℕ
  pub there : row < n
  pub key_is : (row_at rows row).key ≡ key
  pub union_is : union_at settings (lent_rows settings.endian s rows attrs n) row ≡ gives u
  -- its members, in walk order
  pub list : List RowMember
  pub are : row_members settings (lent_rows settings.endian s rows attrs n) row ≡ gives list
  pub many : length list ≡ u.members
  pub filled : Filled (members_words list) (u.members * member_width) room room'
