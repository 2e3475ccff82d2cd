-- How the code takes a union's children: one at a time, into room as far as they fit.
use Rattle.std.specs.Prelude.{ℕ, ◌+◌, ◌*◌, ◌^◌, ◌≤◌, ◌<◌, ◌≡◌, List, [], length}
use Rattle.std.proofs.lemmas.List.Edits.{sets}
use Rattle.tables.specs.Table.{lent_rows}
use Rattle.lent.specs.Outcome.{Outcome, outcome}
use Rattle.numbers.specs.declared.Endian.{Endian}
use Rattle.format.specs.Said.{Said, gives, ◌>>=◌, in_room}
use Rattle.format.specs.declared.settings.Settings.{Settings}
use Rattle.links.specs.Links.{sibling_row, next_row}
use Rattle.links.specs.Inside.EachChild.{Ends}
use Rattle.links.specs.Inside.Children.{Asked}
use Rattle.records.specs.MemberWords.{member_width}
use Rattle.records.specs.Unions.{RowMember, child_then, members_words}
use Rattle.records.specs.declared.unions.Union.{Union}

-- a child's row, and a count that can grow
pub record TakeAsked (rows : List ℕ) (n c k : ℕ) : Type 0 where
  pub asked : Asked rows n c
  pub count_small : k + 1 < 2 ^ 64

-- a row whose child walk ends
pub record EndsAt (e : Endian) (s rows attrs : List ℕ) (n i : ℕ) : Type 0 where
  pub asked : Asked rows n i
  pub ending : Ends e s rows attrs n (sibling_row (lent_rows e s rows attrs n) i) (next_row rows n i)

-- how many there are
unfoldable pub count_of : Said (List RowMember) → Said ℕ
count_of all = do
  ms ← all
  gives (length ms)

-- members after k others, `member_width` words each; of the room after a refusal nothing is said
unfoldable pub members_stored : ℕ → List ℕ → Said (List RowMember) → Outcome (Said ℕ) ℕ
members_stored k room all = in_room [] all (λ ms. outcome (gives (k + length ms)) (sets room (k * member_width) (members_words ms)))

-- the same from what a child has left: a count to go on with, or a refusal, which ends it
unfoldable pub stored_on : Said ℕ → List ℕ → Said (List RowMember) → Outcome (Said ℕ) ℕ
stored_on counted room rest = in_room [] counted (λ k. members_stored k room rest)

-- one child, whatever comes after it
pub record TakesMember (settings : Settings) (s rows attrs : List ℕ) (n key c k : ℕ) (r : Said ℕ) (room room' : List ℕ) : Type 0 where
  pub turn : (rest : Said (List RowMember)) → members_stored k room (child_then settings (lent_rows settings.endian s rows attrs n) key c rest) ≡ stored_on r room' rest
  pub one_more : (more : ℕ) → r ≡ gives more → more ≤ k + 1
  pub same_room : length room' ≡ length room

-- all children
pub record MembersStored (all : Said (List RowMember)) (r : Said ℕ) (room room' : List ℕ) : Type 0 where
  pub answer_is : r ≡ count_of all
  pub room_is : (ms : List RowMember) → all ≡ gives ms → room' ≡ sets room 0 (members_words ms)

-- the whole union
pub record UnionStored (answer : Said Union) (all : Said (List RowMember)) (r : Said Union) (room room' : List ℕ) : Type 0 where
  pub answer_is : r ≡ answer
  pub room_is : (u : Union) → answer ≡ gives u → (ms : List RowMember) → all ≡ gives ms → room' ≡ sets room 0 (members_words ms)
