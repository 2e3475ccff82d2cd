-- Unions (document 01, 'Types, records, sizes'; the Rust's `process_union_tag`): attributes, then the children in walk order, of which Member rows
-- are read whole, rows that define a type are passed over and any other is 16 at the union; then a ByteSize is needed.
use Rattle.std.specs.Prelude.{ℕ, ◌/◌, Bool, cond, List, [], ◌∷◌, ◌++◌, length, eqb, leb}
use Rattle.tables.specs.Table.{Table, Rows, table_rows}
use Rattle.lent.specs.Outcome.{Outcome}
use Rattle.format.specs.Lookup.{is_on}
use Rattle.format.specs.TagKind as tag
use Rattle.format.specs.AttributeKind as attribute
use Rattle.format.specs.Said.{Said, gives, refuse, ◌>>=◌, ◌>>◌, in_room, fills_room}
use Rattle.format.specs.declared.settings.Settings.{Settings}
use Rattle.format.specs.declared.refusal.Reason.TheVariants as reason
use Rattle.tables.specs.Row.{row_at}
use Rattle.links.specs.Walk.{Walk, ends, endless}
use Rattle.links.specs.Links.{child_walk, non_null}
use Rattle.tables.specs.Keyed.{row_of}
use Rattle.records.specs.Scan.{run_of}
use Rattle.records.specs.Fields.{name_of, word_of, needed}
use Rattle.records.specs.Front.{head_of}
use Rattle.records.specs.Member.{member_at}
use Rattle.records.specs.MemberWords.{member_words, member_width}
use Rattle.records.specs.declared.taken.Record.TheVariants as record'
use Rattle.records.specs.declared.scan.Run.{Run}
use Rattle.records.specs.declared.member.Member.{Member}
use Rattle.records.specs.declared.unions.Union.{Union}

-- children that only define types
unfoldable pub ignored_kinds : List ℕ
ignored_kinds =
    tag.array_type ∷ tag.class_type ∷ tag.enumeration_type ∷ tag.structure_type ∷ tag.subroutine_type ∷ tag.typedef ∷ tag.union_type ∷
    tag.ptr_to_member_type ∷ []

-- a child of this kind is passed over
unfoldable pub ignored : ℕ → Bool
unfolding ignored_kinds
ignored kind = is_on kind ignored_kinds

-- a member with its row's number
pub record RowMember : Type 0 where
  pub row : ℕ
  pub member : Member

module _ (settings : Settings) (t : Rows) where
  -- child c, a member, and those after it
  unfoldable pub member_then : ℕ → Said (List RowMember) → Said (List RowMember)
  member_then c rest = do
    m ← member_at settings t c
    ms ← rest
    gives (record { row = c; member = m } ∷ ms)

  -- child c of the union with this key, and those after it
  unfoldable pub child_then : ℕ → ℕ → Said (List RowMember) → Said (List RowMember)
  child_then key c rest =
      cond (eqb (row_at t.rows c).kind tag.member) (member_then c rest) (cond (ignored (row_at t.rows c).kind) rest (refuse reason.Child key))

  -- children one after the other
  unfoldable pub members_from : ℕ → List ℕ → Said (List RowMember)
  members_from key [] = gives []
  members_from key (c ∷ cs) = child_then key c (members_from key cs)

  -- the walk is done before any child is looked at: 9 where it never ends
  unfoldable pub members_by : ℕ → Walk → Said (List RowMember)
  members_by key (ends cs) = members_from key (non_null t.rows cs)
  members_by key endless = refuse reason.Link key

  -- the members of row i
  unfoldable pub row_members : ℕ → Said (List RowMember)
  row_members i = members_by (row_at t.rows i).key (child_walk t i)

-- with so many members: a ByteSize is needed, the name may be missing
unfoldable pub union_sized : List ℕ → List ℕ → Run → ℕ → Said Union
union_sized s attrs run many = do
  size ← needed run.key (word_of s attrs run attribute.byte_size)
  gives (record { name = name_of s attrs run attribute.name; byte_size = size; members = many })

-- the union at row i: name, size and how many members
unfoldable pub union_at : Settings → Rows → ℕ → Said Union
union_at settings t i = do
  head_of settings t.section t.rows t.attrs record'.Union i
  ms ← row_members settings t i
  union_sized t.section t.attrs (run_of settings.endian t.rows i) (length ms)

-- ---- into lent room: 8 last, with the count

-- the records of members, one after the other
unfoldable pub members_words : List RowMember → List ℕ
members_words [] = []
members_words (m ∷ ms) = member_words m.row m.member ++ members_words ms

-- the union of row i and its members, if they fit
unfoldable pub union_into : Settings → Rows → List ℕ → ℕ → Outcome (Said Union) ℕ
union_into settings t room i =
    in_room room (union_at settings t i)
    (λ u. in_room room (row_members settings t i)
    (λ ms. fills_room (leb u.members (length room / member_width)) u (u.members ∷ []) (members_words ms) room))

-- the union of a key
unfoldable pub process_union_tag : Table → ℕ → List ℕ → Outcome (Said Union) ℕ
process_union_tag t key room =
    in_room room (row_of t key) (union_into t.settings (table_rows t) room)
