-- Where a union is read, its members are there: as many as it says, their records one after the other at the front of the room, and what lies behind is as it was.
use Rattle.std.specs.Prelude.{Ok}
use Rattle.format.specs.Said.{said}
use Rattle.format.proofs.Laws.Said.{given_is, room-given, fill-given}
use Prim.Native.Nat.{ℕ, ◌+◌, ◌*◌, ◌/◌, ◌≤◌}
use native.Mathlib.Omega.{arith}
use mathlib.Core.Path.{◌≡◌, refl, sym, ap, ◌∙◌, subst}
use mathlib.Core.Bool.{Bool, true}
use mathlib.Core.List.{List, [], ◌∷◌, ◌++◌}
use lib.ListN.{length, length-append}
use lib.Seq.{sets}
use lib.Dec.{leb}
use borrow.Author.Tests.{leb-true}
use Rattle.tables.specs.Table.{Table, table, lent_rows}
use Rattle.lent.proofs.Laws.Filled.{sets-filled}
use Rattle.lent.specs.Outcome.{Outcome, Given}
use Rattle.format.specs.Said.{Said, gives, in_room, fills_room}
use Rattle.format.specs.declared.settings.Settings.{Settings}
use Rattle.tables.specs.declared.row.Counts.{Counts}
use Rattle.tables.specs.Keyed.{row_of}
use Rattle.tables.proofs.Laws.Keyed.{keyed-there, keyed-key}
use Rattle.records.specs.MemberWords.{member_width, member_words}
use Rattle.records.proofs.Laws.MemberWords.{words-wide}
use Rattle.records.specs.Unions.{RowMember, row_members, union_at, members_words, union_into, process_union_tag}
use Rattle.records.proofs.Laws.Unions.{AsMany, union-counts}
use Rattle.records.specs.declared.unions.Union.{Union}
use Rattle.records.specs.UnionFilled.{UnionFilled}

words_long : (ms : List RowMember) → length (members_words ms) ≡ length ms * member_width
unfolding members_words
words_long [] = refl
words_long (m ∷ ms) =
    let wide : length (member_words m.row m.member) ≡ member_width = words-wide m.row m.member in
    let rest : length (members_words ms) ≡ length ms * member_width = words_long ms in
    let both : length (member_words m.row m.member ++ members_words ms) ≡ length (member_words m.row m.member) + length (members_words ms) =
    length-append (member_words m.row m.member) (members_words ms)
    in
    omega arith

-- ---- the theorem

module _ (settings : Settings) (vendors sizes s rows attrs : List ℕ) (counts : Counts) (key : ℕ) (room : List ℕ) where
  abbrev t : Table
  t = table s settings vendors sizes rows attrs counts

  abbrev union : ℕ → Said Union
  union i = union_at settings (lent_rows settings.endian s rows attrs counts.rows) i

  abbrev members : ℕ → Said (List RowMember)
  members i = row_members settings (lent_rows settings.endian s rows attrs counts.rows) i

  abbrev into : ℕ → Outcome (Said Union) ℕ
  into i = union_into settings (lent_rows settings.endian s rows attrs counts.rows) room i

  abbrev fitting : Union → Bool
  fitting v = leb v.members (length room / member_width)

  abbrev filling : Union → List RowMember → Outcome (Said Union) ℕ
  filling v ms = fills_room (fitting v) v (v.members ∷ []) (members_words ms) room

  -- a row's union was read whole, and its members fit
  record Fits (i : ℕ) (u : Union) (room' : List ℕ) : Type 0 where
    read : union i ≡ gives u
    list : List RowMember
    are : members i ≡ gives list
    room_enough : u.members ≤ length room / member_width
    after : room' ≡ sets room 0 (members_words list)

  fits : (i : ℕ) {u : Union} {room' : List ℕ} → Given (into i) (gives u) room' → Fits i u room'
  unfolding union_into
  fits i {u} {room'} g =
      let whole : (v : Union) × (union i ≡ gives v) × Given (in_room room (members i) (filling v)) (gives u) room' =
      room-given room (union i) (λ v. in_room room (members i) (filling v)) g
      in
      let v : Union = whole.0 in
      let all : (ms : List RowMember) × (members i ≡ gives ms) × Given (filling v ms) (gives u) room' = room-given room (members i) (filling v) whole.2 in
      let full : (fitting v ≡ true) × (u ≡ v) × (room' ≡ sets room 0 (members_words all.0)) =
      fill-given (fitting v) v (v.members ∷ []) (members_words all.0) room all.2
      in
      record {
        read = whole.1 ∙ ap gives (sym full.1);
        list = all.0;
        are = all.1;
        room_enough = subst (λ (x : Union). x.members ≤ length room / member_width) (sym full.1) (leb-true v.members (length room / member_width) full.0);
        after = full.2;
      }

  pub union-filled : {u : Union} {room' : List ℕ} → Given (process_union_tag (table s settings vendors sizes rows attrs counts) key room) (gives u) room'
      → UnionFilled settings s rows attrs counts.rows key u room room'
  unfolding process_union_tag said
  union-filled {u} {room'} g =
      let found : (i : ℕ) × (row_of t key ≡ gives i) × Given (into i) (gives u) room' = room-given room (row_of t key) into g in
      let f : Fits found.0 u room' = fits found.0 found.2 in
      let these : AsMany (members found.0) u = union-counts settings s rows attrs counts.rows found.0 f.read in
      let many : length f.list ≡ u.members = ap length (given_is (sym f.are ∙ these.are)) ∙ these.many in
      let room_for : u.members ≤ length room / member_width = f.room_enough in
      let enough : u.members * member_width ≤ length room = omega arith in
      record {
        row = found.0;
        there = keyed-there settings vendors sizes s rows attrs counts key {told = Ok found.0} (sym found.1) refl;
        key_is = keyed-key settings vendors sizes s rows attrs counts key {told = Ok found.0} (sym found.1) refl;
        union_is = f.read;
        list = f.list;
        are = f.are;
        many = many;
        filled = sets-filled (members_words f.list) (u.members * member_width) room (words_long f.list ∙ ap (λ (k : ℕ). k * member_width) many) enough f.after;
      }
