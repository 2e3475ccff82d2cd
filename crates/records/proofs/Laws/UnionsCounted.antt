-- A union's members, by what counting its children tells.
use Rattle.std.specs.Prelude.{Option, Some, None, Result, Ok, Err}
use Rattle.format.specs.Said.{said, said_counted}
use Prim.Native.Nat.{ℕ, ◌/◌, ◌≤◌, ◌<◌}
use mathlib.Core.Path.{◌≡◌, refl, sym, ap, ◌∙◌, subst}
use mathlib.Core.List.{List, [], ◌∷◌}
use lib.ListN.{length}
use lib.Dec.{leb}
use borrow.Author.Tests.{le-leb, lt-leb}
use Rattle.lent.specs.Outcome.{Outcome, Given}
use Rattle.numbers.specs.declared.Endian.{Endian}
use Rattle.format.specs.AttributeKind as attribute
use Rattle.format.specs.Said.{Said, gives, refuses, refusal, ◌>>=◌, ◌>>◌, in_room, fills_room}
use Rattle.format.proofs.Laws.Said.{case-said, goes_on, goes-past, goes_in, given_is, given-refused, fills, wants, past-gave, step-gave}
use Rattle.format.specs.declared.settings.Settings.{Settings}
use Rattle.format.specs.declared.refusal.Refusal.{Refusal}
use Rattle.format.specs.declared.refusal.Unfilled.TheVariants.{Room}
use Rattle.format.specs.declared.refusal.Reason.TheVariants as reason
use Rattle.tables.specs.Table.{lent_rows}
use Rattle.tables.specs.Row.{row_at}
use Rattle.tables.specs.Inside.Keyed.{refused_at}
use Rattle.tables.specs.declared.row.Row.{Row}
use Rattle.links.specs.Walk.{ends}
use Rattle.links.specs.Links.{child_walk}
use Rattle.links.specs.Inside.EachChild.{rows_met, children_at}
use Rattle.links.proofs.Laws.EachChild.{counted-ends, counted-walk, walk-children, endless-walk}
use Rattle.links.specs.Inside.Children.{gathered_into, Asked}
use Rattle.records.specs.Scan.{run_of}
use Rattle.records.specs.Fields.{name_of, word_of, needed}
use Rattle.records.specs.Front.{head_of}
use Rattle.records.specs.MemberWords.{member_width}
use Rattle.records.specs.Unions.{RowMember, members_from, members_by, row_members, union_sized, union_at, members_words, union_into}
use Rattle.records.specs.Inside.Unions.{EndsAt, count_of, MembersStored, UnionStored}
use Rattle.records.specs.declared.taken.Record.TheVariants as record'
use Rattle.records.specs.declared.scan.Run.{Run}
use Rattle.records.specs.declared.fields.Text.{Text}
use Rattle.records.specs.declared.unions.Union.{Union}

pub members-ending : (e : Endian) (s rows attrs : List ℕ) (n i : ℕ) {told : Option ℕ} {k : ℕ} → told ≡ (gathered_into rows 0 [] (child_walk (lent_rows e s rows attrs n) i)).answer
    → Asked rows n i → told ≡ Some k → EndsAt e s rows attrs n i
members-ending e s rows attrs n i is a p = record { asked = a; ending = counted-ends e s rows attrs n i is a.table p }

module _ (settings : Settings) (s rows attrs : List ℕ) (n i : ℕ) {told : Option ℕ} (is : told ≡ (gathered_into rows 0 [] (child_walk (lent_rows settings.endian s rows attrs n) i)).answer) where
  pub members-walked : {k : ℕ} {r : Said ℕ} {room room' : List ℕ} → told ≡ Some k
      → MembersStored (members_from settings (lent_rows settings.endian s rows attrs n) (row_at rows i).key (children_at settings.endian s rows attrs n i)) r room room'
      → MembersStored (row_members settings (lent_rows settings.endian s rows attrs n) i) r room room'
  unfolding row_members members_by
  members-walked {r = r} {room = room} {room' = room'} p g =
      let walk : child_walk (lent_rows settings.endian s rows attrs n) i ≡ ends (rows_met (child_walk (lent_rows settings.endian s rows attrs n) i)) = counted-walk settings.endian s rows attrs n i is p in
      subst (λ (all : Said (List RowMember)). MembersStored all r room room')
      (ap (members_from settings (lent_rows settings.endian s rows attrs n) (row_at rows i).key) (walk-children settings.endian s rows attrs n i walk)
      ∙ sym (ap (members_by settings (lent_rows settings.endian s rows attrs n) (row_at rows i).key) walk))
      g

  pub members-endless : (room : List ℕ) {row : Row} {why : Refusal} → told ≡ None → row ≡ row_at rows i → why ≡ refused_at row.key reason.Link
      → MembersStored (row_members settings (lent_rows settings.endian s rows attrs n) i) (said (Err why)) room room
  unfolding said row_members members_by count_of ◌>>=◌
  members-endless room {why = why} p at q =
      let none : refusal why ≡ row_members settings (lent_rows settings.endian s rows attrs n) i =
      ap refusal (q ∙ ap (λ (r : Row). refused_at r.key reason.Link) at)
      ∙ sym (ap (members_by settings (lent_rows settings.endian s rows attrs n) (row_at rows i).key) (endless-walk settings.endian s rows attrs n i is p))
      in
      record { answer_is = ap count_of none; room_is = λ ms e. absurd (given-refused (sym (none ∙ e))) }

-- ---- the whole union

-- a union of so many members
abbrev union : ℕ → ℕ → Option Text → Union
union many size name = record { name = name; byte_size = size; members = many }

pub union-whole : (s attrs : List ℕ) (run : Run) (many size : ℕ) {name : Option Text} → name ≡ name_of s attrs run attribute.name
    → said (Ok (union many size name)) ≡ gives (union many size (name_of s attrs run attribute.name))
unfolding said
union-whole s attrs run many size p = ap (λ (x : Option Text). gives (union many size x)) p

-- what follows with the members' number
counted-on : {B : Type 0} (all : Said (List RowMember)) (next : ℕ → Said B) → (count_of all >>= next) ≡ (all >>= λ ms. next (length ms))
unfolding count_of ◌>>=◌
counted-on (gives ms) next = refl
counted-on (refuses number place counts) next = refl

module _ (settings : Settings) (s rows attrs : List ℕ) (n i : ℕ) {told : Result Unit Refusal} (is : said told ≡ head_of settings s rows attrs record'.Union i) where
  module _ (clear : told ≡ Ok tt) {taken : Result ℕ Refusal} {room room' : List ℕ} (g : MembersStored (row_members settings (lent_rows settings.endian s rows attrs n) i) (said taken) room room') where
    read-counted : {x : Result ℕ Refusal} {z : Said Union} → taken ≡ x → z ≡ (said x >>= union_sized s attrs (run_of settings.endian rows i))
        → UnionStored (union_at settings (lent_rows settings.endian s rows attrs n) i) (row_members settings (lent_rows settings.endian s rows attrs n) i) z room room'
    unfolding union_at said ◌>>◌
    read-counted p h =
        record {
          answer_is =
              goes-past said is clear _
              (goes_on said g.answer_is p (union_sized s attrs (run_of settings.endian rows i)) h
              ∙ counted-on (row_members settings (lent_rows settings.endian s rows attrs n) i) (union_sized s attrs (run_of settings.endian rows i)));
          room_is = λ u e ms f. g.room_is ms f;
        }

    pub read-sized : {many : ℕ} {run : Run} {z : Said Union} → taken ≡ Ok many → run ≡ run_of settings.endian rows i → z ≡ union_sized s attrs run many
        → UnionStored (union_at settings (lent_rows settings.endian s rows attrs n) i) (row_members settings (lent_rows settings.endian s rows attrs n) i) z room room'
    unfolding said ◌>>=◌
    read-sized {many} p q h = read-counted p (h ∙ ap (λ (x : Run). union_sized s attrs x many) q)

    pub read-refused : {why : Refusal} {z : Said Union} → taken ≡ Err why → z ≡ refusal why
        → UnionStored (union_at settings (lent_rows settings.endian s rows attrs n) i) (row_members settings (lent_rows settings.endian s rows attrs n) i) z room room'
    unfolding said ◌>>=◌
    read-refused p out = read-counted p out

  pub read-faulty : (room : List ℕ) {why : Refusal} {z : Said Union} → told ≡ Err why → z ≡ refusal why
      → UnionStored (union_at settings (lent_rows settings.endian s rows attrs n) i) (row_members settings (lent_rows settings.endian s rows attrs n) i) z room room
  unfolding said union_at ◌>>◌
  read-faulty room {why} p out =
      let wrong : refusal why ≡ union_at settings (lent_rows settings.endian s rows attrs n) i = goes-past said is p _ refl in
      record { answer_is = out ∙ wrong; room_is = λ u e ms f. absurd (given-refused (sym (wrong ∙ e))) }

-- the members that a union counts
pub record AsMany (all : Said (List RowMember)) (u : Union) : Type 0 where
  pub list : List RowMember
  pub are : all ≡ gives list
  pub many : length list ≡ u.members

sized-counts : (s attrs : List ℕ) (run : Run) (many : ℕ) {u : Union} → union_sized s attrs run many ≡ gives u → many ≡ u.members
unfolding union_sized
sized-counts s attrs run many p =
    ap (λ (x : Union). x.members)
    (given_is (step-gave (needed run.key (word_of s attrs run attribute.byte_size)) (λ size. gives (union many size (name_of s attrs run attribute.name))) p).2)

pub union-counts : (settings : Settings) (s rows attrs : List ℕ) (n i : ℕ) {u : Union} → union_at settings (lent_rows settings.endian s rows attrs n) i ≡ gives u
    → AsMany (row_members settings (lent_rows settings.endian s rows attrs n) i) u
unfolding union_at
union-counts settings s rows attrs n i {u} p =
    let run : Run = run_of settings.endian rows i in
    let all : (ms : List RowMember) × (row_members settings (lent_rows settings.endian s rows attrs n) i ≡ gives ms) × (union_sized s attrs run (length ms) ≡ gives u) =
    step-gave (row_members settings (lent_rows settings.endian s rows attrs n) i) (λ ms. union_sized s attrs run (length ms)) (past-gave (head_of settings s rows attrs record'.Union i) _ p)
    in
    record { list = all.0; are = all.1; many = sized-counts s attrs run (length all.0) all.2 }

-- ---- into lent room

module _ (settings : Settings) (s rows attrs : List ℕ) (n i : ℕ) (room : List ℕ) {told : Result Union Refusal} (is : said told ≡ union_at settings (lent_rows settings.endian s rows attrs n) i) {u : Union}
    (p : told ≡ Ok u) where
  read_is : union_at settings (lent_rows settings.endian s rows attrs n) i ≡ gives u
  unfolding said
  read_is = sym (case-said said is p)

  these : AsMany (row_members settings (lent_rows settings.endian s rows attrs n) i) u
  these = union-counts settings s rows attrs n i read_is

  abbrev filling : List RowMember → Outcome (Said Union) ℕ
  filling ms = fills_room (leb u.members (length room / member_width)) u (u.members ∷ []) (members_words ms) room

  -- the union and its members are there: they fit, or not
  give-in : {z : Said Union} {room' : List ℕ} → Given (filling these.list) z room' → Given (union_into settings (lent_rows settings.endian s rows attrs n) room i) z room'
  unfolding union_into said in_room
  give-in g = goes_in said is p room _ (goes_in (λ (d : Said (List RowMember)). d) refl these.are room filling g)

  pub give-filled : {z : Said Union} {room' : List ℕ} → u.members ≤ length room / member_width
      → UnionStored (union_at settings (lent_rows settings.endian s rows attrs n) i) (row_members settings (lent_rows settings.endian s rows attrs n) i) z room room'
      → Given (union_into settings (lent_rows settings.endian s rows attrs n) room i) (said_counted (Ok u)) room'
  unfolding said_counted
  give-filled h g =
      give-in
      (fills u (u.members ∷ []) (members_words these.list) room (le-leb u.members (length room / member_width) h) refl
      (g.room_is u read_is these.list these.are))

  pub give-unfit : length room / member_width < u.members → Given (union_into settings (lent_rows settings.endian s rows attrs n) room i) (said_counted (Err (Room u.members))) room
  unfolding said_counted
  give-unfit h = give-in (wants u (u.members ∷ []) (members_words these.list) room (lt-leb u.members (length room / member_width) h) refl refl)
