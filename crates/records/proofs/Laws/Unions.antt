-- What follows from `Unions` and its ways, for each way that the code comes to an answer.
use Rattle.std.specs.Prelude.{Option, Some, None, Result, Ok, Err}
use Rattle.format.specs.Said.{said, said_counted}
use Prim.Native.Nat.{ℕ, suc, ◌+◌, ◌*◌, ◌/◌, ◌≤◌, ◌<◌}
use native.Mathlib.Nat.{add-zero, zero-add}
use native.Mathlib.Omega.{arith}
use mathlib.Core.Path.{◌≡◌, refl, sym, ap, ap₂, ◌∙◌, subst}
use mathlib.Core.Bool.{Bool, true, false, cond}
use mathlib.Core.List.{List, [], ◌∷◌}
use lib.ListN.{length}
use lib.Seq.{sets, length-sets}
use lib.Dec.{eqb, leb}
use borrow.Author.Tests.{eq-eqb, ne_eqb, le-leb, lt-leb}
use Rattle.lent.specs.Outcome.{Outcome, Given, outcome}
use Rattle.lent.proofs.Laws.Stores.{sets-append}
use Rattle.numbers.specs.declared.Endian.{Endian}
use Rattle.format.specs.TagKind as tag
use Rattle.format.specs.AttributeKind as attribute
use Rattle.format.specs.Limits.{entry_limit}
use Rattle.format.specs.Said.{Said, gives, refuses, refuse, refusal, ◌>>=◌, ◌>>◌, in_room, fills_room}
use Rattle.format.proofs.Laws.Said.{case-said, goes_on, goes-past, goes_in, given_is, given-refused, fills, wants, past-gave, step-gave}
use Rattle.format.specs.declared.settings.Settings.{Settings}
use Rattle.format.specs.declared.refusal.Refusal.{Refusal}
use Rattle.format.specs.declared.refusal.Unfilled.TheVariants.{Room}
use Rattle.format.specs.declared.refusal.Reason.TheVariants as reason
use Rattle.tables.specs.Table.{lent_rows}
use Rattle.tables.specs.Row.{row_at}
use Rattle.tables.specs.Inside.Keyed.{refused_at}
use Rattle.tables.specs.declared.row.Row.{Row}
use Rattle.links.specs.Walk.{ends}
use Rattle.links.specs.Links.{sibling_row, next_row, child_walk}
use Rattle.links.specs.Inside.Links.{AtRow}
use Rattle.links.specs.Inside.EachChild.{rows_met, children_from, children_at, Ends, first_or}
use Rattle.links.proofs.Laws.EachChild.{few-children, children-more, ends_more, children-none, children-same, ends_same, first-same, children-at, ends_at, walk-children}
use Rattle.links.proofs.Laws.AnyChild.{ended-ends, ended-walk, endless-walk}
use Rattle.links.specs.Inside.Children.{Asked}
use Rattle.links.specs.Inside.AnyChild.{gone_over}
use Rattle.records.proofs.Laws.Taken.{test-passed, test-failed}
use Rattle.records.specs.Scan.{run_of}
use Rattle.records.specs.Fields.{name_of, word_of, needed}
use Rattle.records.specs.Front.{head_of}
use Rattle.records.specs.Member.{member_at}
use Rattle.records.specs.MemberWords.{member_width, member_words}
use Rattle.records.proofs.Laws.MemberWords.{words-wide}
use Rattle.records.specs.Unions.{ignored, RowMember, member_then, child_then, members_from, members_by, row_members, union_sized, union_at, members_words, union_into}
use Rattle.records.specs.Inside.Unions.{TakeAsked, EndsAt, count_of, members_stored, stored_on, TakesMember, MembersStored, UnionStored}
use Rattle.records.specs.declared.taken.Record.TheVariants as record'
use Rattle.records.specs.declared.scan.Run.{Run}
use Rattle.records.specs.declared.fields.Text.{Text}
use Rattle.records.specs.declared.member.Member.{Member}
use Rattle.records.specs.declared.unions.Union.{Union}

-- ---- one child

abbrev storage : Said ℕ → List ℕ → Outcome (Said ℕ) ℕ
storage answer room = outcome answer room

count-of : (room : List ℕ) (all : Said (List RowMember)) → (members_stored 0 room all).answer ≡ count_of all
unfolding members_stored count_of in_room ◌>>=◌
count-of room (gives ms) = ap gives (zero-add (length ms))
count-of room (refuses number place counts) = refl

-- a member that was read, and those after it
abbrev with_member : ℕ → Said (List RowMember) → Member → Said (List RowMember)
with_member c rest m = rest >>= λ ms. gives (record { row = c; member = m } ∷ ms)

-- its record, and theirs
stored_more : (k : ℕ) (room : List ℕ) (c : ℕ) (m : Member) {room' : List ℕ} → room' ≡ sets room (k * member_width) (member_words c m) → (rest : Said (List RowMember))
    → members_stored k room (with_member c rest m) ≡ members_stored (k + 1) room' rest
unfolding members_stored members_words in_room ◌>>=◌
stored_more k room c m {room'} p (gives ms) =
    let count : k + suc (length ms) ≡ k + 1 + length ms = omega arith in
    let wide : length (member_words c m) ≡ member_width = words-wide c m in
    let after : k * member_width + length (member_words c m) ≡ (k + 1) * member_width = omega arith in
    ap₂ storage (ap gives count)
    (sets-append room (k * member_width) (member_words c m) (members_words ms)
    ∙ ap (λ (at : ℕ). sets (sets room (k * member_width) (member_words c m)) at (members_words ms)) after
    ∙ ap (λ (t : List ℕ). sets t ((k + 1) * member_width) (members_words ms)) (sym p))
stored_more k room c m p (refuses number place counts) = refl

counted-most : {k most : ℕ} → k ≤ most → (more : ℕ) → gives k ≡ gives more → more ≤ most
counted-most {most = most} h more p = subst (λ (x : ℕ). x ≤ most) (given_is p) h

refused-most : {most number place : ℕ} {counts : List ℕ} (more : ℕ) → refuses number place counts ≡ gives more → more ≤ most
refused-most more p = absurd (given-refused (sym p))

module _ (settings : Settings) (s rows attrs : List ℕ) (n key c k : ℕ) (room : List ℕ) {row : Row} (at : row ≡ row_at rows c) where
  module _ (h : row.kind ≡ tag.member) {told : Result Member Refusal} (is : said told ≡ member_at settings (lent_rows settings.endian s rows attrs n) c) where
    child-read : {x : Result Member Refusal} → told ≡ x → (rest : Said (List RowMember))
        → child_then settings (lent_rows settings.endian s rows attrs n) key c rest ≡ (said x >>= with_member c rest)
    unfolding child_then member_then
    child-read p rest =
        let test : eqb (row_at rows c).kind tag.member ≡ true = eq-eqb (row_at rows c).kind tag.member (ap (λ (r : Row). r.kind) (sym at) ∙ h) in
        rw test (ap (λ (d : Said Member). d >>= with_member c rest) (sym (case-said said is p)))

    pub take-member : {m : Member} {room' : List ℕ} → told ≡ Ok m → room' ≡ sets room (k * member_width) (member_words c m)
        → TakesMember settings s rows attrs n key c k (said (Ok (k + 1))) room room'
    unfolding said stored_on in_room ◌>>=◌
    take-member {m} p q =
        record {
          turn = λ rest. ap (members_stored k room) (child-read p rest) ∙ stored_more k room c m q rest;
          one_more = counted-most (omega arith);
          same_room = ap length q ∙ length-sets room (k * member_width) (member_words c m);
        }

    pub take-unread : {why : Refusal} {z : Said ℕ} → told ≡ Err why → z ≡ refusal why → TakesMember settings s rows attrs n key c k z room room
    unfolding said members_stored stored_on in_room ◌>>=◌
    take-unread {why} {z} p out =
        subst (λ (r : Said ℕ). TakesMember settings s rows attrs n key c k r room room) (sym out)
        (record { turn = λ rest. ap (members_stored k room) (child-read p rest); one_more = refused-most; same_room = refl })

  module _ (h : row.kind ≡ tag.member → ⊥) {b : Bool} (is : b ≡ ignored row.kind) where
    ignored-is : b ≡ ignored (row_at rows c).kind
    ignored-is = is ∙ ap (λ (r : Row). ignored r.kind) at

    child-other : (rest : Said (List RowMember))
        → child_then settings (lent_rows settings.endian s rows attrs n) key c rest ≡ cond (ignored (row_at rows c).kind) rest (refuse reason.Child key)
    unfolding child_then
    child-other rest =
        let test : eqb (row_at rows c).kind tag.member ≡ false = ne_eqb (row_at rows c).kind tag.member (λ z. h (ap (λ (r : Row). r.kind) at ∙ z)) in
        rw test

    pub take-type : b ≡ true → TakesMember settings s rows attrs n key c k (said (Ok k)) room room
    unfolding said stored_on in_room
    take-type t =
        record {
          turn = λ rest. ap (members_stored k room) (child-other rest ∙ sym (test-passed ignored-is _ t refl));
          one_more = counted-most (omega arith);
          same_room = refl;
        }

    pub take-other : {why : Refusal} → b ≡ false → why ≡ refused_at key reason.Child
        → TakesMember settings s rows attrs n key c k (said (Err why)) room room
    unfolding said members_stored stored_on in_room
    take-other t p =
        record {
          turn = λ rest. ap (members_stored k room) (child-other rest ∙ sym (test-failed ignored-is _ t refl) ∙ ap refusal (sym p));
          one_more = refused-most;
          same_room = refl;
        }

-- ---- the loop: what is left comes to the whole

pub record Taking (settings : Settings) (s rows attrs : List ℕ) (n key end : ℕ) (all : Said (List RowMember)) (room₀ room : List ℕ) (c k : ℕ) : Type 0 where
  pub on : Ends settings.endian s rows attrs n end c
  pub first : c ≡ first_or n (children_from settings.endian s rows attrs n end c)
  pub counted : k + length (children_from settings.endian s rows attrs n end c) ≤ n
  pub same_room : length room ≡ length room₀
  pub left : members_stored k room (members_from settings (lent_rows settings.endian s rows attrs n) key (children_from settings.endian s rows attrs n end c)) ≡ members_stored 0 room₀ all

module _ (settings : Settings) (s rows attrs : List ℕ) (n : ℕ) where
  pub taking-begins : (i : ℕ) (room : List ℕ) {row : Row} {end from c : ℕ} → row ≡ row_at rows i → end ≡ sibling_row (lent_rows settings.endian s rows attrs n) i
      → from ≡ next_row rows n i → EndsAt settings.endian s rows attrs n i → c ≡ first_or n (children_from settings.endian s rows attrs n end from)
      → Taking settings s rows attrs n row.key end (members_from settings (lent_rows settings.endian s rows attrs n) (row_at rows i).key (children_at settings.endian s rows attrs n i)) room room c 0
  taking-begins i room {row} {end} {from} {c} at p q w is =
      let begun : Ends settings.endian s rows attrs n end from = ends_at settings.endian s rows attrs n i p q w.ending in
      let few : length (children_from settings.endian s rows attrs n end c) ≤ n = few-children settings.endian s rows attrs n end c in
      record {
        on = ends_same settings.endian s rows attrs n end begun is;
        first = first-same settings.endian s rows attrs n end begun is;
        counted = omega arith;
        same_room = refl;
        left =
            ap (λ (r : Row). members_stored 0 room (members_from settings (lent_rows settings.endian s rows attrs n) r.key (children_from settings.endian s rows attrs n end c))) at
            ∙ ap (λ (cs : List ℕ). members_stored 0 room (members_from settings (lent_rows settings.endian s rows attrs n) (row_at rows i).key cs))
            (children-same settings.endian s rows attrs n end begun is ∙ children-at settings.endian s rows attrs n i p q);
      }

module _ {settings : Settings} {s rows attrs : List ℕ} {n key end : ℕ} {all : Said (List RowMember)} {room₀ room : List ℕ} {c k : ℕ}
    (w : Taking settings s rows attrs n key end all room₀ room c k) where
  abbrev children_now : ℕ → List ℕ
  children_now x = children_from settings.endian s rows attrs n end x

  abbrev after : ℕ → ℕ
  after x = sibling_row (lent_rows settings.endian s rows attrs n) x

  abbrev found : List ℕ → Said (List RowMember)
  found cs = members_from settings (lent_rows settings.endian s rows attrs n) key cs

  -- no child is left
  pub taking-ends : n ≤ c → MembersStored all (said (Ok k)) room₀ room
  unfolding said members_from members_stored members_words in_room
  taking-ends l =
      let done : members_stored k room (gives []) ≡ members_stored 0 room₀ all =
      sym (ap (λ (cs : List ℕ). members_stored k room (found cs)) (children-none settings.endian s rows attrs n end w.on w.first l)) ∙ w.left
      in
      record {
        answer_is = ap gives (sym (add-zero k)) ∙ ap (λ (o : Outcome (Said ℕ) ℕ). o.answer) done ∙ count-of room₀ all;
        room_is = λ ms p. ap (λ (o : Outcome (Said ℕ) ℕ). o.room) (done ∙ ap (members_stored 0 room₀) p);
      }

  module _ (l : c < n) where
    here : children_now c ≡ c ∷ children_now (after c)
    here = children-more settings.endian s rows attrs n end w.on w.first l

    pub taking-asked : TakeAsked rows n c k
    taking-asked =
        let some : length (children_now c) ≡ suc (length (children_now (after c))) = ap length here in
        let most : k + length (children_now c) ≤ n = w.counted in
        let few : n ≤ entry_limit = w.on.table.few in
        record { asked = record { table = w.on.table; there = l }; count_small = omega arith }

    pub taking-at : AtRow rows n c
    taking-at = record { rising = w.on.table.rising; there = l }

    pub taking-ending : {d : ℕ} → d ≡ after c → Ends settings.endian s rows attrs n end d
    taking-ending p = subst (Ends settings.endian s rows attrs n end) (sym p) (ends_more settings.endian s rows attrs n end w.on w.first l)

    module _ {d c' : ℕ} (p : d ≡ after c) (is : c' ≡ first_or n (children_now d)) where
      rest-is : children_now c ≡ c ∷ children_now c'
      rest-is =
          here ∙ ap (λ (x : ℕ). c ∷ children_now x) (sym p)
          ∙ ap (λ (cs : List ℕ). c ∷ cs) (sym (children-same settings.endian s rows attrs n end (taking-ending p) is))

      -- fewer children are left
      pub taking-less : length (children_now c') < length (children_now c)
      taking-less =
          let some : length (children_now c) ≡ suc (length (children_now c')) = ap length rest-is in
          omega arith

      pub taking-on : {told : Result ℕ Refusal} {room' : List ℕ} {more : ℕ} → TakesMember settings s rows attrs n key c k (said told) room room' → told ≡ Ok more
          → Taking settings s rows attrs n key end all room₀ room' c' more
      unfolding said members_from stored_on in_room
      taking-on {told} {room'} {more} t q =
          let some : length (children_now c) ≡ suc (length (children_now c')) = ap length rest-is in
          let most : k + length (children_now c) ≤ n = w.counted in
          let one : more ≤ k + 1 = t.one_more more (ap said q) in
          record {
            on = ends_same settings.endian s rows attrs n end (taking-ending p) is;
            first = first-same settings.endian s rows attrs n end (taking-ending p) is;
            counted = omega arith;
            same_room = t.same_room ∙ w.same_room;
            left =
                sym (t.turn (found (children_now c'))
                ∙ ap (λ (x : Result ℕ Refusal). stored_on (said x) room' (found (children_now c'))) q)
                ∙ ap (λ (cs : List ℕ). members_stored k room (found cs)) (sym rest-is)
                ∙ w.left;
          }

    -- a child is refused
    pub taking-refused : {told : Result ℕ Refusal} {room' : List ℕ} {why : Refusal} {z : Said ℕ} → TakesMember settings s rows attrs n key c k (said told) room room'
        → told ≡ Err why → z ≡ refusal why → MembersStored all z room₀ room'
    unfolding said members_from members_stored stored_on in_room
    taking-refused {told} {room'} {why} t q out =
        let rest : Said (List RowMember) = found (children_now (after c)) in
        let done : storage (refusal why) [] ≡ members_stored 0 room₀ all =
        sym (t.turn rest ∙ ap (λ (x : Result ℕ Refusal). stored_on (said x) room' rest) q)
        ∙ ap (λ (cs : List ℕ). members_stored k room (found cs)) (sym here) ∙ w.left
        in
        record {
          answer_is = out ∙ ap (λ (o : Outcome (Said ℕ) ℕ). o.answer) done ∙ count-of room₀ all;
          room_is = λ ms e. absurd (given-refused (sym (ap (λ (o : Outcome (Said ℕ) ℕ). o.answer) (done ∙ ap (members_stored 0 room₀) e))));
        }

-- ---- all children of a row

pub members-ending : (e : Endian) (s rows attrs : List ℕ) (n i : ℕ) {told : Option Bool} {any : Bool} → told ≡ gone_over rows false (child_walk (lent_rows e s rows attrs n) i)
    → Asked rows n i → told ≡ Some any → EndsAt e s rows attrs n i
members-ending e s rows attrs n i is a p = record { asked = a; ending = ended-ends e s rows attrs n i is p a.table }

module _ (settings : Settings) (s rows attrs : List ℕ) (n i : ℕ) {told : Option Bool} (is : told ≡ gone_over rows false (child_walk (lent_rows settings.endian s rows attrs n) i)) where
  pub members-walked : {any : Bool} {r : Said ℕ} {room room' : List ℕ} → told ≡ Some any
      → MembersStored (members_from settings (lent_rows settings.endian s rows attrs n) (row_at rows i).key (children_at settings.endian s rows attrs n i)) r room room'
      → MembersStored (row_members settings (lent_rows settings.endian s rows attrs n) i) r room room'
  unfolding row_members members_by
  members-walked {r = r} {room = room} {room' = room'} p g =
      let walk : child_walk (lent_rows settings.endian s rows attrs n) i ≡ ends (rows_met (child_walk (lent_rows settings.endian s rows attrs n) i)) = ended-walk settings.endian s rows attrs n i is p in
      subst (λ (all : Said (List RowMember)). MembersStored all r room room')
      (ap (members_from settings (lent_rows settings.endian s rows attrs n) (row_at rows i).key) (walk-children settings.endian s rows attrs n i walk)
      ∙ sym (ap (members_by settings (lent_rows settings.endian s rows attrs n) (row_at rows i).key) walk))
      g

  pub members-endless : (room : List ℕ) {row : Row} {why : Refusal} {z : Said ℕ} → told ≡ None → row ≡ row_at rows i → why ≡ refused_at row.key reason.Link
      → z ≡ refusal why → MembersStored (row_members settings (lent_rows settings.endian s rows attrs n) i) z room room
  unfolding said row_members members_by count_of ◌>>=◌
  members-endless room {why = why} p at q out =
      let none : refusal why ≡ row_members settings (lent_rows settings.endian s rows attrs n) i =
      ap refusal (q ∙ ap (λ (r : Row). refused_at r.key reason.Link) at)
      ∙ sym (ap (members_by settings (lent_rows settings.endian s rows attrs n) (row_at rows i).key) (endless-walk settings.endian s rows attrs n i is p))
      in
      record { answer_is = out ∙ ap count_of none; room_is = λ ms e. absurd (given-refused (sym (none ∙ e))) }

-- ---- the whole union

-- a union of so many members
abbrev union : ℕ → ℕ → Option Text → Union
union many size name = record { name = name; byte_size = size; members = many }

-- what follows with the members' number
counted-on : {B : Type 0} (all : Said (List RowMember)) (next : ℕ → Said B) → (count_of all >>= next) ≡ (all >>= λ ms. next (length ms))
unfolding count_of ◌>>=◌
counted-on (gives ms) next = refl
counted-on (refuses number place counts) next = refl

module _ (settings : Settings) (s rows attrs : List ℕ) (n i : ℕ) {told : Result Unit Refusal} (is : said told ≡ head_of settings s rows attrs record'.Union i) where
  module _ (clear : told ≡ Ok tt) {taken : Result ℕ Refusal} {room room' : List ℕ} (g : MembersStored (row_members settings (lent_rows settings.endian s rows attrs n) i) (said taken) room room') where
    read-counted : {x : Result ℕ Refusal} {z : Said Union} → taken ≡ x → z ≡ (said x >>= union_sized s attrs (run_of settings.endian rows i))
        → UnionStored (union_at settings (lent_rows settings.endian s rows attrs n) i) (row_members settings (lent_rows settings.endian s rows attrs n) i) z room room'
    unfolding union_at said ◌>>◌
    read-counted p h =
        record {
          answer_is =
              goes-past said is clear _
              (goes_on said g.answer_is p (union_sized s attrs (run_of settings.endian rows i)) h
              ∙ counted-on (row_members settings (lent_rows settings.endian s rows attrs n) i) (union_sized s attrs (run_of settings.endian rows i)));
          room_is = λ u e ms f. g.room_is ms f;
        }

    pub read-sized : {many : ℕ} {run : Run} {z : Said Union} → taken ≡ Ok many → run ≡ run_of settings.endian rows i → z ≡ union_sized s attrs run many
        → UnionStored (union_at settings (lent_rows settings.endian s rows attrs n) i) (row_members settings (lent_rows settings.endian s rows attrs n) i) z room room'
    unfolding said ◌>>=◌
    read-sized {many} p q h = read-counted p (h ∙ ap (λ (x : Run). union_sized s attrs x many) q)

    pub read-refused : {why : Refusal} {z : Said Union} → taken ≡ Err why → z ≡ refusal why
        → UnionStored (union_at settings (lent_rows settings.endian s rows attrs n) i) (row_members settings (lent_rows settings.endian s rows attrs n) i) z room room'
    unfolding said ◌>>=◌
    read-refused p out = read-counted p out

  pub read-faulty : (room : List ℕ) {why : Refusal} {z : Said Union} → told ≡ Err why → z ≡ refusal why
      → UnionStored (union_at settings (lent_rows settings.endian s rows attrs n) i) (row_members settings (lent_rows settings.endian s rows attrs n) i) z room room
  unfolding said union_at ◌>>◌
  read-faulty room {why} p out =
      let wrong : refusal why ≡ union_at settings (lent_rows settings.endian s rows attrs n) i = goes-past said is p _ refl in
      record { answer_is = out ∙ wrong; room_is = λ u e ms f. absurd (given-refused (sym (wrong ∙ e))) }

-- the members that a union counts
pub record AsMany (all : Said (List RowMember)) (u : Union) : Type 0 where
  pub list : List RowMember
  pub are : all ≡ gives list
  pub many : length list ≡ u.members

sized-counts : (s attrs : List ℕ) (run : Run) (many : ℕ) {u : Union} → union_sized s attrs run many ≡ gives u → many ≡ u.members
unfolding union_sized
sized-counts s attrs run many p =
    ap (λ (x : Union). x.members)
    (given_is (step-gave (needed run.key (word_of s attrs run attribute.byte_size)) (λ size. gives (union many size (name_of s attrs run attribute.name))) p).2)

pub union-counts : (settings : Settings) (s rows attrs : List ℕ) (n i : ℕ) {u : Union} → union_at settings (lent_rows settings.endian s rows attrs n) i ≡ gives u
    → AsMany (row_members settings (lent_rows settings.endian s rows attrs n) i) u
unfolding union_at
union-counts settings s rows attrs n i {u} p =
    let run : Run = run_of settings.endian rows i in
    let all : (ms : List RowMember) × (row_members settings (lent_rows settings.endian s rows attrs n) i ≡ gives ms) × (union_sized s attrs run (length ms) ≡ gives u) =
    step-gave (row_members settings (lent_rows settings.endian s rows attrs n) i) (λ ms. union_sized s attrs run (length ms)) (past-gave (head_of settings s rows attrs record'.Union i) _ p)
    in
    record { list = all.0; are = all.1; many = sized-counts s attrs run (length all.0) all.2 }

-- ---- into lent room

module _ (settings : Settings) (s rows attrs : List ℕ) (n i : ℕ) (room : List ℕ) {told : Result Union Refusal} (is : said told ≡ union_at settings (lent_rows settings.endian s rows attrs n) i) {u : Union}
    (p : told ≡ Ok u) where
  read_is : union_at settings (lent_rows settings.endian s rows attrs n) i ≡ gives u
  unfolding said
  read_is = sym (case-said said is p)

  these : AsMany (row_members settings (lent_rows settings.endian s rows attrs n) i) u
  these = union-counts settings s rows attrs n i read_is

  abbrev filling : List RowMember → Outcome (Said Union) ℕ
  filling ms = fills_room (leb u.members (length room / member_width)) u (u.members ∷ []) (members_words ms) room

  -- the union and its members are there: they fit, or not
  give-in : {z : Said Union} {room' : List ℕ} → Given (filling these.list) z room' → Given (union_into settings (lent_rows settings.endian s rows attrs n) room i) z room'
  unfolding union_into said in_room
  give-in g = goes_in said is p room _ (goes_in (λ (d : Said (List RowMember)). d) refl these.are room filling g)

  pub give-filled : {z : Said Union} {room' : List ℕ} → u.members ≤ length room / member_width
      → UnionStored (union_at settings (lent_rows settings.endian s rows attrs n) i) (row_members settings (lent_rows settings.endian s rows attrs n) i) z room room'
      → Given (union_into settings (lent_rows settings.endian s rows attrs n) room i) (said_counted (Ok u)) room'
  unfolding said_counted
  give-filled h g =
      give-in
      (fills u (u.members ∷ []) (members_words these.list) room (le-leb u.members (length room / member_width) h) refl
      (g.room_is u read_is these.list these.are))

  pub give-unfit : length room / member_width < u.members → Given (union_into settings (lent_rows settings.endian s rows attrs n) room i) (said_counted (Err (Room u.members))) room
  unfolding said_counted
  give-unfit h = give-in (wants u (u.members ∷ []) (members_words these.list) room (lt-leb u.members (length room / member_width) h) refl refl)
