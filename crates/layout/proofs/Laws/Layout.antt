-- What follows from `Layout` and its ways, for each way that the code comes to an answer.
use Rattle.std.specs.Prelude.{Option, Result, Ok, Err, IsErrAnd}
use Rattle.std.proofs.lemmas.Result.{err_from_is_err_and}
use Rattle.format.specs.Said.{said, said_counted}
use Prim.Native.Nat.{ℕ, suc, ◌+◌, ◌-◌, ◌*◌, ◌/◌, ◌≤◌, ◌<◌}
use native.Mathlib.Nat.{add-zero, zero-add}
use native.Mathlib.Omega.{arith}
use mathlib.Core.Path.{◌≡◌, refl, sym, ap, ap₂, ◌∙◌, subst}
use mathlib.Core.Bool.{Bool, true, false, cond}
use mathlib.Core.List.{List, [], ◌∷◌, ◌++◌}
use lib.ListN.{length, set, length-append}
use lib.Seq.{sets, length-sets}
use lib.Dec.{eqb, leb}
use borrow.Author.Tests.{eq-eqb, ne_eqb, le-leb, lt-leb}
use Rattle.tables.specs.Table.{table, lent_rows}
use Rattle.lent.specs.Outcome.{Outcome, Given}
use Rattle.numbers.proofs.Laws.Tests.{cond-all}
use Rattle.numbers.specs.declared.Endian.{Endian}
use Rattle.format.specs.Limits.{entry_limit, section_limit, depth_limit}
use Rattle.format.specs.AttributeKind as attribute
use Rattle.format.specs.TagKind as tag
use Rattle.format.specs.Said.{Said, gives, refuses, refusal, wanting, ◌>>=◌, ◌>>◌, in_room, fills_room}
use Rattle.format.proofs.Laws.Said.{case-said, goes_on, goes-past, goes_in, comes_in, refused-room, must-passed, must-failed, fills, wants, Of, of-next, given_is, given-refused, past-gave, step-gave}
use Rattle.format.specs.declared.settings.Settings.{Settings}
use Rattle.format.specs.declared.refusal.Refusal.{Refusal}
use Rattle.format.specs.declared.refusal.Reason.TheVariants as reason
use Rattle.format.specs.declared.refusal.Unfilled.{Unfilled}
use Rattle.format.specs.declared.refusal.Unfilled.TheVariants as unfilled
use Rattle.blocks.specs.declared.types.Type.{«Type»}
use Rattle.lent.proofs.Laws.Stores.{sets-append, sets-out}
use Rattle.tables.specs.Row.{row_at}
use Rattle.tables.specs.Inside.Keyed.{refused_at}
use Rattle.tables.specs.declared.row.Row.{Row}
use Rattle.tables.specs.declared.row.Counts.{Counts}
use Rattle.links.specs.Links.{sibling_row, next_row, child_walk}
use Rattle.links.specs.Inside.EachChild.{walk_on, children_from, children_at, first_or, is_ending}
use Rattle.links.proofs.Laws.EachChild.{few-children, children-more}
use Rattle.tables.specs.Keyed.{row_of}
use Rattle.records.specs.Inside.Enumeration.{AskedShort}
use Rattle.records.proofs.Laws.Taken.{test-passed, test-failed}
use Rattle.records.specs.Scan.{run_of}
use Rattle.records.specs.declared.fields.Text.{Text}
use Rattle.records.specs.Fields.{name_of, type_of, offset_field, word_of}
use Rattle.records.specs.Front.{front_of}
use Rattle.records.specs.Member.{bits_by, member_fields, member_at}
use Rattle.records.specs.MemberWords.{name_place, name_length}
use Rattle.records.specs.Unions.{RowMember, member_then}
use Rattle.records.specs.declared.taken.Record.TheVariants as record'
use Rattle.records.specs.declared.scan.Run.{Run}
use Rattle.records.specs.declared.member.Member.{Member}
use Rattle.sizes.specs.Size.{shape_of, is_structure, member_child_then, member_rows_from, members_of, size_or, member_size, type_size}
use Rattle.sizes.specs.Inside.Prepare.{structure_fault}
use Rattle.sizes.specs.Inside.Size.{Extent, EndsShort, said_added, with_size, grown, member_added, entry_size_from, type_size_from}
use Rattle.sizes.specs.Inside.Kept.{AllKept, LayoutAsked}
use Rattle.layout.specs.Layout.{Laid, Lay, lay, laid_member, end_or, laid_from, has_byte_size, size_or_largest, own_size, row_lay, layout_of, layout_at, laid_words, laid_width, layout_into, layout_of_key}
use Rattle.layout.specs.Inside.Layout.{laid_at, sized_laid, added_laid, LayAsked, lay_before, lay_on, read_laid, child_laid, children_laid, structure_laid, Progress, said_laying, laying_of, Lays, WholeLaid}
use Rattle.sizes.proofs.Laws.Walking.{Walking, walking-begins, walking-ends, walking-stops, walking-asked, walking-less, walking_on}
use Rattle.sizes.proofs.Laws.Prepare.{AllRead, fault-members, refused-members}
use Rattle.sizes.proofs.Laws.Size.{walk-ending, walk-members}
use Rattle.sizes.specs.declared.kept.Added.{Added}
use Rattle.layout.specs.declared.one.Layout.{Layout}
use Rattle.layout.specs.declared.one.Laying.{Laying}

-- so many are laid, with this largest end
abbrev progress : ℕ → ℕ → Progress
progress count largest = record { count = count; largest = largest }

-- the same, as the code has it
abbrev laying : ℕ → ℕ → Laying
laying count largest = record { count = count; largest = largest }

-- a member at a row
abbrev placed : ℕ → Member → RowMember
placed c m = record { row = c; member = m }

-- ---- a member's end

pub end-bounded : {bounded : Bool} (key largest end : ℕ) → bounded ≡ true → said (Ok largest) ≡ end_or bounded key largest end
unfolding end_or said
end-bounded key largest end t = test-passed refl _ t refl

pub end-grown : {bounded : Bool} (rows : List ℕ) (c largest offset size : ℕ) {z : Said ℕ} → bounded ≡ false → z ≡ grown rows c largest offset size
    → z ≡ end_or bounded (row_at rows c).key largest (offset + size)
unfolding end_or grown
end-grown rows c largest offset size t h = test-failed refl _ t h

-- ---- a member's words

pub laid-put : (e : Endian) (s rows attrs : List ℕ) (c offset size : ℕ) (t : List ℕ) (at : ℕ) {run : Run} {name : (Option Text)} {place long : ℕ} {t₁ t₂ t₃ t₄ : List ℕ}
    → run ≡ run_of e rows c → name ≡ name_of s attrs run attribute.name → t₁ ≡ set t at offset → t₂ ≡ set t₁ (at + 1) size
    → place ≡ name_place name → t₃ ≡ set t₂ (at + 2) place → long ≡ name_length name → t₄ ≡ set t₃ (at + 3) long
    → t₄ ≡ sets t at (laid_words (laid_at e s rows attrs c offset size ∷ []))
unfolding laid_words laid_at
laid-put e s rows attrs c offset size t at {name = name} {place = place} {long = long} run_is name-is a b p x q y =
    let here : name ≡ name_of s attrs (run_of e rows c) attribute.name = name-is ∙ ap (λ (r : Run). name_of s attrs r attribute.name) run_is in
    let begins : place ≡ name_place (name_of s attrs (run_of e rows c) attribute.name) = p ∙ ap name_place here in
    let lasts : long ≡ name_length (name_of s attrs (run_of e rows c) attribute.name) = q ∙ ap name_length here in
    let one : at + 1 ≡ suc at = omega arith in
    let two : at + 2 ≡ suc (suc at) = omega arith in
    let three : at + 3 ≡ suc (suc (suc at)) = omega arith in
    y ∙ rw (x, b, a, begins, lasts, one, two, three)

-- record k of room that has not k words is nowhere in it
pub laid_out : (t : List ℕ) (k : ℕ) (x : Laid) → length t ≤ k → t ≡ sets t (k * laid_width) (laid_words (x ∷ []))
laid_out t k x h = sym (sets-out t (k * laid_width) (laid_words (x ∷ [])) (omega arith))

words_append : (xs ys : List Laid) → laid_words (xs ++ ys) ≡ laid_words xs ++ laid_words ys
unfolding laid_words
words_append [] ys = refl
words_append (x ∷ xs) ys = ap (λ (zs : List ℕ). x.offset ∷ x.size ∷ x.place ∷ x.length ∷ zs) (words_append xs ys)

pub words_long : (xs : List Laid) → length (laid_words xs) ≡ length xs * laid_width
unfolding laid_words
words_long [] = refl
words_long (x ∷ xs) =
    let rest : length (laid_words xs) ≡ length xs * laid_width = words_long xs in
    omega arith

-- ---- the ways of an answer

module _ {d : Said Lay} {k : ℕ} {room room' : List ℕ} where
  lays-laid : {l : Lay} {count : ℕ} → gives l ≡ d → count ≡ k + length l.members → room' ≡ sets room (k * laid_width) (laid_words l.members)
      → Lays d k (Ok (laying count l.largest)) room room'
  unfolding said_laying laying_of ◌>>=◌
  lays-laid {l} p c q =
      record {
        answer_is = ap (λ (x : ℕ). gives (progress x l.largest)) c ∙ ap (laying_of k) p;
        room_is = λ m e. q ∙ ap (λ (x : Lay). sets room (k * laid_width) (laid_words x.members)) (given_is (p ∙ e));
        same_room = ap length q ∙ length-sets room (k * laid_width) (laid_words l.members);
      }

  -- at an exit
  lays-unlaid : (why : Refusal) (z : Result Laying Refusal) → IsErrAnd z (λ e. e ≡ why) → refusal why ≡ d → length room' ≡ length room → Lays d k z room room'
  unfolding said_laying laying_of ◌>>=◌
  lays-unlaid why z exits p q =
      let out = err_from_is_err_and z exits in
      record {
        answer_is = ap said_laying out.1 ∙ ap refusal out.2 ∙ ap (laying_of k) p;
        room_is = λ m e. absurd (given-refused (sym (p ∙ e)));
        same_room = q;
      }

-- ---- a member whose size is noted

module _ (e : Endian) (s rows attrs : List ℕ) (bounded : Bool) (largest c offset size : ℕ) where
  abbrev ending : ℕ → Lay
  ending next = lay (laid_at e s rows attrs c offset size ∷ []) next

  module _ {end : (Result ℕ Refusal)} (is : said end ≡ end_or bounded (row_at rows c).key largest (offset + size)) where
    pub sized-laid : {next k : ℕ} {room room' : List ℕ} → end ≡ Ok next → room' ≡ sets room (k * laid_width) (laid_words (laid_at e s rows attrs c offset size ∷ []))
        → Lays (sized_laid e s rows attrs bounded largest c offset size) k (Ok (laying (k + 1) next)) room room'
    unfolding sized_laid said ◌>>=◌
    sized-laid {next} p h = lays-laid {l = ending next} (goes_on said is p (λ x. gives (ending x)) refl) refl h

    pub sized-endless : {why : Refusal} {k : ℕ} {room : List ℕ} → end ≡ Err why → (z : Result Laying Refusal) → IsErrAnd z (λ e. e ≡ why)
        → Lays (sized_laid e s rows attrs bounded largest c offset size) k z room room
    unfolding sized_laid said ◌>>=◌
    sized-endless {why} p z exits = lays-unlaid why z exits (goes_on said is p (λ x. gives (ending x)) refl) refl

-- ---- a member's name is what its row says

pub member-name : (settings : Settings) (s rows attrs : List ℕ) (n c : ℕ) {m : Member} → member_at settings (lent_rows settings.endian s rows attrs n) c ≡ gives m
    → m.name ≡ name_of s attrs (run_of settings.endian rows c) attribute.name
unfolding member_at member_fields
member-name settings s rows attrs n c p =
    let run : Run = run_of settings.endian rows c in
    let named : Member → Type 0 = λ m. m.name ≡ name_of s attrs run attribute.name in
    subst (Of named) (past-gave (front_of settings (lent_rows settings.endian s rows attrs n) record'.Member c) (member_fields s attrs run) p)
    (of-next named (type_of s attrs run) _
    (λ of. of-next named (offset_field s attrs run) _
    (λ offset. of-next named (bits_by run.key (word_of s attrs run attribute.bit_size) (word_of s attrs run attribute.bit_offset)) _ (λ b. refl))))

-- ---- one child

-- what a member adds, laid, is the member laid
module _ (settings : Settings) (s rows attrs : List ℕ) (n : ℕ) (size_of : «Type» → Said ℕ) (bounded : Bool) (largest c : ℕ) where
  abbrev adds : Said Extent → Said Lay
  adds d = added_laid settings.endian s rows attrs bounded largest c d

  sized-adds : (m : Member) → m.name ≡ name_of s attrs (run_of settings.endian rows c) attribute.name → (x : Said ℕ) → member_size size_of (placed c m) ≡ x
      → adds (with_size m.offset x) ≡ laid_from rows size_of bounded largest (placed c m ∷ [])
  unfolding with_size added_laid sized_laid laid_from laid_at laid_member ◌>>=◌
  sized-adds m p (gives size) q =
      ap (λ (name : (Option Text)). end_or bounded (row_at rows c).key largest (m.offset + size) >>= λ next.
      gives (lay (record { offset = m.offset; size = size; place = name_place name; length = name_length name } ∷ []) next)) (sym p)
      ∙ ap (λ (x : Said ℕ). x >>= λ size. end_or bounded (row_at rows c).key largest (m.offset + size) >>= λ next. gives (lay (laid_member (placed c m) size ∷ []) next)) (sym q)
  sized-adds m p (refuses number place counts) q =
      ap (λ (x : Said ℕ). x >>= λ size. end_or bounded (row_at rows c).key largest (m.offset + size) >>= λ next. gives (lay (laid_member (placed c m) size ∷ []) next)) (sym q)

  read-adds : (d : Said Member) → member_at settings (lent_rows settings.endian s rows attrs n) c ≡ d
      → adds (d >>= λ m. with_size m.offset (size_or size_of m.of m.byte_size)) ≡ read_laid rows size_of bounded largest c d
  unfolding read_laid added_laid member_size ◌>>=◌
  read-adds (gives m) p = sized-adds m (member-name settings s rows attrs n c p) (member_size size_of (placed c m)) refl
  read-adds (refuses number place counts) p = refl

  module _ {row : Row} (at : row ≡ row_at rows c) where
    module _ (h : row.kind ≡ tag.member) {told : Result Added Refusal} (is : said_added told ≡ member_added settings s rows attrs n size_of c) where
      child-adds : {x : Result Added Refusal} → told ≡ x → adds (said_added x) ≡ child_laid settings s rows attrs n size_of bounded largest c
      unfolding child_laid member_added
      child-adds p =
          let test : eqb (row_at rows c).kind tag.member ≡ true = eq-eqb (row_at rows c).kind tag.member (ap (λ (r : Row). r.kind) (sym at) ∙ h) in
          ap adds (case-said said_added is p) ∙ read-adds (member_at settings (lent_rows settings.endian s rows attrs n) c) refl ∙ sym (rw test)

      pub child-sized : {x : Added} {k : ℕ} {r : Result Laying Refusal} {room room' : List ℕ} → told ≡ Ok x
          → Lays (sized_laid settings.endian s rows attrs bounded largest c x.offset x.size) k r room room'
          → Lays (child_laid settings s rows attrs n size_of bounded largest c) k r room room'
      unfolding added_laid said_added ◌>>=◌
      child-sized {k = k} {r = r} {room = room} {room' = room'} p g = subst (λ (d : Said Lay). Lays d k r room room') (child-adds p) g

      pub child-refused : {why : Refusal} {k : ℕ} {room : List ℕ} → told ≡ Err why → (z : Result Laying Refusal) → IsErrAnd z (λ e. e ≡ why)
          → Lays (child_laid settings s rows attrs n size_of bounded largest c) k z room room
      unfolding added_laid said_added ◌>>=◌
      child-refused {why} p z exits = lays-unlaid why z exits (child-adds p) refl

    pub child-other : {k : ℕ} {room : List ℕ} → (row.kind ≡ tag.member → ⊥)
        → Lays (child_laid settings s rows attrs n size_of bounded largest c) k (Ok (laying k largest)) room room
    unfolding child_laid laid_words
    child-other {k} h =
        let test : eqb (row_at rows c).kind tag.member ≡ false = ne_eqb (row_at rows c).kind tag.member (λ z. h (ap (λ (r : Row). r.kind) at ∙ z)) in
        let other : gives (lay [] largest) ≡ child_laid settings s rows attrs n size_of bounded largest c = sym (rw test) in
        lays-laid {l = lay [] largest} other (sym (add-zero k)) refl

-- ---- a child is one member at most

abbrev FewLaid : Lay → Type 0
FewLaid l = length l.members ≤ 1

few-from : (rows : List ℕ) (size_of : «Type» → Said ℕ) (bounded : Bool) (largest : ℕ) (m : RowMember) → Of FewLaid (laid_from rows size_of bounded largest (m ∷ []))
unfolding laid_from ◌>>=◌
few-from rows size_of bounded largest m =
    of-next FewLaid (member_size size_of m) (λ size. end_or bounded (row_at rows m.row).key largest (m.member.offset + size) >>= λ next. gives (lay (laid_member m size ∷ []) next))
    (λ size. of-next FewLaid (end_or bounded (row_at rows m.row).key largest (m.member.offset + size)) (λ next. gives (lay (laid_member m size ∷ []) next))
    (λ next. omega arith))

few-child : (settings : Settings) (s rows attrs : List ℕ) (n : ℕ) (size_of : «Type» → Said ℕ) (bounded : Bool) (largest c : ℕ)
    → Of FewLaid (child_laid settings s rows attrs n size_of bounded largest c)
unfolding child_laid read_laid
few-child settings s rows attrs n size_of bounded largest c =
    cond-all (Of FewLaid) (eqb (row_at rows c).kind tag.member)
    (λ t. of-next FewLaid (member_at settings (lent_rows settings.endian s rows attrs n) c) _ (λ m. few-from rows size_of bounded largest (placed c m)))
    (λ t. omega arith)

one_more : (k : ℕ) (x : Laying) (d : Said Lay) → Of FewLaid d → said_laying (Ok x) ≡ laying_of k d → x.count ≤ k + 1
unfolding said_laying laying_of ◌>>=◌
one_more k x (gives l) few p =
    let many : x.count ≡ k + length l.members = ap (λ (x : Progress). x.count) (given_is p) in
    let one : length l.members ≤ 1 = few in
    omega arith
one_more k x (refuses number place counts) few p = absurd (given-refused p)

-- ---- the loop over children

unfoldable pub room_of : ℕ → List ℕ → Said Lay → List ℕ
room_of k room (gives l) = sets room (k * laid_width) (laid_words l.members)
room_of k room (refuses number place counts) = []

unfoldable pub filled : ℕ → List ℕ → Said Lay → Outcome (Said Progress) ℕ
filled k room d = record { answer = laying_of k d; room = room_of k room d }

abbrev filling : Said Progress → List ℕ → Outcome (Said Progress) ℕ
filling answer room = record { answer = answer; room = room }

-- what was laid before, and what follows
before-filled : (k : ℕ) (room : List ℕ) (xs : List Laid) (d : Said Lay)
    → filled (k + length xs) (sets room (k * laid_width) (laid_words xs)) d ≡ filled k room (lay_before xs d)
unfolding filled laying_of room_of lay_before ◌>>=◌
before-filled k room xs (gives l) =
    let ys : List Laid = l.members in
    let many : length (xs ++ ys) ≡ length xs + length ys = length-append xs ys in
    let count : k + length xs + length ys ≡ k + length (xs ++ ys) = omega arith in
    let long : length (laid_words xs) ≡ length xs * laid_width = words_long xs in
    let place : (k + length xs) * laid_width ≡ k * laid_width + length (laid_words xs) = omega arith in
    ap₂ filling (ap (λ (x : ℕ). gives (progress x l.largest)) count)
    (ap (λ (at : ℕ). sets (sets room (k * laid_width) (laid_words xs)) at (laid_words ys)) place
    ∙ sym (sets-append room (k * laid_width) (laid_words xs) (laid_words ys))
    ∙ ap (sets room (k * laid_width)) (sym (words_append xs ys)))
before-filled k room xs (refuses number place counts) = refl

module _ {k : ℕ} {room room' : List ℕ} (next : ℕ → Said Lay) where
  on-laid : (d : Said Lay) {x : Laying} → Lays d k (Ok x) room room' → filled x.count room' (next x.largest) ≡ filled k room (lay_on next d)
  unfolding lay_on said_laying laying_of ◌>>=◌
  on-laid (gives l) g =
      ap (λ (x : Progress). filled x.count room' (next x.largest)) (given_is g.answer_is)
      ∙ ap (λ (x : List ℕ). filled (k + length l.members) x (next l.largest)) (g.room_is l refl)
      ∙ before-filled k room l.members (next l.largest)
  on-laid (refuses number place counts) g = absurd (given-refused g.answer_is)

  on-refused : (d : Said Lay) {why : Refusal} → Lays d k (Err why) room room' → filling (refusal why) [] ≡ filled k room (lay_on next d)
  unfolding lay_on said_laying laying_of filled room_of ◌>>=◌
  on-refused (gives l) g = absurd (given-refused (sym g.answer_is))
  on-refused (refuses number place counts) g = ap (λ (x : Said Progress). filling x []) g.answer_is

-- from child c on, what is left comes to the whole
pub record Laying' (settings : Settings) (s rows attrs : List ℕ) (n end : ℕ) (size_of : «Type» → Said ℕ) (bounded : Bool) (all : Said Lay) (room₀ room : List ℕ)
    (c k most : ℕ) : Type 0 where
  pub walking : Walking settings.endian s rows attrs n end (λ (cs : List ℕ). filled k room (children_laid settings s rows attrs n size_of bounded most cs)) (filled 0 room₀ all) c
  pub counted : k + length (children_from settings.endian s rows attrs n end c) ≤ n
  pub same_room : length room ≡ length room₀
  pub short : length s < section_limit

pub laying-begins : (settings : Settings) (s rows attrs : List ℕ) (n : ℕ) (size_of : «Type» → Said ℕ) (bounded : Bool) (i : ℕ) (room : List ℕ) {end from c : ℕ}
    → end ≡ sibling_row (lent_rows settings.endian s rows attrs n) i → from ≡ next_row rows n i → EndsShort settings s rows attrs n i
    → c ≡ first_or n (children_from settings.endian s rows attrs n end from)
    → Laying' settings s rows attrs n end size_of bounded (children_laid settings s rows attrs n size_of bounded 0 (children_at settings.endian s rows attrs n i)) room room c 0 0
laying-begins settings s rows attrs n size_of bounded i room {end} {from} {c} p q w is =
    let few : length (children_from settings.endian s rows attrs n end c) ≤ n = few-children settings.endian s rows attrs n end c in
    record {
      walking =
          walking-begins settings.endian s rows attrs n i (λ (cs : List ℕ). filled 0 room (children_laid settings s rows attrs n size_of bounded 0 cs)) p q w.ends_at is;
      counted = omega arith;
      same_room = refl;
      short = w.short;
    }

module _ {settings : Settings} {s rows attrs : List ℕ} {n end : ℕ} {size_of : «Type» → Said ℕ} {bounded : Bool} {all : Said Lay} {room₀ room : List ℕ} {c k most : ℕ}
    (w : Laying' settings s rows attrs n end size_of bounded all room₀ room c k most) where
  -- no child is left
  pub laying-ends : n ≤ c → Lays all 0 (Ok (laying k most)) room₀ room
  unfolding children_laid said_laying filled laying_of room_of laid_words ◌>>=◌
  laying-ends l =
      let done : filled k room (gives (lay [] most)) ≡ filled 0 room₀ all = walking-ends w.walking l in
      record {
        answer_is = ap (λ (x : ℕ). gives (progress x most)) (sym (add-zero k)) ∙ ap (λ (o : Outcome (Said Progress) ℕ). o.answer) done;
        room_is = λ x e. ap (λ (o : Outcome (Said Progress) ℕ). o.room) (done ∙ ap (filled 0 room₀) e);
        same_room = w.same_room;
      }

  module _ (l : c < n) where
    pub laying-asked : LayAsked s rows n c k
    laying-asked =
        let some : length (children_from settings.endian s rows attrs n end c) ≡ suc (length (children_from settings.endian s rows attrs n end (sibling_row (lent_rows settings.endian s rows attrs n) c))) =
        ap length (children-more settings.endian s rows attrs n end w.walking.on w.walking.first l) in
        let most' : k + length (children_from settings.endian s rows attrs n end c) ≤ n = w.counted in
        let few : n ≤ entry_limit = w.walking.on.table.few in
        record { asked = record { asked = walking-asked w.walking l; short = w.short }; count_small = omega arith }

    module _ {told : Result Laying Refusal} {room' : List ℕ} (g : Lays (child_laid settings s rows attrs n size_of bounded most c) k told room room') where
      module _ {x : Laying} (q : told ≡ Ok x) {d c' : ℕ} (p : d ≡ sibling_row (lent_rows settings.endian s rows attrs n) c)
          (is : c' ≡ first_or n (children_from settings.endian s rows attrs n end d)) where
        pub laying-on : Laying' settings s rows attrs n end size_of bounded all room₀ room' c' x.count x.largest
        unfolding children_laid
        laying-on =
            let child : Lays (child_laid settings s rows attrs n size_of bounded most c) k (Ok x) room room' =
            subst (λ (x : Result Laying Refusal). Lays (child_laid settings s rows attrs n size_of bounded most c) k x room room') q g in
            let less : length (children_from settings.endian s rows attrs n end c') < length (children_from settings.endian s rows attrs n end c) =
            walking-less w.walking l p is in
            let one : x.count ≤ k + 1 =
            one_more k x (child_laid settings s rows attrs n size_of bounded most c) (few-child settings s rows attrs n size_of bounded most c) child.answer_is in
            let many : k + length (children_from settings.endian s rows attrs n end c) ≤ n = w.counted in
            record {
              walking =
                  walking_on w.walking l p is
                  (λ cs. on-laid (λ next. children_laid settings s rows attrs n size_of bounded next cs) (child_laid settings s rows attrs n size_of bounded most c) child);
              counted = omega arith;
              same_room = g.same_room ∙ w.same_room;
              short = w.short;
            }

      -- a child is refused
      pub laying_refused : {why : Refusal} → told ≡ Err why → (z : Result Laying Refusal) → IsErrAnd z (λ e. e ≡ why) → Lays all 0 z room₀ room'
      unfolding children_laid said_laying filled laying_of ◌>>=◌
      laying_refused {why} q z exits =
          let child : Lays (child_laid settings s rows attrs n size_of bounded most c) k (Err why) room room' =
          subst (λ (x : Result Laying Refusal). Lays (child_laid settings s rows attrs n size_of bounded most c) k x room room') q g in
          let done : filling (refusal why) [] ≡ filled 0 room₀ all =
          walking-stops w.walking l
          (λ cs. on-refused (λ next. children_laid settings s rows attrs n size_of bounded next cs) (child_laid settings s rows attrs n size_of bounded most c) child) in
          let answer : refusal why ≡ laying_of 0 all = ap (λ (o : Outcome (Said Progress) ℕ). o.answer) done in
          let out = err_from_is_err_and z exits in
          record {
            answer_is = ap said_laying out.1 ∙ ap refusal out.2 ∙ answer;
            room_is = λ x e. absurd (given-refused (sym (answer ∙ ap (laying_of 0) e)));
            same_room = g.same_room ∙ w.same_room;
          }

-- ---- children one at a time are the members among them, where all of these were read

before-none : (d : Said Lay) → lay_before [] d ≡ d
unfolding lay_before ◌>>=◌
before-none (gives l) = refl
before-none (refuses number place counts) = refl

-- one member, and what was laid after it
abbrev with_laid : Laid → Lay → Said Lay
with_laid x l = gives (lay (x ∷ l.members) l.largest)

module _ (f g : ℕ → Said Lay) (same : (x : ℕ) → f x ≡ g x) where
  -- an end, then what goes on from it
  end-then : (x : Laid) (d : Said ℕ) → lay_on f (d >>= λ next. gives (lay (x ∷ []) next)) ≡ (d >>= λ next. g next >>= with_laid x)
  unfolding lay_on lay_before ◌>>=◌
  end-then x (gives next) = ap (λ (d : Said Lay). d >>= with_laid x) (same next)
  end-then x (refuses number place counts) = refl

  -- the same, after a size
  sized-then : (x : ℕ → Laid) (e : ℕ → Said ℕ) (d : Said ℕ)
      → lay_on f (d >>= λ size. e size >>= λ next. gives (lay (x size ∷ []) next)) ≡ (d >>= λ size. e size >>= λ next. g next >>= with_laid (x size))
  unfolding lay_on ◌>>=◌
  sized-then x e (gives size) = end-then (x size) (e size)
  sized-then x e (refuses number place counts) = refl

module _ (rows : List ℕ) (size_of : «Type» → Said ℕ) (bounded : Bool) (c largest : ℕ) (f : ℕ → Said Lay) where
  from_then : (m : RowMember) (ms : List RowMember) → ((x : ℕ) → f x ≡ laid_from rows size_of bounded x ms)
      → lay_on f (laid_from rows size_of bounded largest (m ∷ [])) ≡ laid_from rows size_of bounded largest (m ∷ ms)
  unfolding laid_from ◌>>=◌
  from_then m ms same =
      sized-then f (λ x. laid_from rows size_of bounded x ms) same (laid_member m) (λ size. end_or bounded (row_at rows m.row).key largest (m.member.offset + size))
      (member_size size_of m)

  module _ (all : Said (List RowMember)) (ms : List RowMember) (same : (xs : List RowMember) → all ≡ gives xs → (x : ℕ) → f x ≡ laid_from rows size_of bounded x xs) where
    abbrev before : Member → Said (List RowMember)
    before m = all >>= λ xs. gives (placed c m ∷ xs)

    read-then : (d : Said Member) → (d >>= before) ≡ gives ms → lay_on f (read_laid rows size_of bounded largest c d) ≡ laid_from rows size_of bounded largest ms
    unfolding read_laid ◌>>=◌
    read-then d p =
        let one : (m : Member) × (d ≡ gives m) × (before m ≡ gives ms) = step-gave d before p in
        let others : (xs : List RowMember) × (all ≡ gives xs) × (gives (placed c one.0 ∷ xs) ≡ gives ms) = step-gave all (λ xs. gives (placed c one.0 ∷ xs)) one.2 in
        ap (λ (x : Said Member). lay_on f (read_laid rows size_of bounded largest c x)) one.1
        ∙ from_then (placed c one.0) others.0 (same others.0 others.1)
        ∙ ap (laid_from rows size_of bounded largest) (given_is others.2)

    -- a child of whatever kind
    child-then : (b : Bool) (d : Said Member) → cond b (d >>= before) all ≡ gives ms
        → lay_on f (cond b (read_laid rows size_of bounded largest c d) (gives (lay [] largest))) ≡ laid_from rows size_of bounded largest ms
    unfolding lay_on ◌>>=◌
    child-then true d p = read-then d p
    child-then false d p = before-none (f largest) ∙ same ms p largest

module _ (settings : Settings) (s rows attrs : List ℕ) (n : ℕ) (size_of : «Type» → Said ℕ) (bounded : Bool) where
  laid-members : (largest : ℕ) (cs : List ℕ) {ms : List RowMember} → member_rows_from settings (lent_rows settings.endian s rows attrs n) cs ≡ gives ms
      → children_laid settings s rows attrs n size_of bounded largest cs ≡ laid_from rows size_of bounded largest ms
  unfolding member_rows_from member_child_then member_then children_laid child_laid laid_from
  laid-members largest [] p = ap (laid_from rows size_of bounded largest) (given_is p)
  laid-members largest (c ∷ cs) {ms} p =
      child-then rows size_of bounded c largest (λ next. children_laid settings s rows attrs n size_of bounded next cs) (member_rows_from settings (lent_rows settings.endian s rows attrs n) cs) ms
      (λ xs q x. laid-members x cs q) (eqb (row_at rows c).kind tag.member) (member_at settings (lent_rows settings.endian s rows attrs n) c) p

-- ---- a structure

module _ (settings : Settings) (s rows attrs : List ℕ) (n i : ℕ) where
  clear-ending : structure_fault settings s rows attrs n i ≡ gives tt → is_ending (child_walk (lent_rows settings.endian s rows attrs n) i) ≡ true
  unfolding structure_fault
  clear-ending p = walk-ending settings s rows attrs n i (child_walk (lent_rows settings.endian s rows attrs n) i) p

  clear-members : structure_fault settings s rows attrs n i ≡ gives tt
      → member_rows_from settings (lent_rows settings.endian s rows attrs n) (children_at settings.endian s rows attrs n i) ≡ members_of settings (lent_rows settings.endian s rows attrs n) i
  unfolding children_at children_from walk_on child_walk members_of
  clear-members p = walk-members settings s rows attrs n i (row_at rows i).key (child_walk (lent_rows settings.endian s rows attrs n) i) (clear-ending p)

  abbrev children : («Type» → Said ℕ) → Bool → Said Lay
  children size_of bounded = children_laid settings s rows attrs n size_of bounded 0 (children_at settings.endian s rows attrs n i)

  module _ {told : (Result Unit Refusal)} (is : said told ≡ structure_fault settings s rows attrs n i) where
    pub clear-asked : told ≡ Ok tt → AskedShort s rows n i → EndsShort settings s rows attrs n i
    unfolding walk_on child_walk said
    clear-asked p w =
        record {
          ends_at = record { asked = w.asked; ending = record { table = w.asked.table; ending = clear-ending (sym (case-said said is p)) } };
          short = w.short;
        }

    module _ (size_of : «Type» → Said ℕ) (bounded : Bool) {room : List ℕ} where
      pub structure-laid : {r : Result Laying Refusal} {room' : List ℕ} → told ≡ Ok tt → Lays (children size_of bounded) 0 r room room'
          → Lays (structure_laid settings s rows attrs n size_of bounded i) 0 r room room'
      unfolding structure_laid said ◌>>◌
      structure-laid {r = r} {room' = room'} p g = subst (λ (d : Said Lay). Lays d 0 r room room') (goes-past said is p (children size_of bounded) refl) g

      pub structure-faulty : {why : Refusal} → told ≡ Err why → (z : Result Laying Refusal) → IsErrAnd z (λ e. e ≡ why)
          → Lays (structure_laid settings s rows attrs n size_of bounded i) 0 z room room
      unfolding structure_laid said ◌>>◌
      structure-faulty {why} p z exits = lays-unlaid why z exits (goes-past said is p (children size_of bounded) refl) refl

  -- a structure or class of a table that was tested
  pub layout-asked : {sizes noted kept : List ℕ} {row : Row} {b : Bool} → AskedShort s rows n i → AllKept settings sizes s rows attrs n noted kept → row ≡ row_at rows i
      → b ≡ is_structure (shape_of row.kind) → b ≡ true → LayoutAsked settings sizes s rows attrs n noted kept i
  layout-asked w k at is t =
      record { asked = w; structure = ap (λ (r : Row). is_structure (shape_of r.kind)) (sym at) ∙ sym is ∙ t; all_kept = k }

  -- the members of a row, however they came
  module _ (size_of : «Type» → Said ℕ) where
    abbrev own : (Option ℕ)
    own = own_size settings s rows attrs i

    abbrev laid_members : List RowMember → Said Lay
    laid_members ms = laid_from rows size_of (has_byte_size own) 0 ms

    fault-laid : (d : Said Unit) → structure_fault settings s rows attrs n i ≡ d
        → (d >> children size_of (has_byte_size own)) ≡ (members_of settings (lent_rows settings.endian s rows attrs n) i >>= laid_members)
    unfolding ◌>>◌ ◌>>=◌
    fault-laid (gives x) p =
        let all : AllRead (members_of settings (lent_rows settings.endian s rows attrs n) i) = fault-members settings s rows attrs n i p in
        laid-members settings s rows attrs n size_of (has_byte_size own) 0 (children_at settings.endian s rows attrs n i) (clear-members p ∙ all.are)
        ∙ ap (λ (d : Said (List RowMember)). d >>= laid_members) (sym all.are)
    fault-laid (refuses number place counts) p = ap (λ (d : Said (List RowMember)). d >>= laid_members) (sym (refused-members settings s rows attrs n i p))

    -- what was laid, as a layout
    abbrev as_layout : Progress → Layout
    as_layout x = record { row = i; size = size_or_largest x.largest own; members = x.count }

    laying-layout : (d : Said Lay) → (laying_of 0 d >>= λ x. gives (as_layout x)) ≡ (d >>= λ l. gives (layout_of settings (lent_rows settings.endian s rows attrs n) size_of i l))
    unfolding laying_of layout_of ◌>>=◌
    laying-layout (gives l) = ap (λ (k : ℕ). gives (as_layout (progress k l.largest))) (zero-add (length l.members))
    laying-layout (refuses number place counts) = refl

    abbrev RowAnswer : Result Layout Refusal → List ℕ → List ℕ → Type 0
    RowAnswer r room room' = WholeLaid (layout_at settings (lent_rows settings.endian s rows attrs n) size_of i) (row_lay settings (lent_rows settings.endian s rows attrs n) size_of i) r room room'

    module _ {row : Row} {b : Bool} (at : row ≡ row_at rows i) (is : b ≡ is_structure (shape_of row.kind)) where
      kind_is : b ≡ is_structure (shape_of (row_at rows i).kind)
      kind_is = is ∙ ap (λ (r : Row). is_structure (shape_of r.kind)) at

      pub whole-other : {why : Refusal} {room : List ℕ} → b ≡ false → why ≡ refused_at row.key reason.Kind → RowAnswer (Err why) room room
      unfolding layout_at row_lay said ◌>>=◌
      whole-other {why} t q =
          let other : refusal why ≡ row_lay settings (lent_rows settings.endian s rows attrs n) size_of i =
          must-failed kind_is reason.Kind (row_at rows i).key (members_of settings (lent_rows settings.endian s rows attrs n) i >>= laid_members) t
          (ap refusal (q ∙ ap (λ (r : Row). refused_at r.key reason.Kind) at))
          in
          record {
            answer_is = ap (λ (d : Said Lay). d >>= λ l. gives (layout_of settings (lent_rows settings.endian s rows attrs n) size_of i l)) other;
            room_is = λ l e. absurd (given-refused (sym (other ∙ e)));
          }

      module _ (t : b ≡ true) {run : Run} {word : (Option ℕ)} {bounded : Bool} (at' : run ≡ run_of settings.endian rows i)
          (own_is : word ≡ word_of s attrs run attribute.byte_size) (bounded-is : bounded ≡ has_byte_size word) where
        own-size : word ≡ own
        unfolding own_size
        own-size = own_is ∙ ap (λ (x : Run). word_of s attrs x attribute.byte_size) at'

        row_laid : structure_laid settings s rows attrs n size_of bounded i ≡ row_lay settings (lent_rows settings.endian s rows attrs n) size_of i
        unfolding structure_laid row_lay
        row_laid =
            must-passed kind_is reason.Kind (row_at rows i).key (members_of settings (lent_rows settings.endian s rows attrs n) i >>= laid_members) t
            (ap (λ (x : Bool). structure_laid settings s rows attrs n size_of x i) (bounded-is ∙ ap has_byte_size own-size)
            ∙ fault-laid (structure_fault settings s rows attrs n i) refl)

        module _ {told : Result Laying Refusal} {room room' : List ℕ} (g : Lays (structure_laid settings s rows attrs n size_of bounded i) 0 told room room') where
          row-answer : {x : Result Laying Refusal} {r : (Result Layout Refusal)} → told ≡ x → said r ≡ (said_laying x >>= λ y. gives (as_layout y)) → RowAnswer r room room'
          unfolding layout_at
          row-answer p h =
              record {
                answer_is =
                    goes_on said_laying (g.answer_is ∙ ap (laying_of 0) row_laid) p (λ y. gives (as_layout y)) h
                    ∙ laying-layout (row_lay settings (lent_rows settings.endian s rows attrs n) size_of i);
                room_is = λ l e. g.room_is l (row_laid ∙ e);
              }

          pub whole-laid : {x : Laying} {size : ℕ} → told ≡ Ok x → size ≡ size_or_largest x.largest word
              → RowAnswer (Ok (record { row = i; size = size; members = x.count })) room room'
          unfolding said said_laying ◌>>=◌
          whole-laid {x} p q =
              row-answer p (ap (λ (size : ℕ). gives (record { row = i; size = size; members = x.count })) (q ∙ ap (size_or_largest x.largest) own-size))

          pub whole-refused : {why : Refusal} → told ≡ Err why → (z : Result Layout Refusal) → IsErrAnd z (λ e. e ≡ why) → RowAnswer z room room'
          unfolding said said_laying ◌>>=◌
          whole-refused p z exits = let out = err_from_is_err_and z exits in row-answer p (ap said out.1 ∙ ap refusal out.2)

-- ---- into lent room

-- so many members fit
abbrev pub fitting : List ℕ → Lay → Bool
fitting room l = leb (length l.members) (length room / laid_width)

-- a layout is that of what was laid
pub record LaidAs (d : Said Lay) (whole : Lay → Layout) (x : Layout) : Type 0 where
  pub laid : Lay
  pub are : d ≡ gives laid
  pub same : whole laid ≡ x

module _ (settings : Settings) (s rows attrs : List ℕ) (n : ℕ) (size_of : «Type» → Said ℕ) (i : ℕ) where
  abbrev whole_of : Lay → Layout
  whole_of l = layout_of settings (lent_rows settings.endian s rows attrs n) size_of i l

  pub laid_as : {x : Layout} → layout_at settings (lent_rows settings.endian s rows attrs n) size_of i ≡ gives x → LaidAs (row_lay settings (lent_rows settings.endian s rows attrs n) size_of i) whole_of x
  unfolding layout_at
  laid_as {x} p =
      let all : (l : Lay) × (row_lay settings (lent_rows settings.endian s rows attrs n) size_of i ≡ gives l) × (gives (whole_of l) ≡ gives x) =
      step-gave (row_lay settings (lent_rows settings.endian s rows attrs n) size_of i) (λ l. gives (whole_of l)) p
      in
      record { laid = all.0; are = all.1; same = given_is all.2 }

  module _ (room : List ℕ) where
    abbrev given : Said Layout → List ℕ → Type 0
    given z room' = Given (layout_into settings (lent_rows settings.endian s rows attrs n) size_of room i) z room'

    -- a layout and its members, if they fit
    abbrev pub into_room : Lay → Outcome (Said Layout) ℕ
    into_room l = fills_room (fitting room l) (whole_of l) (length l.members ∷ []) (laid_words l.members) room

    -- a refusal goes on
    refused-in : (d : Said Lay) {number place : ℕ} {counts : List ℕ} → refuses number place counts ≡ (d >>= λ l. gives (whole_of l))
        → Given (in_room room d into_room) (refuses number place counts) room
    unfolding in_room ◌>>=◌
    refused-in (gives l) p = absurd (given-refused (sym p))
    refused-in (refuses other elsewhere more) p = record { answer_is = p; room_is = refl }

    module _ {told : (Result Layout Refusal)} (is : said told ≡ layout_at settings (lent_rows settings.endian s rows attrs n) size_of i) where
      module _ {x : Layout} (p : told ≡ Ok x) where
        these : LaidAs (row_lay settings (lent_rows settings.endian s rows attrs n) size_of i) whole_of x
        unfolding said
        these = laid_as (sym (case-said said is p))

        many : length these.laid.members ≡ x.members
        unfolding layout_of
        many = ap (λ (y : Layout). y.members) these.same

        -- the layout is there: its members fit, or not
        give-in : {z : Said Layout} {room' : List ℕ} → Given (into_room these.laid) z room' → given z room'
        unfolding layout_into in_room
        give-in g = goes_in (λ (d : Said Lay). d) refl these.are room into_room g

        pub give-laid : {r : (Result Layout Refusal)} {room' : List ℕ} → x.members ≤ length room / laid_width
            → WholeLaid (layout_at settings (lent_rows settings.endian s rows attrs n) size_of i) (row_lay settings (lent_rows settings.endian s rows attrs n) size_of i) r room room' → given (said_counted (Ok x)) room'
        unfolding said_counted
        give-laid h g =
            let as_many : length these.laid.members ≡ x.members = many in
            give-in
            (fills (whole_of these.laid) (length these.laid.members ∷ []) (laid_words these.laid.members) room
            (le-leb (length these.laid.members) (length room / laid_width) (omega arith)) (ap gives (sym these.same)) (g.room_is these.laid these.are))

        pub give-unfit : length room / laid_width < x.members → given (said_counted {A = Layout} (Err (unfilled.Room x.members))) room
        unfolding said_counted
        give-unfit h =
            let as_many : length these.laid.members ≡ x.members = many in
            give-in
            (wants (whole_of these.laid) (length these.laid.members ∷ []) (laid_words these.laid.members) room
            (lt-leb (length these.laid.members) (length room / laid_width) (omega arith)) (ap (λ (k : ℕ). wanting (k ∷ [])) (sym many)) refl)

      pub give-unlaid : {why : Refusal} → told ≡ Err why → (z : Result Layout (Unfilled ℕ)) → IsErrAnd z (λ e. e ≡ unfilled.Refused why) → given (said_counted z) room
      unfolding layout_into layout_at said
      give-unlaid p z exits =
          let refused = refused-in (row_lay settings (lent_rows settings.endian s rows attrs n) size_of i) (case-said said is p) in
          record { answer_is = refused-room is p z exits ∙ refused.answer_is; room_is = refused.room_is }

-- no sizes are noted
pub layout-there : (settings : Settings) (vendors sizes s rows attrs : List ℕ) (counts : Counts) (key : ℕ) (room : List ℕ) {told : (Result ℕ Refusal)}
    → said told ≡ row_of (table s settings vendors sizes rows attrs counts) key → {i : ℕ} {z : Said Layout} {room' : List ℕ} → told ≡ Ok i
    → Given (layout_into settings (lent_rows settings.endian s rows attrs counts.rows) (type_size_from settings sizes s rows attrs counts.rows [] (depth_limit - 1)) room i) z room'
    → Given (layout_of_key (table s settings vendors sizes rows attrs counts) key room) z room'
unfolding layout_of_key type_size_from type_size entry_size_from
layout-there settings vendors sizes s rows attrs counts key room is p g = comes_in is p room _ g
