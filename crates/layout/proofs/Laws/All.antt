-- What follows from `All` and its ways, for each way that the code comes to an answer.
use Rattle.std.specs.Prelude.{Option, Result, Ok, Err, IsErrAnd}
use Rattle.std.proofs.lemmas.Result.{err_from_is_err_and}
use Rattle.format.specs.declared.refusal.Refusal.{Refusal}
use Rattle.format.specs.declared.refusal.Unfilled.{Unfilled}
use Rattle.format.specs.declared.refusal.Unfilled.TheVariants as unfilled
use Prim.Native.Nat.{ℕ, suc, ◌+◌, ◌-◌, ◌*◌, ◌/◌, ◌≤◌, ◌<◌}
use native.Mathlib.Nat.{add-zero, zero-add, add_assoc}
use native.Mathlib.Decide.{dec_le}
use native.Mathlib.Omega.{arith}
use mathlib.Core.Path.{◌≡◌, refl, sym, ap, ap₂, ◌∙◌, subst}
use mathlib.Core.Bool.{Bool, true, false, true≢false}
use mathlib.Core.List.{List, [], ◌∷◌, ◌++◌, append-nil, append_assoc}
use lib.ListN.{length, take, drop, set, length-append}
use lib.Seq.{sets, length-sets}
use lib.Dec.{leb, eqb}
use borrow.Author.Tests.{le-leb, lt-leb}
use Rattle.lent.specs.Outcome.{Outcomes, outcomes, BothGiven}
use Rattle.numbers.proofs.Laws.Tests.{cond-all}
use Rattle.format.specs.Limits.{entry_limit}
use Rattle.format.specs.TagKind as tag
use Rattle.format.specs.AttributeKind as attribute
use Rattle.format.specs.Said.{Said, said, gives, refuses, refuse, wanting, ◌>>=◌, ◌>>◌, in_rooms, fills_rooms}
use Rattle.format.proofs.Laws.Said.{Of, of-next, of_test, given_is, given-refused, step-gave, refused-there}
use Rattle.format.specs.declared.settings.Settings.{Settings}
use Rattle.format.specs.declared.refusal.Reason.TheVariants as reason
use Rattle.blocks.specs.declared.types.Type.{«Type»}
use Rattle.lent.proofs.Laws.Stores.{sets-append, sets-out, sets-rest}
use Rattle.tables.specs.Table.{lent_rows}
use Rattle.tables.specs.Row.{row_at}
use Rattle.tables.specs.declared.row.Row.{Row}
use Rattle.links.specs.Walk.{Walk, ends, endless}
use Rattle.links.specs.Links.{sibling_row, next_row, child_walk, non_null}
use Rattle.links.specs.Inside.EachChild.{rows_met, walk_on, children_from}
use Rattle.links.proofs.Laws.EachChild.{few-children}
use Rattle.records.specs.Scan.{run_of}
use Rattle.records.specs.declared.fields.Text.{Text}
use Rattle.records.specs.Fields.{name_of}
use Rattle.records.specs.MemberWords.{name_place, name_length}
use Rattle.records.specs.declared.scan.Run.{Run}
use Rattle.records.specs.Member.{member_at}
use Rattle.records.specs.Unions.{RowMember, member_then}
use Rattle.records.specs.declared.member.Member.{Member}
use Rattle.sizes.specs.Size.{shape_of, type_size, member_size, member_child_then, member_rows_from, member_rows_by, members_of}
use Rattle.sizes.specs.Inside.Size.{TableReady, type_size_from}
use Rattle.sizes.specs.Inside.Noted.{noted_width, noted_at, PutNoted}
use Rattle.layout.specs.Inside.Levels.{deepest, size_left, NotedUpTo}
use Rattle.layout.proofs.Laws.Levels.{noted-types}
use Rattle.layout.specs.Layout.{Laid, Lay, lay, laid_member, end_or, laid_from, has_byte_size, own_size, row_lay, layout_of, layout_at, laid_words, laid_width}
use Rattle.sizes.specs.Size.{is_structure}
use Rattle.layout.specs.Inside.Layout.{WholeLaid}
use Rattle.sizes.proofs.Laws.Kept.{structure-test}
use Rattle.layout.proofs.Laws.Layout.{words_long}
use Rattle.layout.specs.All.{said_all_layouts, Structure, laid_of, also_if, structure_at, structures_from, answer_words, structure_width, structure_words, all_member_words, member_count, counts_of, layouts_into}
use Rattle.layout.specs.Inside.All.{row_structures, eight_words, counted_on, counted_with, OneMore, CountAsked, whole_told, WholesTold, RowCounted, PutAsked, Puts, PutsAsked, PutAll}
use Rattle.layout.specs.declared.one.Layout.{Layout}
use Rattle.layout.specs.declared.all.LayoutCounts.{LayoutCounts}

-- ---- how many members there are at most

abbrev FewMembers : ℕ → Said (List RowMember) → Type 0
FewMembers k d = Of (λ (ms : List RowMember). length ms ≤ k) d

abbrev FewLaid : ℕ → Said Lay → Type 0
FewLaid k d = Of (λ (l : Lay). length l.members ≤ k) d

few-weaker : {A : Type 0} (many : A → ℕ) {j k : ℕ} (d : Said A) → j ≤ k → Of (λ (x : A). many x ≤ j) d → Of (λ (x : A). many x ≤ k) d
few-weaker many (gives x) h l = omega (arith, h, l)
few-weaker many (refuses number place counts) h l = tt

module _ (settings : Settings) (s rows attrs : List ℕ) (n : ℕ) where
  abbrev with_member : ℕ → Said (List RowMember) → Member → Said (List RowMember)
  with_member c rest m = rest >>= λ ms. gives (record { row = c; member = m } ∷ ms)

  few-with : (k c : ℕ) (m : Member) (rest : Said (List RowMember)) → FewMembers k rest → FewMembers (suc k) (with_member c rest m)
  unfolding ◌>>=◌
  few-with k c m (gives ms) h = omega (arith, h)
  few-with k c m (refuses number place counts) h = tt

  few-then : (k c : ℕ) (rest : Said (List RowMember)) → FewMembers k rest → FewMembers (suc k) (member_then settings (lent_rows settings.endian s rows attrs n) c rest)
  unfolding member_then
  few-then k c rest h =
      of-next (λ (ms : List RowMember). length ms ≤ suc k) (member_at settings (lent_rows settings.endian s rows attrs n) c) (with_member c rest) (λ m. few-with k c m rest h)

  few-from : (cs : List ℕ) → FewMembers (length cs) (member_rows_from settings (lent_rows settings.endian s rows attrs n) cs)
  unfolding member_rows_from member_child_then
  few-from [] = omega arith
  few-from (c ∷ cs) =
      cond-all (FewMembers (suc (length cs))) (eqb (row_at rows c).kind tag.member)
      (λ t. few-then (length cs) c (member_rows_from settings (lent_rows settings.endian s rows attrs n) cs) (few-from cs))
      (λ t. few-weaker length (member_rows_from settings (lent_rows settings.endian s rows attrs n) cs) (omega arith) (few-from cs))

  few-by : (key : ℕ) (w : Walk) → length (non_null rows (rows_met w)) ≤ n → FewMembers n (member_rows_by settings (lent_rows settings.endian s rows attrs n) key w)
  unfolding member_rows_by rows_met
  few-by key (ends cs) h = few-weaker length (member_rows_from settings (lent_rows settings.endian s rows attrs n) (non_null rows cs)) h (few-from (non_null rows cs))
  few-by key endless h = tt

  few-of : (i : ℕ) → FewMembers n (members_of settings (lent_rows settings.endian s rows attrs n) i)
  unfolding members_of children_from walk_on child_walk
  few-of i =
      few-by (row_at rows i).key (child_walk (lent_rows settings.endian s rows attrs n) i)
      (few-children settings.endian s rows attrs n (sibling_row (lent_rows settings.endian s rows attrs n) i) (next_row rows n i))

module _ (rows : List ℕ) (size_of : «Type» → Said ℕ) (sized : Bool) where
  abbrev with_laid : Laid → Said Lay → Said Lay
  with_laid x d = d >>= λ l. gives (lay (x ∷ l.members) l.largest)

  few-one : (k : ℕ) (x : Laid) (d : Said Lay) → FewLaid k d → FewLaid (suc k) (with_laid x d)
  unfolding ◌>>=◌
  few-one k x (gives l) h = omega (arith, h)
  few-one k x (refuses number place counts) h = tt

  few-laid : (largest : ℕ) (ms : List RowMember) → FewLaid (length ms) (laid_from rows size_of sized largest ms)
  unfolding laid_from
  few-laid largest [] = omega arith
  few-laid largest (m ∷ ms) =
      of-next (λ (l : Lay). length l.members ≤ suc (length ms)) (member_size size_of m)
      (λ size. end_or sized (row_at rows m.row).key largest (m.member.offset + size) >>= λ next. with_laid (laid_member m size) (laid_from rows size_of sized next ms))
      (λ size. of-next (λ (l : Lay). length l.members ≤ suc (length ms)) (end_or sized (row_at rows m.row).key largest (m.member.offset + size))
      (λ next. with_laid (laid_member m size) (laid_from rows size_of sized next ms))
      (λ next. few-one (length ms) (laid_member m size) (laid_from rows size_of sized next ms) (few-laid next ms)))

  few-all : (n : ℕ) (d : Said (List RowMember)) → FewMembers n d → FewLaid n (d >>= laid_from rows size_of sized 0)
  unfolding ◌>>=◌
  few-all n (gives ms) h = few-weaker (λ (l : Lay). length l.members) (laid_from rows size_of sized 0 ms) h (few-laid 0 ms)
  few-all n (refuses number place counts) h = tt

few_members : (n : ℕ) (d : Said Lay) → FewLaid n d → length (laid_of d) ≤ n
unfolding laid_of
few_members n (gives l) h = h
few_members n (refuses number place counts) h = omega arith

module _ (settings : Settings) (s rows attrs : List ℕ) (n : ℕ) (size_of : «Type» → Said ℕ) (i : ℕ) where
  few-row : length (laid_of (row_lay settings (lent_rows settings.endian s rows attrs n) size_of i)) ≤ n
  unfolding row_lay
  few-row =
      few_members n (row_lay settings (lent_rows settings.endian s rows attrs n) size_of i)
      (of_test (λ (l : Lay). length l.members ≤ n) (is_structure (shape_of (row_at rows i).kind)) reason.Kind (row_at rows i).key
      (members_of settings (lent_rows settings.endian s rows attrs n) i >>= laid_from rows size_of (has_byte_size (own_size settings s rows attrs i)) 0)
      (λ t. few-all rows size_of (has_byte_size (own_size settings s rows attrs i)) n (members_of settings (lent_rows settings.endian s rows attrs n) i) (few-of settings s rows attrs n i)))

-- ---- lists one after the other

pub structure-append : (first : ℕ) (xs ys : List Structure) → structure_words first (xs ++ ys) ≡ structure_words first xs ++ structure_words (first + member_count xs) ys
unfolding structure_words member_count
structure-append first [] ys = ap (λ (k : ℕ). structure_words k ys) (sym (add-zero first))
structure-append first (x ∷ xs) ys =
    ap (λ (ws : List ℕ). answer_words x.row x.name first x.answer ++ ws)
    (structure-append (first + length x.members) xs ys
    ∙ ap (λ (k : ℕ). structure_words (first + length x.members) xs ++ structure_words k ys) (add_assoc first (length x.members) (member_count xs)))
    ∙ sym (append_assoc (answer_words x.row x.name first x.answer) (structure_words (first + length x.members) xs)
    (structure_words (first + (length x.members + member_count xs)) ys))

pub answer-long : (row first : ℕ) (name : (Option Text)) (d : Said Layout) → length (answer_words row name first d) ≡ structure_width
unfolding answer_words
answer-long row first name (gives x) = refl
answer-long row first name (refuses number place counts) = refl

pub structure-long : (first : ℕ) (xs : List Structure) → length (structure_words first xs) ≡ length xs * structure_width
unfolding structure_words
structure-long first [] = refl
structure-long first (x ∷ xs) =
    let rest : length (structure_words (first + length x.members) xs) ≡ length xs * structure_width = structure-long (first + length x.members) xs in
    let one : length (answer_words x.row x.name first x.answer) ≡ structure_width = answer-long x.row first x.name x.answer in
    let both : length (answer_words x.row x.name first x.answer ++ structure_words (first + length x.members) xs)
    ≡ length (answer_words x.row x.name first x.answer) + length (structure_words (first + length x.members) xs) =
    length-append (answer_words x.row x.name first x.answer) (structure_words (first + length x.members) xs) in
    omega arith

pub member-append : (xs ys : List Structure) → all_member_words (xs ++ ys) ≡ all_member_words xs ++ all_member_words ys
unfolding all_member_words
member-append [] ys = refl
member-append (x ∷ xs) ys =
    ap (λ (ws : List ℕ). laid_words x.members ++ ws) (member-append xs ys) ∙ sym (append_assoc (laid_words x.members) (all_member_words xs) (all_member_words ys))

pub member-long : (xs : List Structure) → length (all_member_words xs) ≡ member_count xs * laid_width
unfolding all_member_words member_count
member-long [] = refl
member-long (x ∷ xs) =
    let rest : length (all_member_words xs) ≡ member_count xs * laid_width = member-long xs in
    let one : length (laid_words x.members) ≡ length x.members * laid_width = words_long x.members in
    let both : length (laid_words x.members ++ all_member_words xs) ≡ length (laid_words x.members) + length (all_member_words xs) =
    length-append (laid_words x.members) (all_member_words xs) in
    omega arith

count-append : (xs ys : List Structure) → member_count (xs ++ ys) ≡ member_count xs + member_count ys
unfolding member_count
count-append [] ys = sym (zero-add (member_count ys))
count-append (x ∷ xs) ys =
    let rest : member_count (xs ++ ys) ≡ member_count xs + member_count ys = count-append xs ys in
    omega arith

abbrev counting : ℕ → ℕ → LayoutCounts
counting k m = record { structures = k; members = m }

pub counted_none : (counts : LayoutCounts) → counts ≡ counted_with counts []
unfolding counted_with member_count
counted_none counts = ap₂ counting (sym (add-zero counts.structures)) (sym (add-zero counts.members))

counted-append : (counts : LayoutCounts) (xs ys : List Structure) → counted_with (counted_with counts xs) ys ≡ counted_with counts (xs ++ ys)
unfolding counted_with
counted-append counts xs ys =
    let some : length (xs ++ ys) ≡ length xs + length ys = length-append xs ys in
    let more : member_count (xs ++ ys) ≡ member_count xs + member_count ys = count-append xs ys in
    let structures_are : counts.structures + length xs + length ys ≡ counts.structures + length (xs ++ ys) = omega arith in
    let members_are : counts.members + member_count xs + member_count ys ≡ counts.members + member_count (xs ++ ys) = omega arith in
    ap₂ counting structures_are members_are

counted-all : (xs : List Structure) → counted_with (counting 0 0) xs ≡ counts_of xs
unfolding counted_with counts_of
counted-all xs = ap₂ counting (zero-add (length xs)) (zero-add (member_count xs))

-- ---- one row

module _ (settings : Settings) (s rows attrs : List ℕ) (n : ℕ) (size_of : «Type» → Said ℕ) (i : ℕ) where
  -- a layout that was laid, or not
  abbrev answer_of : Said Lay → Said Layout
  answer_of d = d >>= λ l. gives (layout_of settings (lent_rows settings.endian s rows attrs n) size_of i l)

  laid-count : (d : Said Lay) {x : Layout} → gives x ≡ answer_of d → length (laid_of d) ≡ x.members
  unfolding layout_of laid_of ◌>>=◌
  laid-count (gives l) p = ap (λ (y : Layout). y.members) (given_is (sym p))
  laid-count (refuses number place counts) p = absurd (given-refused p)

  refused_none : (d : Said Lay) {number place : ℕ} {counts : List ℕ} → refuses number place counts ≡ answer_of d → laid_of d ≡ []
  unfolding laid_of ◌>>=◌
  refused_none (gives l) p = absurd (given-refused (sym p))
  refused_none (refuses number place counts) p = refl

  module _ {row : Row} {b : Bool} (at : row ≡ row_at rows i) (is : b ≡ is_structure (shape_of row.kind)) where
    row_other : b ≡ false → row_structures settings s rows attrs n size_of i ≡ []
    unfolding row_structures also_if
    row_other t = rw (structure-test rows i at is t)

    row_one : b ≡ true → row_structures settings s rows attrs n size_of i ≡ structure_at settings (lent_rows settings.endian s rows attrs n) size_of i ∷ []
    unfolding row_structures also_if
    row_one t = rw (structure-test rows i at is t)

    -- a row that is no structure adds nothing
    none-counted : (counts : LayoutCounts) → b ≡ false → counts ≡ counted_with counts (row_structures settings s rows attrs n size_of i)
    none-counted counts t = counted_none counts ∙ ap (counted_with counts) (sym (row_other t))

    pub count-other : (counts : LayoutCounts) {table : List ℕ} → b ≡ false → RowCounted settings s rows attrs n size_of i counts counts table table
    count-other counts t =
        record {
          counts_are = none-counted counts t;
          told_is = λ u. absurd (true≢false (sym u ∙ structure-test rows i at is t));
          others = λ j h. refl;
          same_long = refl;
        }

    pub puts-other : (counts : LayoutCounts) {structures members : List ℕ} → b ≡ false
        → Puts (row_structures settings s rows attrs n size_of i) counts counts structures structures members members
    unfolding structure_words all_member_words
    puts-other counts {structures} {members} t =
        record {
          counts_are = none-counted counts t;
          structures_are = ap (λ (xs : List Structure). sets structures (counts.structures * structure_width) (structure_words counts.members xs)) (sym (row_other t));
          members_are = ap (λ (xs : List Structure). sets members (counts.members * laid_width) (all_member_words xs)) (sym (row_other t));
        }

    module _ (t : b ≡ true) (counts : LayoutCounts) where
      name-is : {run : Run} {name : (Option Text)} → run ≡ run_of settings.endian rows i → name ≡ name_of s attrs run attribute.name
          → name ≡ name_of s attrs (run_of settings.endian rows i) attribute.name
      name-is p q = q ∙ ap (λ (r : Run). name_of s attrs r attribute.name) p

      counted-one : {many : ℕ} {r : LayoutCounts} → length (laid_of (row_lay settings (lent_rows settings.endian s rows attrs n) size_of i)) ≡ many → r ≡ counted_on counts many
          → r ≡ counted_with counts (row_structures settings s rows attrs n size_of i)
      unfolding counted_on counted_with member_count structure_at
      counted-one {many} p q =
          let same : counts.members + many ≡ counts.members + (length (laid_of (row_lay settings (lent_rows settings.endian s rows attrs n) size_of i)) + 0) = omega arith in
          q ∙ ap (counting (counts.structures + 1)) same ∙ ap (counted_with counts) (sym (row_one t))

      -- what the layout tells is kept
      counted-told : {told : Said Layout} {size : Said ℕ} {table table' : List ℕ} {r : LayoutCounts}
          → r ≡ counted_with counts (row_structures settings s rows attrs n size_of i) → told ≡ layout_at settings (lent_rows settings.endian s rows attrs n) size_of i → size ≡ whole_told told
          → PutNoted i size table table' → RowCounted settings s rows attrs n size_of i counts r table table'
      counted-told q a z g = record { counts_are = q; told_is = λ u. g.here ∙ z ∙ ap whole_told a; others = g.others; same_long = g.same_long }

      put_one : (structures : List ℕ) {words structures' : List ℕ} → words ≡ answer_words i (name_of s attrs (run_of settings.endian rows i) attribute.name) counts.members (layout_at settings (lent_rows settings.endian s rows attrs n) size_of i)
          → structures' ≡ sets structures (counts.structures * structure_width) words
          → structures' ≡ sets structures (counts.structures * structure_width) (structure_words counts.members (row_structures settings s rows attrs n size_of i))
      unfolding structure_words structure_at
      put_one structures p q =
          q ∙ ap (sets structures (counts.structures * structure_width))
          (p ∙ sym (append-nil (answer_words i (name_of s attrs (run_of settings.endian rows i) attribute.name) counts.members (layout_at settings (lent_rows settings.endian s rows attrs n) size_of i)))
          ∙ ap (structure_words counts.members) (sym (row_one t)))

      members-one : (room : List ℕ) {xs : List Laid} {room' : List ℕ} → laid_of (row_lay settings (lent_rows settings.endian s rows attrs n) size_of i) ≡ xs → room' ≡ sets room (counts.members * laid_width) (laid_words xs)
          → room' ≡ sets room (counts.members * laid_width) (all_member_words (row_structures settings s rows attrs n size_of i))
      unfolding all_member_words structure_at
      members-one room p q =
          q ∙ ap (sets room (counts.members * laid_width))
          (ap laid_words (sym p) ∙ sym (append-nil (laid_words (laid_of (row_lay settings (lent_rows settings.endian s rows attrs n) size_of i)))) ∙ ap all_member_words (sym (row_one t)))

      module _ {x : Layout} (p : gives x ≡ layout_at settings (lent_rows settings.endian s rows attrs n) size_of i) where
        many-given : length (laid_of (row_lay settings (lent_rows settings.endian s rows attrs n) size_of i)) ≡ x.members
        unfolding layout_at
        many-given = laid-count (row_lay settings (lent_rows settings.endian s rows attrs n) size_of i) p

        pub given-asked : CountAsked s rows n i counts → OneMore counts x.members
        given-asked w =
            let few : length (laid_of (row_lay settings (lent_rows settings.endian s rows attrs n) size_of i)) ≤ n = few-row settings s rows attrs n size_of i in
            let many : length (laid_of (row_lay settings (lent_rows settings.endian s rows attrs n) size_of i)) ≡ x.members = many-given in
            let there : i < n = w.asked.asked.there in
            let rows_few : n ≤ entry_limit = w.asked.asked.table.few in
            let small : counts.structures ≤ i = w.few_structures in
            let fewer : counts.members ≤ i * entry_limit = w.few_members in
            record { structures_small = omega arith; members_small = omega arith }

        given_counted : {r : LayoutCounts} → r ≡ counted_on counts x.members → r ≡ counted_with counts (row_structures settings s rows attrs n size_of i)
        given_counted q = counted-one many-given q

        pub count-given : {told : Said Layout} {size : Said ℕ} {table table' : List ℕ} {r : LayoutCounts} → told ≡ layout_at settings (lent_rows settings.endian s rows attrs n) size_of i
            → size ≡ whole_told told → PutNoted i size table table' → r ≡ counted_on counts x.members → RowCounted settings s rows attrs n size_of i counts r table table'
        count-given a z g q = counted-told (given_counted q) a z g

        pub puts-given : {run : Run} {name : (Option Text)} {r : LayoutCounts} {structures structures' room part' : List ℕ} {again : (Result Layout Refusal)}
            → run ≡ run_of settings.endian rows i → name ≡ name_of s attrs run attribute.name → WholeLaid (layout_at settings (lent_rows settings.endian s rows attrs n) size_of i) (row_lay settings (lent_rows settings.endian s rows attrs n) size_of i) again
            (take (length room - counts.members * laid_width) (drop (counts.members * laid_width) room)) part'
            → structures' ≡ sets structures (counts.structures * structure_width) (eight_words i 0 x.size 0 counts.members x.members name)
            → r ≡ counted_on counts x.members
            → Puts (row_structures settings s rows attrs n size_of i) counts r structures structures' room
            (take (counts.members * laid_width) room ++ (part' ++ drop (length room - counts.members * laid_width) (drop (counts.members * laid_width) room)))
        unfolding answer_words eight_words layout_at laid_of
        puts-given {name = name} {structures = structures} {room = room} at' is' g e q =
            let these : (l : Lay) × (row_lay settings (lent_rows settings.endian s rows attrs n) size_of i ≡ gives l) × (gives (layout_of settings (lent_rows settings.endian s rows attrs n) size_of i l) ≡ gives x) =
            step-gave (row_lay settings (lent_rows settings.endian s rows attrs n) size_of i) (λ l. gives (layout_of settings (lent_rows settings.endian s rows attrs n) size_of i l)) (sym p)
            in
            record {
              counts_are = given_counted q;
              structures_are = put_one structures (ap₂ (λ (y : (Option Text)) (d : Said Layout). answer_words i y counts.members d) (name-is at' is') p) e;
              members_are =
                  members-one room (ap laid_of these.1) (sets-rest room (counts.members * laid_width) (laid_words these.0.members) (g.room_is these.0 these.1));
            }

      module _ {number place : ℕ} {more : List ℕ} (p : refuses number place more ≡ layout_at settings (lent_rows settings.endian s rows attrs n) size_of i) where
        none-given : laid_of (row_lay settings (lent_rows settings.endian s rows attrs n) size_of i) ≡ []
        unfolding layout_at
        none-given = refused_none (row_lay settings (lent_rows settings.endian s rows attrs n) size_of i) p

        refused-counted : {r : LayoutCounts} → r ≡ counted_on counts 0 → r ≡ counted_with counts (row_structures settings s rows attrs n size_of i)
        refused-counted q = counted-one (ap length none-given) q

        pub count-refused : {told : Said Layout} {size : Said ℕ} {table table' : List ℕ} {r : LayoutCounts} → told ≡ layout_at settings (lent_rows settings.endian s rows attrs n) size_of i
            → size ≡ whole_told told → PutNoted i size table table' → r ≡ counted_on counts 0 → RowCounted settings s rows attrs n size_of i counts r table table'
        count-refused a z g q = counted-told (refused-counted q) a z g

        pub puts-refused : {run : Run} {name : (Option Text)} {r : LayoutCounts} {structures structures' room : List ℕ} {told : ℕ}
            → run ≡ run_of settings.endian rows i → name ≡ name_of s attrs run attribute.name → told ≡ number
            → structures' ≡ sets structures (counts.structures * structure_width) (eight_words i told 0 place counts.members 0 name)
            → r ≡ counted_on counts 0 → Puts (row_structures settings s rows attrs n size_of i) counts r structures structures' room room
        unfolding answer_words eight_words laid_words
        puts-refused {name = name} {structures = structures} {room = room} at' is' m e q =
            record {
              counts_are = refused-counted q;
              structures_are =
                  put_one structures
                  (ap (λ (k : ℕ). eight_words i k 0 place counts.members 0 name) m
                  ∙ ap₂ (λ (y : (Option Text)) (d : Said Layout). answer_words i y counts.members d) (name-is at' is') p) e;
              members_are = members-one room none-given refl;
            }

-- ---- what was told of a row

-- a refusal that was told is the layout's
refusal-told : (d : Said Layout) {number place : ℕ} {counts : List ℕ} → refuses number place counts ≡ whole_told d → refuses number place counts ≡ d
unfolding whole_told ◌>>=◌ ◌>>◌
refusal-told (gives x) p = absurd (given-refused (sym p))
refusal-told (refuses number place counts) p = ap (λ (d : Said ℕ). d >> refuse reason.Kind 0) p

-- and a layout of which a size was told is not refused
size-given : {d : Said Layout} {size number place : ℕ} {counts : List ℕ} → gives size ≡ whole_told d → refuses number place counts ≡ d → ⊥
unfolding whole_told ◌>>=◌
size-given p q = given-refused (p ∙ ap whole_told (sym q))

module _ {settings : Settings} {s rows attrs : List ℕ} {n : ℕ} {size_of : «Type» → Said ℕ} {table : List ℕ} (w : WholesTold settings s rows attrs n size_of n table)
    {i : ℕ} (l : i < n) {row : Row} {b : Bool} (at : row ≡ row_at rows i) (is : b ≡ is_structure (shape_of row.kind)) (t : b ≡ true) where
  layout-told : noted_at table i ≡ whole_told (layout_at settings (lent_rows settings.endian s rows attrs n) size_of i)
  layout-told = w.each i l (structure-test rows i at is t)

  pub layout-refused : {number place : ℕ} {counts : List ℕ} → refuses number place counts ≡ noted_at table i
      → refuses number place counts ≡ layout_at settings (lent_rows settings.endian s rows attrs n) size_of i
  layout-refused p = refusal-told (layout_at settings (lent_rows settings.endian s rows attrs n) size_of i) (p ∙ layout-told)

  pub layout-given : {size number place : ℕ} {counts : List ℕ} → gives size ≡ noted_at table i
      → refuses number place counts ≡ layout_at settings (lent_rows settings.endian s rows attrs n) size_of i → ⊥
  layout-given p q = size-given (p ∙ layout-told) q

pub refused-asked : {s rows : List ℕ} {n i : ℕ} {counts : LayoutCounts} → CountAsked s rows n i counts → OneMore counts 0
refused-asked {s} {rows} {n} {i} {counts} w =
    let there : i < n = w.asked.asked.there in
    let rows_few : n ≤ entry_limit = w.asked.asked.table.few in
    let small : counts.structures ≤ i = w.few_structures in
    let fewer : counts.members ≤ i * entry_limit = w.few_members in
    record { structures_small = omega arith; members_small = omega arith }

-- ---- row after row

kept_append : (b : Bool) (x : Structure) (xs : List Structure) → also_if b x [] ++ xs ≡ also_if b x xs
unfolding also_if
kept_append true x xs = refl
kept_append false x xs = refl

module _ (settings : Settings) (s rows attrs : List ℕ) (n : ℕ) (size_of : «Type» → Said ℕ) where
  -- the structures from row i on
  abbrev left : ℕ → List Structure
  left i = structures_from settings (lent_rows settings.endian s rows attrs n) size_of i (n - i)

  left-next : (i : ℕ) → i < n → row_structures settings s rows attrs n size_of i ++ left (i + 1) ≡ left i
  unfolding structures_from row_structures
  left-next i l =
      let down : n - i ≡ suc (n - (i + 1)) = omega arith in
      let up : i + 1 ≡ suc i = omega arith in
      kept_append (is_structure (shape_of (row_at rows i).kind)) (structure_at settings (lent_rows settings.endian s rows attrs n) size_of i) (left (i + 1))
      ∙ ap (λ (k : ℕ). also_if (is_structure (shape_of (row_at rows i).kind)) (structure_at settings (lent_rows settings.endian s rows attrs n) size_of i)
      (structures_from settings (lent_rows settings.endian s rows attrs n) size_of k (n - (i + 1)))) up
      ∙ ap (structures_from settings (lent_rows settings.endian s rows attrs n) size_of i) (sym down)

  left-none : (i : ℕ) → n ≤ i → left i ≡ []
  unfolding structures_from
  left-none i h =
      let down : n - i ≡ 0 = omega arith in
      ap (structures_from settings (lent_rows settings.endian s rows attrs n) size_of i) down

  left-all : left 0 ≡ structures_from settings (lent_rows settings.endian s rows attrs n) size_of 0 n
  left-all =
      let whole : n - 0 ≡ n = omega arith in
      ap (structures_from settings (lent_rows settings.endian s rows attrs n) size_of 0) whole

  row-few : (i : ℕ) → length (row_structures settings s rows attrs n size_of i) ≤ 1
  unfolding row_structures also_if
  row-few i = cond-all (λ (xs : List Structure). length xs ≤ 1) (is_structure (shape_of (row_at rows i).kind)) (λ t. omega arith) (λ t. omega arith)

  row-members-few : (i : ℕ) → member_count (row_structures settings s rows attrs n size_of i) ≤ n
  unfolding row_structures also_if member_count structure_at
  row-members-few i =
      let few : length (laid_of (row_lay settings (lent_rows settings.endian s rows attrs n) size_of i)) ≤ n = few-row settings s rows attrs n size_of i in
      cond-all (λ (xs : List Structure). member_count xs ≤ n) (is_structure (shape_of (row_at rows i).kind)) (λ t. omega arith) (λ t. omega arith)

-- what was counted before row i, and what is left, come to the whole
pub record Counting (settings : Settings) (s rows attrs : List ℕ) (n : ℕ) (size_of : «Type» → Said ℕ) (counts : LayoutCounts) (i : ℕ) : Type 0 where
  pub ready : TableReady s rows n
  pub within : i ≤ n
  pub few_structures : counts.structures ≤ i
  pub few_members : counts.members ≤ i * entry_limit
  pub on : counted_with counts (structures_from settings (lent_rows settings.endian s rows attrs n) size_of i (n - i)) ≡ counts_of (structures_from settings (lent_rows settings.endian s rows attrs n) size_of 0 n)

module _ {settings : Settings} {s rows attrs : List ℕ} {n : ℕ} (ready : TableReady s rows n) (size_of : «Type» → Said ℕ) where
  pub counting-begins : Counting settings s rows attrs n size_of (counting 0 0) 0
  counting-begins =
      record {
        ready = ready;
        within = omega arith;
        few_structures = omega arith;
        few_members = omega arith;
        on = ap (counted_with (counting 0 0)) (left-all settings s rows attrs n size_of) ∙ counted-all (structures_from settings (lent_rows settings.endian s rows attrs n) size_of 0 n);
      }

module _ {settings : Settings} {s rows attrs : List ℕ} {n : ℕ} {size_of : «Type» → Said ℕ} {counts : LayoutCounts} {i : ℕ}
    (w : Counting settings s rows attrs n size_of counts i) where
  pub counting-asked : i < n → CountAsked s rows n i counts
  counting-asked l =
      record {
        asked = record { asked = record { table = w.ready.table; there = l }; short = w.ready.short };
        few_structures = w.few_structures;
        few_members = w.few_members;
      }

  pub counting-on : i < n → {counts' : LayoutCounts} → counts' ≡ counted_with counts (row_structures settings s rows attrs n size_of i)
      → Counting settings s rows attrs n size_of counts' (i + 1)
  unfolding counted_with
  counting-on l {counts'} q =
      let one : length (row_structures settings s rows attrs n size_of i) ≤ 1 = row-few settings s rows attrs n size_of i in
      let few : member_count (row_structures settings s rows attrs n size_of i) ≤ n = row-members-few settings s rows attrs n size_of i in
      let many : n ≤ entry_limit = w.ready.table.few in
      let structures_are : counts'.structures ≡ counts.structures + length (row_structures settings s rows attrs n size_of i) = ap (λ (c : LayoutCounts). c.structures) q in
      let members_are : counts'.members ≡ counts.members + member_count (row_structures settings s rows attrs n size_of i) = ap (λ (c : LayoutCounts). c.members) q in
      record {
        ready = w.ready;
        within = omega arith;
        few_structures = omega (arith, w.few_structures);
        few_members = omega (arith, w.few_members);
        on =
            ap (λ (c : LayoutCounts). counted_with c (structures_from settings (lent_rows settings.endian s rows attrs n) size_of (i + 1) (n - (i + 1)))) q
            ∙ counted-append counts (row_structures settings s rows attrs n size_of i) (structures_from settings (lent_rows settings.endian s rows attrs n) size_of (i + 1) (n - (i + 1)))
            ∙ ap (counted_with counts) (left-next settings s rows attrs n size_of i l)
            ∙ w.on;
      }

  pub counting-ends : n ≤ i → counts ≡ counts_of (structures_from settings (lent_rows settings.endian s rows attrs n) size_of 0 n)
  counting-ends h = counted_none counts ∙ ap (counted_with counts) (sym (left-none settings s rows attrs n size_of i h)) ∙ w.on

-- ---- what was told, row after row

module _ (settings : Settings) (s rows attrs : List ℕ) (n : ℕ) (size_of : «Type» → Said ℕ) where
  pub told_none : {told : List ℕ} → n * noted_width ≤ length told → WholesTold settings s rows attrs n size_of 0 told
  told_none h = record { fits = h; each = λ i l t. absurd (omega (arith, l)) }

  pub told_more : {told told' : List ℕ} {counts counts' : LayoutCounts} {k : ℕ} → WholesTold settings s rows attrs n size_of k told
      → RowCounted settings s rows attrs n size_of k counts counts' told told' → WholesTold settings s rows attrs n size_of (k + 1) told'
  told_more {told} {told'} {k = k} w g =
      record {
        fits = omega (arith, w.fits, g.same_long);
        each = λ i l. elim (dec_le k i) [
          | yes h ↦ let same : k ≡ i = omega arith in
              subst (λ (j : ℕ). is_structure (shape_of (row_at rows j).kind) ≡ true → noted_at told' j ≡ whole_told (layout_at settings (lent_rows settings.endian s rows attrs n) size_of j)) same g.told_is
          | no h ↦ λ t. g.others i (λ z. omega (arith, z)) ∙ w.each i (omega arith) t
        ];
      }

  pub told-all : {told : List ℕ} {k : ℕ} → WholesTold settings s rows attrs n size_of k told → n ≤ k → WholesTold settings s rows attrs n size_of n told
  told-all w h = record { fits = w.fits; each = λ i l. w.each i (omega arith) }

-- what was given before row i, and what is left, come to the whole
pub record Putting (settings : Settings) (s rows attrs : List ℕ) (n : ℕ) (size_of : «Type» → Said ℕ) (structures₀ members₀ structures room : List ℕ)
    (counts : LayoutCounts) (i : ℕ) : Type 0 where
  pub counted : Counting settings s rows attrs n size_of counts i
  pub fits : member_count (structures_from settings (lent_rows settings.endian s rows attrs n) size_of 0 n) * laid_width ≤ length members₀
  pub same_structures : length structures ≡ length structures₀
  pub same_members : length room ≡ length members₀
  pub structures_on : sets structures (counts.structures * structure_width) (structure_words counts.members (structures_from settings (lent_rows settings.endian s rows attrs n) size_of i (n - i)))
      ≡ sets structures₀ 0 (structure_words 0 (structures_from settings (lent_rows settings.endian s rows attrs n) size_of 0 n))
  pub members_on : sets room (counts.members * laid_width) (all_member_words (structures_from settings (lent_rows settings.endian s rows attrs n) size_of i (n - i)))
      ≡ sets members₀ 0 (all_member_words (structures_from settings (lent_rows settings.endian s rows attrs n) size_of 0 n))

module _ {settings : Settings} {s rows attrs : List ℕ} {n : ℕ} (size_of : «Type» → Said ℕ) {room : List ℕ}
    (w : PutsAsked s rows n (structures_from settings (lent_rows settings.endian s rows attrs n) size_of 0 n) room) where
  pub putting-begins : (structures : List ℕ) → Putting settings s rows attrs n size_of structures room structures room (counting 0 0) 0
  putting-begins structures =
      record {
        counted = counting-begins w.ready size_of;
        fits = w.fits;
        same_structures = refl;
        same_members = refl;
        structures_on = ap (λ (xs : List Structure). sets structures 0 (structure_words 0 xs)) (left-all settings s rows attrs n size_of);
        members_on = ap (λ (xs : List Structure). sets room 0 (all_member_words xs)) (left-all settings s rows attrs n size_of);
      }

module _ {settings : Settings} {s rows attrs : List ℕ} {n : ℕ} {size_of : «Type» → Said ℕ} {structures₀ members₀ structures room : List ℕ} {counts : LayoutCounts} {i : ℕ}
    (w : Putting settings s rows attrs n size_of structures₀ members₀ structures room counts i) where
  pub putting-asked : i < n → PutAsked s rows n i counts room
  unfolding counted_with counts_of
  putting-asked l =
      let total : counts.members + member_count (structures_from settings (lent_rows settings.endian s rows attrs n) size_of i (n - i)) ≡ member_count (structures_from settings (lent_rows settings.endian s rows attrs n) size_of 0 n) =
      ap (λ (c : LayoutCounts). c.members) w.counted.on in
      record { counted = counting-asked w.counted l; begins = omega (arith, w.fits, w.same_members) }

  module _ (l : i < n) {counts' : LayoutCounts} {structures' room' : List ℕ}
      (g : Puts (row_structures settings s rows attrs n size_of i) counts counts' structures structures' room room') where
    abbrev xs : List Structure
    xs = row_structures settings s rows attrs n size_of i

    abbrev rest : List Structure
    rest = structures_from settings (lent_rows settings.endian s rows attrs n) size_of (i + 1) (n - (i + 1))

    structures-next : sets structures' (counts'.structures * structure_width) (structure_words counts'.members rest)
        ≡ sets structures (counts.structures * structure_width) (structure_words counts.members (xs ++ rest))
    unfolding counted_with
    structures-next =
        let long : length (structure_words counts.members xs) ≡ length xs * structure_width = structure-long counts.members xs in
        let at : (counts.structures + length xs) * structure_width ≡ counts.structures * structure_width + length (structure_words counts.members xs) = omega arith in
        ap (λ (c : LayoutCounts). sets structures' (c.structures * structure_width) (structure_words c.members rest)) g.counts_are
        ∙ ap (λ (k : ℕ). sets structures' k (structure_words (counts.members + member_count xs) rest)) at
        ∙ ap (λ (t : List ℕ). sets t (counts.structures * structure_width + length (structure_words counts.members xs)) (structure_words (counts.members + member_count xs) rest))
        g.structures_are
        ∙ sym (sets-append structures (counts.structures * structure_width) (structure_words counts.members xs) (structure_words (counts.members + member_count xs) rest))
        ∙ ap (sets structures (counts.structures * structure_width)) (sym (structure-append counts.members xs rest))

    members-next : sets room' (counts'.members * laid_width) (all_member_words rest) ≡ sets room (counts.members * laid_width) (all_member_words (xs ++ rest))
    unfolding counted_with
    members-next =
        let long : length (all_member_words xs) ≡ member_count xs * laid_width = member-long xs in
        let at : (counts.members + member_count xs) * laid_width ≡ counts.members * laid_width + length (all_member_words xs) = omega arith in
        ap (λ (c : LayoutCounts). sets room' (c.members * laid_width) (all_member_words rest)) g.counts_are
        ∙ ap (λ (k : ℕ). sets room' k (all_member_words rest)) at
        ∙ ap (λ (t : List ℕ). sets t (counts.members * laid_width + length (all_member_words xs)) (all_member_words rest)) g.members_are
        ∙ sym (sets-append room (counts.members * laid_width) (all_member_words xs) (all_member_words rest))
        ∙ ap (sets room (counts.members * laid_width)) (sym (member-append xs rest))

    pub putting-on : Putting settings s rows attrs n size_of structures₀ members₀ structures' room' counts' (i + 1)
    putting-on =
        record {
          counted = counting-on w.counted l g.counts_are;
          fits = w.fits;
          same_structures =
              ap length g.structures_are ∙ length-sets structures (counts.structures * structure_width) (structure_words counts.members xs) ∙ w.same_structures;
          same_members = ap length g.members_are ∙ length-sets room (counts.members * laid_width) (all_member_words xs) ∙ w.same_members;
          structures_on =
              structures-next
              ∙ ap (λ (ys : List Structure). sets structures (counts.structures * structure_width) (structure_words counts.members ys)) (left-next settings s rows attrs n size_of i l)
              ∙ w.structures_on;
          members_on =
              members-next
              ∙ ap (λ (ys : List Structure). sets room (counts.members * laid_width) (all_member_words ys)) (left-next settings s rows attrs n size_of i l)
              ∙ w.members_on;
        }

  pub putting-ends : n ≤ i → PutAll (structures_from settings (lent_rows settings.endian s rows attrs n) size_of 0 n) structures₀ structures members₀ room
  unfolding structure_words all_member_words
  putting-ends h =
      record {
        structures_are =
            ap (λ (ys : List Structure). sets structures (counts.structures * structure_width) (structure_words counts.members ys)) (sym (left-none settings s rows attrs n size_of i h))
            ∙ w.structures_on;
        members_are =
            ap (λ (ys : List Structure). sets room (counts.members * laid_width) (all_member_words ys)) (sym (left-none settings s rows attrs n size_of i h)) ∙ w.members_on;
      }

-- ---- into lent rooms

given-as : {o : Outcomes (Said LayoutCounts) ℕ ℕ} {r : Said LayoutCounts} {structures room : List ℕ} → outcomes r structures room ≡ o → BothGiven o r structures room
given-as p =
    record {
      answer_is = ap (λ (x : Outcomes (Said LayoutCounts) ℕ ℕ). x.answer) p;
      first_is = ap (λ (x : Outcomes (Said LayoutCounts) ℕ ℕ). x.first) p;
      second_is = ap (λ (x : Outcomes (Said LayoutCounts) ℕ ℕ). x.second) p;
    }

module _ (xs : List Structure) {needed : LayoutCounts} (is : needed ≡ counts_of xs) where
  needed-structures : needed.structures ≡ length xs
  unfolding counts_of
  needed-structures = ap (λ (c : LayoutCounts). c.structures) is

  needed-members : needed.members ≡ member_count xs
  unfolding counts_of
  needed-members = ap (λ (c : LayoutCounts). c.members) is

  wanted : (structures room : List ℕ) → outcomes (wanting (needed.structures ∷ needed.members ∷ [])) structures room
      ≡ outcomes {A = Said LayoutCounts} (wanting (length xs ∷ member_count xs ∷ [])) structures room
  wanted structures room =
      ap₂ (λ (a b : ℕ). outcomes {A = Said LayoutCounts} (wanting (a ∷ b ∷ [])) structures room) needed-structures needed-members

  pub rooms-asked : (room : List ℕ) {s rows : List ℕ} {n : ℕ} → TableReady s rows n → needed.members ≤ length room / laid_width → PutsAsked s rows n xs room
  rooms-asked room w h =
      let many : needed.members ≡ member_count xs = needed-members in
      record { ready = w; fits = omega arith }

  module _ (structures room : List ℕ) where
    pub rooms-unlisted : length structures / structure_width < needed.structures → BothGiven (layouts_into structures room xs) (said_all_layouts (Err (unfilled.Room needed))) structures room
    unfolding said_all_layouts layouts_into fills_rooms
    rooms-unlisted h =
        let many : needed.structures ≡ length xs = needed-structures in
        let test : leb (length xs) (length structures / structure_width) ≡ false = lt-leb (length xs) (length structures / structure_width) (omega arith) in
        given-as (wanted structures room ∙ sym (rw test))

    module _ (h : needed.structures ≤ length structures / structure_width) where
      listed : leb (length xs) (length structures / structure_width) ≡ true
      listed =
          let many : needed.structures ≡ length xs = needed-structures in
          le-leb (length xs) (length structures / structure_width) (omega arith)

      pub rooms-unfit : length room / laid_width < needed.members → BothGiven (layouts_into structures room xs) (said_all_layouts (Err (unfilled.Room needed))) structures room
      unfolding said_all_layouts layouts_into fills_rooms
      rooms-unfit l =
          let many : needed.members ≡ member_count xs = needed-members in
          let test : leb (member_count xs) (length room / laid_width) ≡ false = lt-leb (member_count xs) (length room / laid_width) (omega arith) in
          given-as (wanted structures room ∙ sym (rw (listed, test)))

      pub rooms-filled : needed.members ≤ length room / laid_width → {structures' room' : List ℕ} → PutAll xs structures structures' room room'
          → BothGiven (layouts_into structures room xs) (said_all_layouts (Ok needed)) structures' room'
      unfolding said_all_layouts layouts_into fills_rooms
      rooms-filled l {structures'} {room'} g =
          let many : needed.members ≡ member_count xs = needed-members in
          let test : leb (member_count xs) (length room / laid_width) ≡ true = le-leb (member_count xs) (length room / laid_width) (omega arith) in
          given-as
          (ap (λ (c : LayoutCounts). outcomes (gives c) structures' room') is
          ∙ ap₂ (outcomes (gives (counts_of xs))) g.structures_are g.members_are
          ∙ sym (rw (listed, test)))

-- a refusal of the table, by `?`
pub gone-layouts : {told : Result Unit Refusal} {d : Said Unit} {why : Refusal} → said told ≡ d → told ≡ Err why → (z : Result LayoutCounts (Unfilled LayoutCounts))
    → IsErrAnd z (λ e. e ≡ unfilled.Refused why) → {structures structures' room room' : List ℕ} (next : Unit → Outcomes (Said LayoutCounts) ℕ ℕ) → structures' ≡ structures
    → room' ≡ room → BothGiven (in_rooms structures room d next) (said_all_layouts z) structures' room'
unfolding said_all_layouts in_rooms
gone-layouts is was z exits {structures} {structures'} {room} {room'} next h k =
    let out = err_from_is_err_and z exits in
    subst (λ (y : Said Unit). BothGiven (in_rooms structures room y next) (said_all_layouts z) structures' room') (sym (refused-there is was))
    (record { answer_is = ap said_all_layouts out.1 ∙ ap (λ (e : Unfilled LayoutCounts). said_all_layouts (Err e)) out.2; first_is = h; second_is = k })

-- ---- the sizes of all rows are noted

pub all_noted : (settings : Settings) (sizes s rows attrs : List ℕ) (n : ℕ) → TableReady s rows n → (noted : List ℕ)
    → NotedUpTo (size_left settings sizes s rows attrs n deepest) n n noted → 0 < length noted → (structures room : List ℕ) {structures' room' : List ℕ} {r : Said LayoutCounts}
    → BothGiven (layouts_into structures room (structures_from settings (lent_rows settings.endian s rows attrs n) (type_size_from settings sizes s rows attrs n noted 0) 0 n)) r structures' room'
    → BothGiven (layouts_into structures room (structures_from settings (lent_rows settings.endian s rows attrs n) (type_size settings sizes (lent_rows settings.endian s rows attrs n) deepest) 0 n)) r structures' room'
all_noted settings sizes s rows attrs n ready noted w some structures room {structures'} {room'} {r} g =
    subst (λ (size_of : «Type» → Said ℕ). BothGiven (layouts_into structures room (structures_from settings (lent_rows settings.endian s rows attrs n) size_of 0 n)) r structures' room')
    (noted-types settings sizes s rows attrs n ready deepest w some 0) g

-- ---- the words of a structure

pub eight-put : (t : List ℕ) (at a b d e f g : ℕ) (name : (Option Text)) {place long : ℕ} {t₁ t₂ t₃ t₄ t₅ t₆ t₇ t₈ : List ℕ} → t₁ ≡ set t at a → t₂ ≡ set t₁ (at + 1) b
    → t₃ ≡ set t₂ (at + 2) d → t₄ ≡ set t₃ (at + 3) e → t₅ ≡ set t₄ (at + 4) f → t₆ ≡ set t₅ (at + 5) g → place ≡ name_place name → t₇ ≡ set t₆ (at + 6) place
    → long ≡ name_length name → t₈ ≡ set t₇ (at + 7) long → t₈ ≡ sets t at (eight_words a b d e f g name)
unfolding eight_words
eight-put t at a b d e f g name p q r u v w x y z o =
    let one : at + 1 ≡ suc at = omega arith in
    let two : at + 2 ≡ suc (suc at) = omega arith in
    let three : at + 3 ≡ suc (suc (suc at)) = omega arith in
    let four : at + 4 ≡ suc (suc (suc (suc at))) = omega arith in
    let five : at + 5 ≡ suc (suc (suc (suc (suc at)))) = omega arith in
    let six : at + 6 ≡ suc (suc (suc (suc (suc (suc at))))) = omega arith in
    let seven : at + 7 ≡ suc (suc (suc (suc (suc (suc (suc at)))))) = omega arith in
    o ∙ rw (y, w, v, u, r, q, p, x, z, one, two, three, four, five, six, seven)

pub eight-out : (t : List ℕ) (k a b d e f g : ℕ) (name : (Option Text)) → length t ≤ k → t ≡ sets t (k * structure_width) (eight_words a b d e f g name)
eight-out t k a b d e f g name h = sym (sets-out t (k * structure_width) (eight_words a b d e f g name) (omega arith))
