-- A layout's size is what the size call answers. A structure whose size is refused has no layout, for the same reason; without ByteSize a structure whose layout
-- is refused has no size, for the same reason. With ByteSize a layout still takes the size of every member, so it may be refused where the size is not.
use Rattle.std.specs.Prelude.{Option, Some, None}
use Prim.Native.Nat.{ℕ, ◌+◌, ◌-◌}
use native.Mathlib.Omega.{arith}
use mathlib.Core.Path.{◌≡◌, refl, sym, ap, ◌∙◌}
use mathlib.Core.Bool.{Bool, true, false, true≢false}
use mathlib.Core.List.{List, [], ◌∷◌}
use lib.ListN.{length}
use Rattle.tables.specs.Table.{Table, table, lent_rows}
use Rattle.lent.specs.Outcome.{Outcome}
use Rattle.format.specs.Limits.{depth_limit}
use Rattle.format.specs.Said.{Said, gives, refuses, ◌>>=◌, ◌>>◌, in_room, fills_room}
use Rattle.format.proofs.Laws.Said.{given_is, given-refused, must-gave, must-passed, past-gave, step-gave}
use Rattle.format.specs.declared.settings.Settings.{Settings}
use Rattle.format.specs.declared.refusal.Reason.TheVariants as reason
use Rattle.blocks.specs.declared.types.Type.{«Type»}
use Rattle.tables.specs.Row.{row_at}
use Rattle.tables.specs.Find.{row_of_key}
use Rattle.tables.specs.Tests.{test_table}
use Rattle.tables.specs.Keyed.{found_row, row_of}
use Rattle.tables.specs.declared.row.Counts.{Counts}
use Rattle.records.specs.Unions.{RowMember}
use Rattle.sizes.specs.Size.{inner_size, members_of, member_size, with_end, ends_from, size_or_ends, shape_of, is_structure, shape_size, row_size, size_of_key}
use Rattle.sizes.proofs.Laws.Size.{entry_more}
use Rattle.layout.specs.Layout.{Laid, Lay, lay, laid_member, end_or, laid_from, has_byte_size, size_or_largest, own_size, row_lay, layout_of, laid_words, layout_into, layout_of_key}
use Rattle.layout.proofs.Laws.Layout.{fitting, into_room}
use Rattle.layout.proofs.Laws.LayoutFilled.{Fits, fits}
use Rattle.sizes.specs.declared.prepare.Shape.{Shape}
use Rattle.sizes.specs.declared.prepare.Shape.TheVariants as shape
use Rattle.layout.specs.declared.one.Layout.{Layout}

-- a refusal is the same, whatever would have been given
retold : {A B : Type 0} {number number' place place' : ℕ} {counts counts' : List ℕ}
    → ◌≡◌ {A = Said A} (refuses number place counts) (refuses number' place' counts') → ◌≡◌ {A = Said B} (refuses number place counts) (refuses number' place' counts')
unfolding ◌>>=◌
retold {A} {B} p =
    let none : A → Said B = λ x. refuses 0 0 [] in
    ap (λ (d : Said A). d >>= none) p

-- ---- without ByteSize the largest end of a layout is the largest end of a size

-- a layout's largest end
abbrev end_in : Said Lay → Said ℕ
end_in d = d >>= λ l. gives l.largest

and-end : (x : Laid) (d : Said Lay) → end_in (d >>= λ l. gives (lay (x ∷ l.members) l.largest)) ≡ end_in d
unfolding ◌>>=◌
and-end x (gives l) = refl
and-end x (refuses number place counts) = refl

-- what goes on from a size or an end
next-end : (d : Said ℕ) (f : ℕ → Said Lay) (g : ℕ → Said ℕ) → ((x : ℕ) → end_in (f x) ≡ g x) → end_in (d >>= f) ≡ (d >>= g)
unfolding ◌>>=◌
next-end (gives x) f g same = same x
next-end (refuses number place counts) f g same = refl

unlaid-end : (d : Said Lay) {number place : ℕ} {counts : List ℕ} → end_in d ≡ refuses number place counts → d ≡ refuses number place counts
unfolding ◌>>=◌
unlaid-end (gives l) p = absurd (given-refused p)
unlaid-end (refuses number place counts) p = retold p

module _ (rows : List ℕ) (size_of : «Type» → Said ℕ) where
  ends_same : (largest : ℕ) (ms : List RowMember) → end_in (laid_from rows size_of false largest ms) ≡ ends_from rows size_of largest ms
  unfolding laid_from ends_from end_or ◌>>=◌
  ends_same largest [] = refl
  ends_same largest (m ∷ ms) =
      let key : ℕ = (row_at rows m.row).key in
      let end : ℕ → ℕ = λ size. m.member.offset + size in
      let after : ℕ → ℕ → Said Lay = λ size next. laid_from rows size_of false next ms >>= λ l. gives (lay (laid_member m size ∷ l.members) l.largest) in
      next-end (member_size size_of m) (λ size. with_end key largest (end size) >>= after size) (λ size. with_end key largest (end size) >>= λ next. ends_from rows size_of next ms)
      (λ size. next-end (with_end key largest (end size)) (after size) (λ next. ends_from rows size_of next ms)
      (λ next. and-end (laid_member m size) (laid_from rows size_of false next ms) ∙ ends_same next ms))

  -- with a ByteSize or without one
  laid-sized : (w : (Option ℕ)) (ms : List RowMember) {l : Lay} → laid_from rows size_of (has_byte_size w) 0 ms ≡ gives l
      → size_or_ends rows size_of ms w ≡ gives (size_or_largest l.largest w)
  unfolding has_byte_size size_or_ends size_or_largest ◌>>=◌
  laid-sized (Some size) ms p = refl
  laid-sized None ms p = sym (ends_same 0 ms) ∙ ap end_in p

  module _ {number place : ℕ} {counts : List ℕ} where
    sized-unlaid : (w : (Option ℕ)) (ms : List RowMember) → size_or_ends rows size_of ms w ≡ refuses number place counts
        → laid_from rows size_of (has_byte_size w) 0 ms ≡ refuses number place counts
    unfolding has_byte_size size_or_ends
    sized-unlaid (Some size) ms p = absurd (given-refused p)
    sized-unlaid None ms p = unlaid-end (laid_from rows size_of false 0 ms) (ends_same 0 ms ∙ p)

    unlaid-sized : (w : (Option ℕ)) (ms : List RowMember) → has_byte_size w ≡ false → laid_from rows size_of (has_byte_size w) 0 ms ≡ refuses number place counts
        → size_or_ends rows size_of ms w ≡ refuses number place counts
    unfolding has_byte_size size_or_ends ◌>>=◌
    unlaid-sized (Some size) ms t p = absurd (true≢false t)
    unlaid-sized None ms t p = sym (ends_same 0 ms) ∙ ap end_in p

-- ---- a row

shape_is : (x : Shape) → is_structure x ≡ true → x ≡ shape.Structure
unfolding is_structure
shape_is shape.Structure t = refl
shape_is shape.Array t = absurd (true≢false (sym t))
shape_is shape.Enumeration t = absurd (true≢false (sym t))
shape_is shape.Union t = absurd (true≢false (sym t))
shape_is shape.PtrToMember t = absurd (true≢false (sym t))
shape_is shape.Subroutine t = absurd (true≢false (sym t))
shape_is shape.Other t = absurd (true≢false (sym t))

module _ (settings : Settings) (s rows attrs : List ℕ) (n : ℕ) (size_of : «Type» → Said ℕ) (i : ℕ) where
  abbrev own : (Option ℕ)
  own = own_size settings s rows attrs i

  abbrev all : Said (List RowMember)
  all = members_of settings (lent_rows settings.endian s rows attrs n) i

  abbrev laid_all : List RowMember → Said Lay
  laid_all ms = laid_from rows size_of (has_byte_size own) 0 ms

  abbrev size_all : List RowMember → Said ℕ
  size_all ms = size_or_ends rows size_of ms own

  size_is : is_structure (shape_of (row_at rows i).kind) ≡ true → row_size settings (lent_rows settings.endian s rows attrs n) size_of i ≡ (all >>= size_all)
  unfolding row_size shape_size own_size
  size_is t = ap (shape_size settings (lent_rows settings.endian s rows attrs n) size_of i) (shape_is (shape_of (row_at rows i).kind) t)

  -- the size of what is laid out is the row's size
  pub row-laid-size : {l : Lay} → row_lay settings (lent_rows settings.endian s rows attrs n) size_of i ≡ gives l → row_size settings (lent_rows settings.endian s rows attrs n) size_of i ≡ gives (size_or_largest l.largest own)
  unfolding row_lay ◌>>=◌
  row-laid-size {l} p =
      let kind : (is_structure (shape_of (row_at rows i).kind) ≡ true) × ((all >>= laid_all) ≡ gives l) =
      must-gave (is_structure (shape_of (row_at rows i).kind)) reason.Kind (row_at rows i).key (all >>= laid_all) p
      in
      let each : (ms : List RowMember) × (all ≡ gives ms) × (laid_all ms ≡ gives l) = step-gave all laid_all kind.1 in
      size_is kind.0 ∙ ap (λ (d : Said (List RowMember)). d >>= size_all) each.1 ∙ laid-sized rows size_of own each.0 each.2

  module _ (structure : is_structure (shape_of (row_at rows i).kind) ≡ true) where
    lay-is : row_lay settings (lent_rows settings.endian s rows attrs n) size_of i ≡ (all >>= laid_all)
    unfolding row_lay
    lay-is = sym (must-passed {b = true} (sym structure) reason.Kind (row_at rows i).key (all >>= laid_all) refl refl)

    module _ {number place : ℕ} {counts : List ℕ} where
      members-sizeless : (d : Said (List RowMember)) → (d >>= size_all) ≡ refuses number place counts → (d >>= laid_all) ≡ refuses number place counts
      unfolding ◌>>=◌
      members-sizeless (gives ms) p = sized-unlaid rows size_of own ms p
      members-sizeless (refuses other elsewhere more) p = retold p

      -- no size, no layout
      pub row-size-refused : row_size settings (lent_rows settings.endian s rows attrs n) size_of i ≡ refuses number place counts → row_lay settings (lent_rows settings.endian s rows attrs n) size_of i ≡ refuses number place counts
      row-size-refused p = lay-is ∙ members-sizeless all (sym (size_is structure) ∙ p)

      members-unlaid : has_byte_size own ≡ false → (d : Said (List RowMember)) → (d >>= laid_all) ≡ refuses number place counts → (d >>= size_all) ≡ refuses number place counts
      unfolding ◌>>=◌
      members-unlaid t (gives ms) p = unlaid-sized rows size_of own ms t p
      members-unlaid t (refuses other elsewhere more) p = retold p

      -- without ByteSize: no layout, no size
      pub row-layout-refused : has_byte_size (own_size settings s rows attrs i) ≡ false → row_lay settings (lent_rows settings.endian s rows attrs n) size_of i ≡ refuses number place counts
          → row_size settings (lent_rows settings.endian s rows attrs n) size_of i ≡ refuses number place counts
      row-layout-refused t p = size_is structure ∙ members-unlaid t all (sym lay-is ∙ p)

-- ---- a key

-- a test, then a step and what follows it
past_next : {A B : Type 0} (d : Said Unit) (e : Said A) (f : A → Said B) → (d >> (e >>= f)) ≡ ((d >> e) >>= f)
unfolding ◌>>◌ ◌>>=◌
past_next (gives x) e f = refl
past_next (refuses number place counts) e f = refl

-- the row that a found one gave
row-found : (key : ℕ) (f : (Option ℕ)) {i : ℕ} → found_row key f ≡ gives i → f ≡ Some i
unfolding found_row
row-found key (Some j) p = ap Some (given_is p)
row-found key None p = absurd (given-refused (sym p))

-- so many counts are told
abbrev counts_in : {A : Type 0} → Said A → ℕ
counts_in (gives x) = 0
counts_in (refuses number place counts) = length counts

-- want of room tells a count
filled-told : {A E : Type 0} (b : Bool) (answer : A) (many : ℕ) (words room : List E) {number place : ℕ}
    → (fills_room b answer (many ∷ []) words room).answer ≡ refuses number place [] → ⊥
unfolding fills_room
filled-told true answer many words room p = given-refused p
filled-told {A} false answer many words room p =
    let none : ◌≡◌ {A = ℕ} 1 0 = ap (counts_in {A = A}) p in
    absurd (omega arith)

module _ (settings : Settings) (vendors sizes s rows attrs : List ℕ) (counts : Counts) (key : ℕ) (room : List ℕ) where
  abbrev t : Table
  t = table s settings vendors sizes rows attrs counts

  abbrev size_at : ℕ → Said ℕ
  size_at i = row_size settings (lent_rows settings.endian s rows attrs counts.rows) (inner_size t) i

  abbrev laid_at : ℕ → Said Lay
  laid_at i = row_lay settings (lent_rows settings.endian s rows attrs counts.rows) (inner_size t) i

  abbrev into : ℕ → Outcome (Said Layout) ℕ
  into i = layout_into settings (lent_rows settings.endian s rows attrs counts.rows) (inner_size t) room i

  abbrev filling : ℕ → Lay → Outcome (Said Layout) ℕ
  filling i l = into_room settings s rows attrs counts.rows (inner_size t) i room l

  -- the entry that is asked for is one level above its members' types
  size_there : size_of_key t key ≡ (row_of t key >>= size_at)
  unfolding size_of_key row_of
  size_there =
      ap (λ (d : Said ℕ). test_table t >> d) (entry_more settings sizes s rows attrs counts.rows (depth_limit - 1) key refl)
      ∙ past_next (test_table t) (found_row key (row_of_key rows counts.rows key)) size_at

  -- the size of a key's layout is the key's size
  pub layout-size : {x : Layout} → (layout_of_key (table s settings vendors sizes rows attrs counts) key room).answer ≡ gives x
      → size_of_key (table s settings vendors sizes rows attrs counts) key ≡ gives x.size
  unfolding layout_of ◌>>=◌
  layout-size {x} p =
      let f : Fits settings vendors sizes s rows attrs counts key room x (layout_of_key t key room).room =
      fits settings vendors sizes s rows attrs counts key room (record { answer_is = sym p; room_is = refl })
      in
      size_there ∙ ap (λ (d : Said ℕ). d >>= size_at) f.found ∙ row-laid-size settings s rows attrs counts.rows (inner_size t) f.row f.are
      ∙ ap (λ (y : Layout). gives y.size) (sym f.same)

  found_at : {i : ℕ} → row_of t key ≡ gives i → row_of_key rows counts.rows key ≡ Some i
  unfolding row_of
  found_at p = row-found key (row_of_key rows counts.rows key) (past-gave (test_table t) (found_row key (row_of_key rows counts.rows key)) p)

  -- an entry that the key has, if it has any, is a structure or a class
  module _ (structure : (i : ℕ) → row_of_key rows counts.rows key ≡ Some i → is_structure (shape_of (row_at rows i).kind) ≡ true) where
    module _ {number place : ℕ} {more : List ℕ} where
      row-sizeless : (d : Said ℕ) → row_of t key ≡ d → (d >>= size_at) ≡ refuses number place more → (in_room room d into).answer ≡ refuses number place more
      unfolding layout_into in_room ◌>>=◌
      row-sizeless (gives i) is p =
          ap (λ (d : Said Lay). (in_room room d (filling i)).answer)
          (row-size-refused settings s rows attrs counts.rows (inner_size t) i (structure i (found_at is)) p)
      row-sizeless (refuses other elsewhere others) is p = retold p

      -- no size, no layout
      pub size-refused : size_of_key (table s settings vendors sizes rows attrs counts) key ≡ refuses number place more
          → (layout_of_key (table s settings vendors sizes rows attrs counts) key room).answer ≡ refuses number place more
      unfolding layout_of_key
      size-refused p = row-sizeless (row_of t key) refl (sym size_there ∙ p)

    -- and it has no ByteSize
    module _ (unbounded : (i : ℕ) → row_of_key rows counts.rows key ≡ Some i → has_byte_size (own_size settings s rows attrs i) ≡ false) {number place : ℕ} where
      -- a refusal is never one for want of room
      into-refused : (i : ℕ) (d : Said Lay) → (in_room room d (filling i)).answer ≡ refuses number place [] → d ≡ refuses number place []
      unfolding in_room
      into-refused i (gives l) p = absurd (filled-told (fitting room l) _ (length l.members) (laid_words l.members) room p)
      into-refused i (refuses other elsewhere others) p = retold p

      row-unlaid : (d : Said ℕ) → row_of t key ≡ d → (in_room room d into).answer ≡ refuses number place [] → (d >>= size_at) ≡ refuses number place []
      unfolding layout_into in_room ◌>>=◌
      row-unlaid (gives i) is p =
          row-layout-refused settings s rows attrs counts.rows (inner_size t) i (structure i (found_at is)) (unbounded i (found_at is)) (into-refused i (laid_at i) p)
      row-unlaid (refuses other elsewhere others) is p = retold p

      -- no layout, no size: want of room, which tells a count, is no such refusal
      pub layout-refused : (layout_of_key (table s settings vendors sizes rows attrs counts) key room).answer ≡ refuses number place []
          → size_of_key (table s settings vendors sizes rows attrs counts) key ≡ refuses number place []
      unfolding layout_of_key
      layout-refused p = size_there ∙ row-unlaid (row_of t key) refl p
