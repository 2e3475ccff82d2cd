-- No call that reads records, sizes or layouts is refused by 14, and no structure's words in the room of all layouts say it.
use Rattle.std.specs.Prelude.{Option}
use Prim.Native.Nat.{ℕ, zero, suc, ◌+◌, ◌-◌, ◌*◌, ◌<◌}
use native.Mathlib.Omega.{arith}
use mathlib.Core.Path.{◌≡◌, refl, sym, ap, ◌∙◌}
use mathlib.Core.Bool.{Bool}
use mathlib.Core.List.{List, [], ◌∷◌, ◌++◌}
use lib.ListN.{length, get_or}
use lib.Seq.{get_or-append-add, get_or-take}
use Rattle.numbers.proofs.Laws.Tests.{cond-all}
use Rattle.format.specs.Limits.{depth_limit}
use Rattle.format.specs.Said.{Said, gives, refuses, Never}
use Rattle.format.proofs.Laws.Never.{never-gives, never-is, never-must, never-then, never-past, never-room, never-rooms, never-fills, never-fills-both}
use Rattle.format.specs.declared.settings.Settings.{Settings}
use Rattle.format.specs.declared.refusal.Reason.TheVariants as reason
use Rattle.blocks.specs.declared.types.Type.{«Type»}
use Rattle.tables.specs.Table.{Table, Rows, table_rows}
use Rattle.tables.specs.Row.{row_at}
use Rattle.tables.proofs.Laws.Never.{tests-never, row-never}
use Rattle.records.specs.Unions.{RowMember}
use Rattle.records.specs.declared.fields.Text.{Text}
use Rattle.records.proofs.Laws.Never.{member-never, union-never, enumeration-never, typedef-never, variable-never, label-never, ptr-to-member-never, overlay-branch-never}
use Rattle.sizes.specs.Size.{inner_size, is_structure, shape_of}
use Rattle.sizes.proofs.Laws.Never.{member-size-never, end-never, members-of-never, type-never, size-of-key-never, size-of-type-never}
use Rattle.layout.specs.Layout.{end_or, laid_from, row_lay, layout_at, layout_into, layout_of_key}
use Rattle.layout.specs.All.{Structure, also_if, structure_at, structures_from, answer_words, structure_width, structure_words, counts_of, layouts_into, all_layouts}
use Rattle.layout.specs.AllFilled.{AllFilled}
use Rattle.layout.specs.Never.{NoFourteen}
use Rattle.layout.specs.declared.one.Layout.{Layout}
use Rattle.layout.specs.declared.all.LayoutCounts.{LayoutCounts}
use Rattle.layout.proofs.Laws.All.{answer-long}
use Rattle.layout.proofs.Laws.AllFilled.{all-filled}

-- ---- a row laid out

module _ (rows : List ℕ) (size_of : «Type» → Said ℕ) (h : (of : «Type») → Never 14 (size_of of)) (sized : Bool) where
  end-or-never : (key largest end : ℕ) → Never 14 (end_or sized key largest end)
  unfolding end_or
  end-or-never key largest end = cond-all (Never 14) sized (λ q. never-gives largest) (λ q. end-never key largest end)

  laid-never : (largest : ℕ) (ms : List RowMember) → Never 14 (laid_from rows size_of sized largest ms)
  unfolding laid_from
  laid-never largest [] = never-gives _
  laid-never largest (m ∷ ms) =
      never-then _ _ (member-size-never size_of h m)
      (λ size. never-then _ _ (end-or-never _ largest _) (λ next. never-then _ _ (laid-never next ms) (λ rest. never-gives _)))

module _ (settings : Settings) (t : Rows) (size_of : «Type» → Said ℕ) (h : (of : «Type») → Never 14 (size_of of)) where
  lay-never : (i : ℕ) → Never 14 (row_lay settings t size_of i)
  unfolding row_lay
  lay-never i =
      never-past _ _ (never-must _ reason.Kind _)
      (never-then _ _ (members-of-never settings t i) (λ ms. laid-never t.rows size_of h _ 0 ms))

  layout-at-never : (i : ℕ) → Never 14 (layout_at settings t size_of i)
  unfolding layout_at
  layout-at-never i = never-then _ _ (lay-never i) (λ l. never-gives _)

  -- ---- all structures

  abbrev AllNever : List Structure → Type 0
  AllNever [] = Unit
  AllNever (x ∷ xs) = Never 14 x.answer × AllNever xs

  structures-never : (i left : ℕ) → AllNever (structures_from settings t size_of i left)
  unfolding structures_from structure_at also_if
  structures-never i zero = tt
  structures-never i (suc left) =
      cond-all AllNever (is_structure (shape_of (row_at t.rows i).kind)) (λ q. (layout-at-never i, structures-never (suc i) left))
      (λ q. structures-never (suc i) left)

  -- ---- their words

  answer-never : (row first : ℕ) (name : (Option Text)) (d : Said Layout) → Never 14 d → (rest : List ℕ) → get_or (answer_words row name first d ++ rest) 1 0 ≡ 14 → ⊥
  unfolding answer_words
  answer-never row first name (gives x) never rest p = absurd (omega (arith, p))
  answer-never row first name (refuses number place told) never rest p = never-is never p

  words-never : (first : ℕ) (xs : List Structure) → AllNever xs → (k : ℕ) → k < length xs → get_or (structure_words first xs) (k * structure_width + 1) 0 ≡ 14 → ⊥
  unfolding structure_words
  words-never first [] never k l p = absurd (omega arith)
  words-never first (x ∷ xs) never zero l p = answer-never x.row first x.name x.answer never.0 _ p
  words-never first (x ∷ xs) never (suc k) l p =
      let words : List ℕ = answer_words x.row x.name first x.answer in
      let rest : List ℕ = structure_words (first + length x.members) xs in
      let long : length words ≡ structure_width = answer-long x.row first x.name x.answer in
      let place : length words + (k * structure_width + 1) ≡ suc k * structure_width + 1 = omega (arith, long) in
      words-never (first + length x.members) xs never.1 k (omega arith)
      (sym (get_or-append-add words rest (k * structure_width + 1) 0) ∙ ap (λ (j : ℕ). get_or (words ++ rest) j 0) place ∙ p)

-- ---- the calls

module _ (t : Table) where
  inner-never : (of : «Type») → Never 14 (inner_size t of)
  inner-never of = type-never t.settings (table_rows t) t.sizes (depth_limit - 1) of

  layout-never : (key : ℕ) (room : List ℕ) → Never 14 (layout_of_key t key room).answer
  unfolding layout_of_key layout_into
  layout-never key room =
      never-room room _ _ (row-never t key)
      (λ i. never-room room _ _ (lay-never t.settings (table_rows t) (inner_size t) inner-never i) (λ l. never-fills _ _ _ _ room))

  all-never : (structures room : List ℕ) → Never 14 (all_layouts t structures room).answer
  unfolding all_layouts layouts_into
  all-never structures room = never-rooms structures room _ _ (tests-never t) (λ passed. never-fills-both _ _ _ _ _ structures room)

  module _ (structures room : List ℕ) (many : LayoutCounts) (given : (all_layouts t structures room).answer ≡ gives many) where
    all-words-never : (k : ℕ) → k < many.structures → get_or (all_layouts t structures room).first (k * structure_width + 1) 0 ≡ 14 → ⊥
    unfolding counts_of
    all-words-never k l p =
        let xs : List Structure = structures_from t.settings (table_rows t) (inner_size t) 0 t.counts.rows in
        let filled : AllFilled xs many structures (all_layouts t structures room).first room (all_layouts t structures room).second =
        all-filled t.settings t.vendors t.sizes t.section t.rows t.attrs t.counts structures room
        (record { answer_is = sym given; first_is = refl; second_is = refl })
        in
        let count : many.structures ≡ length xs = ap (λ (c : LayoutCounts). c.structures) filled.counts_are in
        let inside : k * structure_width + 1 < length xs * structure_width = omega (arith, count, l) in
        words-never t.settings (table_rows t) (inner_size t) inner-never 0 xs
        (structures-never t.settings (table_rows t) (inner_size t) inner-never 0 t.counts.rows) k (omega (arith, count, l))
        (ap (λ (ws : List ℕ). get_or ws (k * structure_width + 1) 0) (sym filled.structures_filled.front)
        ∙ get_or-take (length xs * structure_width) (all_layouts t structures room).first (k * structure_width + 1) 0 inside ∙ p)

-- the theorem
pub no-fourteen : (t : Table) → NoFourteen t
no-fourteen t =
    record {
      members = member-never t;
      unions = union-never t;
      enumerations = enumeration-never t;
      typedefs = typedef-never t;
      variables = variable-never t;
      labels = label-never t;
      pointers = ptr-to-member-never t;
      branches = overlay-branch-never t;
      sizes = size-of-key-never t;
      types = size-of-type-never t;
      layouts = layout-never t;
      all = all-never t;
      words = all-words-never t;
    }
