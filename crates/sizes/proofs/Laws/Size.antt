-- What follows from `Size` and its ways, for each way that the code comes to an answer.
use Rattle.std.specs.Prelude.{Option, Some, None, Result, Ok, Err}
use Prim.Native.Nat.{ℕ, zero, suc, ◌+◌, ◌-◌, ◌≤◌, ◌<◌}
use native.Mathlib.Omega.{arith}
use mathlib.Core.Path.{◌≡◌, refl, sym, ap, ◌∙◌, subst}
use mathlib.Core.Bool.{true, false, true≢false}
use mathlib.Core.List.{List, [], ◌∷◌}
use lib.ListN.{length, get_or}
use lib.Dec.{eqb, ltb}
use borrow.Author.Tests.{eq-eqb, ne_eqb, le-leb, lt-leb, lt-ltb, le-ltb}
use Rattle.tables.specs.Table.{table, lent_rows}
use Rattle.format.specs.Lookup.{index_of}
use Rattle.format.specs.FundType.{fund_types}
use Rattle.format.specs.TagKind as tag
use Rattle.format.specs.AttributeKind as attribute
use Rattle.format.specs.Said.{Said, gives, refuse, refusal, ◌>>=◌, ◌>>◌, said}
use Rattle.format.proofs.Laws.Said.{case-said, goes_on, must-passed, must-failed, given_is, given-refused, past-gave, step-gave, tests-gave}
use Rattle.format.specs.declared.settings.Settings.{Settings}
use Rattle.format.specs.declared.refusal.Refusal.{Refusal}
use Rattle.format.specs.declared.refusal.Reason.TheVariants as reason
use Rattle.blocks.specs.declared.types.Type.{«Type»}
use Rattle.blocks.specs.declared.types.TypeKind.TheVariants as kind
use Rattle.tables.specs.Row.{row_at, ends_of}
use Rattle.tables.specs.Find.{row_of_key}
use Rattle.tables.proofs.Laws.Find.{row-found}
use Rattle.tables.specs.Keyed.{found_row}
use Rattle.tables.specs.Tests.{Tells}
use Rattle.tables.specs.Inside.Keyed.{refused_at}
use Rattle.tables.proofs.Laws.Tests.{passed-held, passed-short}
use Rattle.tables.proofs.Laws.Held.{held-rising, held-rows-few}
use Rattle.tables.specs.Holds.{TableHolds}
use Rattle.tables.specs.declared.row.Row.{Row}
use Rattle.tables.specs.declared.row.Counts.{Counts}
use Rattle.links.specs.Links.{child_walk, non_null}
use Rattle.links.specs.Inside.EachChild.{rows_met, is_ending, walk_on, children_from, children_at}
use Rattle.links.specs.Walk.{Walk, ends, endless}
use Rattle.records.proofs.Laws.Taken.{by-case, test-passed, test-failed}
use Rattle.records.specs.Scan.{run_of, faults_from}
use Rattle.records.specs.Member.{member_at}
use Rattle.records.specs.Inside.Enumeration.{AskedShort}
use Rattle.records.specs.Fields.{last_of}
use Rattle.records.specs.Unions.{RowMember, union_at}
use Rattle.records.specs.Enumeration.{enumeration_at}
use Rattle.records.specs.PtrToMember.{ptr_at}
use Rattle.records.specs.declared.scan.Run.{Run}
use Rattle.records.specs.declared.fields.Sought.TheVariants as sought
use Rattle.records.specs.declared.member.Member.{Member}
use Rattle.sizes.specs.Inside.Prepare.{Ready, sized, element_of, ends_wanted, said_prepared, prepared_last, prepared_array, walk_fault, structure_fault, prepared_structure, prepared_enumeration, prepared_union, prepared_pointer, prepared_shape, prepared_row, finished}
use Rattle.sizes.proofs.Laws.Prepare.{AllRead, fault-members, prepared-size}
use Rattle.sizes.proofs.Laws.Ends.{ends-members}
use Rattle.sizes.specs.Size.{size_limit, shape_of, needed_at, subscripts_at, subscript_fault, member_rows_from, member_rows_by, members_of, size_or, type_size_by, kind_size, fundamental_size, product_of, subscript_block, larger, with_end, ends_from, row_size, entry_size, type_size}
use Rattle.sizes.specs.Inside.Noted.{noted_at}
use Rattle.sizes.specs.Inside.Size.{TableReady, EndsShort, Extent, said_added, with_size, grown, member_added, child_end, ends_over, array_product, noted_found, entry_size_from, type_size_from}
use Rattle.sizes.specs.declared.prepare.Shape.{Shape}
use Rattle.sizes.specs.declared.prepare.Shape.TheVariants as shape
use Rattle.sizes.specs.declared.prepare.Prepared.{Prepared}
use Rattle.sizes.specs.declared.prepare.Prepared.TheVariants as prepared
use Rattle.sizes.specs.declared.kept.Added.{Added}

-- ---- what a member adds

module _ (settings : Settings) (s rows attrs : List ℕ) (n : ℕ) (size_of : «Type» → Said ℕ) (c : ℕ) {told : Result Member Refusal}
    (is : said told ≡ member_at settings (lent_rows settings.endian s rows attrs n) c) {m : Member} (p : told ≡ Ok m) where
  pub added-own : {size : ℕ} → m.byte_size ≡ Some size → said_added (Ok (record { offset = m.offset; size = size })) ≡ member_added settings s rows attrs n size_of c
  unfolding member_added said_added said with_size size_or ◌>>=◌
  added-own q = goes_on said is p _ (by-case (λ (w : Option ℕ). with_size m.offset (size_or size_of m.of w)) q refl)

  pub added-typed : m.byte_size ≡ None → {size : Said ℕ} {z : Said Extent} → size ≡ size_of m.of → z ≡ with_size m.offset size
      → z ≡ member_added settings s rows attrs n size_of c
  unfolding member_added said size_or ◌>>=◌
  added-typed q h k =
      goes_on said is p _ (by-case (λ (w : Option ℕ). with_size m.offset (size_or size_of m.of w)) q (k ∙ ap (with_size m.offset) h))

-- ---- an end

module _ (rows : List ℕ) (c largest offset size : ℕ) where
  pub grown-past : size_limit < offset + size → {row : Row} {why : Refusal} → row ≡ row_at rows c → why ≡ refused_at row.key reason.Big
      → said (Err why) ≡ grown rows c largest offset size
  unfolding grown with_end said
  grown-past h p q =
      must-failed refl reason.Big (row_at rows c).key _ (lt-leb (offset + size) size_limit h)
      (ap refusal (q ∙ ap (λ (r : Row). refused_at r.key reason.Big) p))

  grown-within : offset + size ≤ size_limit → {z : Said ℕ} → z ≡ gives (larger largest (offset + size)) → z ≡ grown rows c largest offset size
  unfolding grown with_end
  grown-within h p = must-passed refl reason.Big (row_at rows c).key _ (le-leb (offset + size) size_limit h) p

  pub grown-more : offset + size ≤ size_limit → largest ≤ offset + size → said (Ok (offset + size)) ≡ grown rows c largest offset size
  unfolding larger said
  grown-more h l = grown-within h (ap gives (test-passed refl largest (le-leb largest (offset + size) l) refl))

  pub grown-same : offset + size ≤ size_limit → offset + size < largest → said (Ok largest) ≡ grown rows c largest offset size
  unfolding larger said
  grown-same h l = grown-within h (ap gives (test-failed refl (offset + size) (lt-leb largest (offset + size) l) refl))

-- ---- a product

pub product-here : (settings : Settings) (s rows attrs : List ℕ) (i k size : ℕ) {run : Run} {block : List ℕ} {z : Said ℕ}
    → run ≡ run_of settings.endian rows i → block ≡ subscript_block s attrs run k → z ≡ product_of settings.endian run.key block size
    → z ≡ array_product settings s rows attrs i k size
unfolding array_product run_of
product-here settings s rows attrs i k size {run} {block} p q t =
    t ∙ ap (λ (b : List ℕ). product_of settings.endian run.key b size) q
    ∙ ap (λ (x : Run). product_of settings.endian x.key (subscript_block s attrs x k) size) p

-- ---- the largest end with that of a child

module _ (settings : Settings) (s rows attrs : List ℕ) (n : ℕ) (size_of : «Type» → Said ℕ) (largest c : ℕ) {row : Row} (at : row ≡ row_at rows c) where
  pub child-other : (row.kind ≡ tag.member → ⊥) → said (Ok largest) ≡ child_end settings s rows attrs n size_of largest c
  unfolding child_end said
  child-other h = test-failed (ap (λ (r : Row). eqb r.kind tag.member) at) _ (ne_eqb row.kind tag.member h) refl

  pub child-added : row.kind ≡ tag.member → {told x : Result Added Refusal} {z : Said ℕ} → said_added told ≡ member_added settings s rows attrs n size_of c → told ≡ x
      → z ≡ (said_added x >>= λ e. grown rows c largest e.offset e.size) → z ≡ child_end settings s rows attrs n size_of largest c
  unfolding child_end
  child-added h is p q =
      test-passed (ap (λ (r : Row). eqb r.kind tag.member) at) _ (eq-eqb row.kind tag.member h) (goes_on said_added is p _ q)

-- ---- the loop over children

module _ (settings : Settings) (s rows attrs : List ℕ) (n : ℕ) (size_of : «Type» → Said ℕ) where
  -- no child is left
  pub ends-done : (largest : ℕ) {z : Said ℕ} → ends_over settings s rows attrs n size_of largest [] ≡ z → said (Ok largest) ≡ z
  unfolding ends_over said
  ends-done largest p = p

  module _ (largest c : ℕ) {told : Result ℕ Refusal} (is : said told ≡ child_end settings s rows attrs n size_of largest c) (cs : List ℕ) where
    pub ends_next : {next : ℕ} → told ≡ Ok next → ends_over settings s rows attrs n size_of next cs ≡ ends_over settings s rows attrs n size_of largest (c ∷ cs)
    unfolding ends_over said ◌>>=◌
    ends_next p = goes_on said is p (λ next. ends_over settings s rows attrs n size_of next cs) refl

    pub ends-refused : {why : Refusal} → told ≡ Err why → said (Err why) ≡ ends_over settings s rows attrs n size_of largest (c ∷ cs)
    unfolding ends_over said ◌>>=◌
    ends-refused p = goes_on said is p (λ next. ends_over settings s rows attrs n size_of next cs) refl

-- ---- a row: what was prepared, with the sizes of types

abbrev AreWanted : Ready → Type 0
AreWanted (sized size) = ⊥
AreWanted (element_of t k) = ⊥
AreWanted ends_wanted = Unit

-- what is ready otherwise wants no ends
other : {r : Ready} → (AreWanted r → ⊥) → gives r ≡ gives ends_wanted → ⊥
other h p = h (subst AreWanted (sym (given_is p)) tt)

array-other : (s attrs : List ℕ) (run : Run) → prepared_array s attrs run ≡ gives ends_wanted → ⊥
unfolding prepared_array prepared_last
array-other s attrs run p =
    let last =
    step-gave (needed_at run.key (last_of (sought.Number attribute.subscr_data) attrs run)) (prepared_last s attrs run)
    (past-gave (faults_from (subscript_fault s attrs run) 0 run.count) _ p)
    in
    other (λ h. h) (step-gave (subscripts_at s attrs run last.0) _ last.2).2

module _ (settings : Settings) (s rows attrs : List ℕ) (n i : ℕ) where
  -- the ends are asked for only of a structure without a fault
  shape-clear : (x : Shape) → prepared_shape settings s rows attrs n i x ≡ gives ends_wanted → structure_fault settings s rows attrs n i ≡ gives tt
  unfolding prepared_shape prepared_structure prepared_enumeration prepared_union prepared_pointer
  shape-clear shape.Array p = absurd (array-other s attrs (run_of settings.endian rows i) p)
  shape-clear shape.Structure p = (tests-gave (structure_fault settings s rows attrs n i) _ p).0
  shape-clear shape.Enumeration p = absurd (other (λ h. h) (step-gave (enumeration_at settings (lent_rows settings.endian s rows attrs n) i) _ p).2)
  shape-clear shape.Union p = absurd (other (λ h. h) (step-gave (union_at settings (lent_rows settings.endian s rows attrs n) i) _ p).2)
  shape-clear shape.PtrToMember p = absurd (other (λ h. h) (past-gave (ptr_at settings (lent_rows settings.endian s rows attrs n) i) _ p))
  shape-clear shape.Subroutine p = absurd (other (λ h. h) p)
  shape-clear shape.Other p = absurd (given-refused (sym p))

  pub walk-ending : (w : Walk) → walk_fault settings s rows attrs n i w ≡ gives tt → is_ending w ≡ true
  unfolding walk_fault is_ending
  walk-ending (ends cs) p = refl
  walk-ending endless p = absurd (given-refused (sym p))

  -- where the walk ends, the members are those among the children
  pub walk-members : (key : ℕ) (w : Walk) → is_ending w ≡ true → member_rows_from settings (lent_rows settings.endian s rows attrs n) (non_null rows (rows_met w)) ≡ member_rows_by settings (lent_rows settings.endian s rows attrs n) key w
  unfolding is_ending rows_met member_rows_by
  walk-members key (ends cs) p = refl
  walk-members key endless p = absurd (true≢false (sym p))

  module _ {told : Result Prepared Refusal} (is : said_prepared told ≡ prepared_row settings s rows attrs n i) where
    module _ (p : told ≡ Ok prepared.Ends) where
      row-clear : structure_fault settings s rows attrs n i ≡ gives tt
      unfolding prepared_row said_prepared
      row-clear = shape-clear (shape_of (row_at rows i).kind) (sym (case-said said_prepared is p))

      row-ending : is_ending (child_walk (lent_rows settings.endian s rows attrs n) i) ≡ true
      unfolding structure_fault
      row-ending = walk-ending (child_walk (lent_rows settings.endian s rows attrs n) i) row-clear

      row-members : member_rows_from settings (lent_rows settings.endian s rows attrs n) (children_at settings.endian s rows attrs n i) ≡ members_of settings (lent_rows settings.endian s rows attrs n) i
      unfolding children_at children_from walk_on child_walk members_of
      row-members = walk-members (row_at rows i).key (child_walk (lent_rows settings.endian s rows attrs n) i) row-ending

      pub ends_asked : AskedShort s rows n i → EndsShort settings s rows attrs n i
      unfolding walk_on child_walk
      ends_asked w =
          record { ends_at = record { asked = w.asked; ending = record { table = w.asked.table; ending = row-ending } }; short = w.short }

    module _ (size_of : «Type» → Said ℕ) where
      pub row_is : {x : Result Prepared Refusal} {z : Said ℕ} → told ≡ x → z ≡ (said_prepared x >>= finished settings s rows attrs n size_of i)
          → z ≡ row_size settings (lent_rows settings.endian s rows attrs n) size_of i
      row_is q h = goes_on said_prepared is q _ h ∙ prepared-size settings s rows attrs n size_of i

      pub row-element : {t : «Type»} {k : ℕ} → told ≡ Ok (prepared.Element t k) → {size x : Result ℕ Refusal} {z : Said ℕ} → said size ≡ size_of t → size ≡ x
          → z ≡ (said x >>= array_product settings s rows attrs i k) → z ≡ row_size settings (lent_rows settings.endian s rows attrs n) size_of i
      unfolding finished said_prepared array_product run_of ends_of ◌>>=◌
      row-element {t} {k} q p u v = row_is q (goes_on said p u (array_product settings s rows attrs i k) v)

      pub row_ends : {z : Said ℕ} → told ≡ Ok prepared.Ends → z ≡ ends_over settings s rows attrs n size_of 0 (children_at settings.endian s rows attrs n i)
          → z ≡ row_size settings (lent_rows settings.endian s rows attrs n) size_of i
      unfolding finished said_prepared ◌>>=◌
      row_ends q v =
          let all : AllRead (members_of settings (lent_rows settings.endian s rows attrs n) i) = fault-members settings s rows attrs n i (row-clear q) in
          row_is q
          (v ∙ ends-members settings s rows attrs n size_of 0 (children_at settings.endian s rows attrs n i) (row-members q ∙ all.are)
          ∙ ap (λ (d : Said (List RowMember)). d >>= ends_from rows size_of 0) (sym all.are))

-- ---- an entry with its levels

module _ (settings : Settings) (sizes s rows attrs : List ℕ) (n : ℕ) where
  -- the last level: 10 for a key that is found, 11 for another
  pub entry_zero : (key : ℕ) {f : Option ℕ} → row_of_key rows n key ≡ f → entry_size settings sizes (lent_rows settings.endian s rows attrs n) 0 key ≡ (found_row key f >> refuse reason.Depth key)
  unfolding entry_size
  entry_zero key p = ap (λ (f : Option ℕ). found_row key f >> refuse reason.Depth key) p

  -- with one more level an entry's types have those below it
  pub entry_more : (levels key : ℕ) {f : Option ℕ} → row_of_key rows n key ≡ f
      → entry_size settings sizes (lent_rows settings.endian s rows attrs n) (suc levels) key
      ≡ (found_row key f >>= row_size settings (lent_rows settings.endian s rows attrs n) (type_size settings sizes (lent_rows settings.endian s rows attrs n) levels))
  unfolding entry_size type_size
  entry_more levels key p = ap (λ (f : Option ℕ). found_row key f >>= row_size settings (lent_rows settings.endian s rows attrs n) (type_size settings sizes (lent_rows settings.endian s rows attrs n) levels)) p

  pub entry-none : (levels key : ℕ) → row_of_key rows n key ≡ None → entry_size settings sizes (lent_rows settings.endian s rows attrs n) levels key ≡ refuse reason.Entry key
  unfolding found_row ◌>>=◌ ◌>>◌
  entry-none zero key p = entry_zero key p
  entry-none (suc levels) key p = entry_more levels key p

  module _ (levels key : ℕ) {f : Option ℕ} (is : f ≡ row_of_key rows n key) where
    pub entry-missing : {why : Refusal} → f ≡ None → why ≡ refused_at key reason.Entry
        → said (Err why) ≡ entry_size settings sizes (lent_rows settings.endian s rows attrs n) levels key
    unfolding said
    entry-missing p q = ap refusal q ∙ sym (entry-none levels key (sym is ∙ p))

    module _ {i : ℕ} (p : f ≡ Some i) where
      pub entry-deep : levels ≡ 0 → {why : Refusal} → why ≡ refused_at key reason.Depth
          → said (Err why) ≡ entry_size settings sizes (lent_rows settings.endian s rows attrs n) levels key
      unfolding found_row said ◌>>◌
      entry-deep z q =
          ap refusal q ∙ sym (entry_zero key (sym is ∙ p)) ∙ ap (λ (l : ℕ). entry_size settings sizes (lent_rows settings.endian s rows attrs n) l key) (sym z)

      pub entry_row : (levels ≡ 0 → ⊥) → {z : Said ℕ}
          → z ≡ row_size settings (lent_rows settings.endian s rows attrs n) (type_size settings sizes (lent_rows settings.endian s rows attrs n) (levels - 1)) i
          → z ≡ entry_size settings sizes (lent_rows settings.endian s rows attrs n) levels key
      unfolding found_row ◌>>=◌
      entry_row z q =
          let one : suc (levels - 1) ≡ levels = omega (arith, z) in
          q ∙ sym (entry_more (levels - 1) key (sym is ∙ p)) ∙ ap (λ (l : ℕ). entry_size settings sizes (lent_rows settings.endian s rows attrs n) l key) one

  -- no sizes are noted
  pub entry-plain : (levels key : ℕ) → entry_size_from settings sizes s rows attrs n [] levels key ≡ entry_size settings sizes (lent_rows settings.endian s rows attrs n) levels key
  unfolding entry_size_from
  entry-plain levels key = refl

  pub type-plain : (levels : ℕ) (t : «Type») → type_size_from settings sizes s rows attrs n [] levels t ≡ type_size settings sizes (lent_rows settings.endian s rows attrs n) levels t
  unfolding type_size_from type_size entry_size_from
  type-plain levels t = refl

  -- with sizes that may be noted
  module _ (noted : List ℕ) (levels key : ℕ) where
    pub entry-left : length noted ≡ 0 → {z : Said ℕ} → z ≡ entry_size settings sizes (lent_rows settings.endian s rows attrs n) levels key
        → z ≡ entry_size_from settings sizes s rows attrs n noted levels key
    unfolding entry_size_from
    entry-left h q = test-passed refl _ (eq-eqb (length noted) 0 h) q

    module _ (h : length noted ≡ 0 → ⊥) {f : Option ℕ} (is : f ≡ row_of_key rows n key) where
      entry-by : {x : Option ℕ} {z : Said ℕ} → f ≡ x → z ≡ noted_found noted key x → z ≡ entry_size_from settings sizes s rows attrs n noted levels key
      unfolding entry_size_from
      entry-by p q = test-failed refl _ (ne_eqb (length noted) 0 h) (q ∙ ap (noted_found noted key) (sym p ∙ is))

      pub entry-noted : {i : ℕ} {z : Said ℕ} → f ≡ Some i → z ≡ noted_at noted i → z ≡ entry_size_from settings sizes s rows attrs n noted levels key
      unfolding noted_found found_row ◌>>=◌
      entry-noted p q = entry-by p q

      pub entry-unnoted : {why : Refusal} → f ≡ None → why ≡ refused_at key reason.Entry
          → said (Err why) ≡ entry_size_from settings sizes s rows attrs n noted levels key
      unfolding noted_found found_row said ◌>>=◌
      entry-unnoted p q = entry-by p (ap refusal q)

-- ---- a type

-- a fundamental number's place among the types: a line of the table, or none
module _ (sizes : List ℕ) (number : ℕ) {k : ℕ} (p : k ≡ index_of number fund_types) where
  line-is : ltb k (length sizes) ≡ ltb (index_of number fund_types) (length sizes)
  line-is = ap (λ (j : ℕ). ltb j (length sizes)) p

  pub line-there : k < length sizes → said (Ok (get_or sizes k 0)) ≡ fundamental_size sizes number
  unfolding fundamental_size said
  line-there h = must-passed line-is reason.Number 0 _ (lt-ltb k (length sizes) h) (ap (λ (j : ℕ). gives (get_or sizes j 0)) p)

  pub line-none : length sizes ≤ k → {why : Refusal} → why ≡ refused_at 0 reason.Number → said (Err why) ≡ fundamental_size sizes number
  unfolding fundamental_size said
  line-none h q = must-failed line-is reason.Number 0 _ (le-ltb k (length sizes) h) (ap refusal q)

-- `entry` gives an entry's size
module _ (sizes : List ℕ) (entry : ℕ → Said ℕ) (t : «Type») where
  pub type-pointer : t.pointer ≡ true → said (Ok 4) ≡ type_size_by sizes entry t
  unfolding type_size_by said
  type-pointer h = test-passed refl _ h refl

  module _ (h : t.pointer ≡ false) where
    type-kind : {z : Said ℕ} → z ≡ kind_size sizes entry t.kind → z ≡ type_size_by sizes entry t
    unfolding type_size_by
    type-kind q = test-failed refl _ h q

    pub type-fundamental : {number : ℕ} {z : Said ℕ} → t.kind ≡ kind.Fundamental number → z ≡ fundamental_size sizes number → z ≡ type_size_by sizes entry t
    unfolding kind_size
    type-fundamental p q = type-kind (by-case (kind_size sizes entry) p q)

    pub type-user : {key : ℕ} {z : Said ℕ} → t.kind ≡ kind.UserDefined key → z ≡ entry key → z ≡ type_size_by sizes entry t
    unfolding kind_size
    type-user p q = type-kind (by-case (kind_size sizes entry) p q)

-- a row that was found, of a table that was tested
pub found-asked : {s rows : List ℕ} {n : ℕ} → TableReady s rows n → (key : ℕ) {f : Option ℕ} → f ≡ row_of_key rows n key → {i : ℕ} → f ≡ Some i → AskedShort s rows n i
found-asked {rows = rows} {n = n} w key is p =
    record { asked = record { table = w.table; there = (row-found rows n key (sym is ∙ p)).0 }; short = w.short }

-- a table whose tests passed
pub ready : {settings : Settings} {vendors sizes s rows attrs : List ℕ} {counts : Counts} {told : Result Unit Refusal}
    → Tells (table s settings vendors sizes rows attrs counts) told → told ≡ Ok tt → TableReady s rows counts.rows
ready {s = s} {rows = rows} {attrs = attrs} {counts = counts} is p =
    let c : TableHolds s _ rows attrs counts = passed-held is p in
    record { table = record { rising = held-rising c; few = held-rows-few c }; short = passed-short is p }
