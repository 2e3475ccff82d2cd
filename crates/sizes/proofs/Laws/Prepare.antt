-- What follows from `Size` and `Prepare`, for each way that the code comes to an answer; and that what was prepared, with the sizes of types, is the size.
use Rattle.std.specs.Prelude.{Option, Some, None, Result, Ok, Err, IsErrAnd, ok_or}
use Rattle.std.specs.Result.{MatchResult}
use Prim.Native.Nat.{ℕ, zero, suc, ◌+◌, ◌-◌, ◌≤◌, ◌<◌}
use native.Mathlib.Nat.{sub-zero}
use native.Mathlib.Omega.{arith}
use mathlib.Core.Path.{◌≡◌, refl, sym, ap, ◌∙◌}
use mathlib.Core.Bool.{Bool, true, false, cond}
use mathlib.Core.List.{List, [], ◌∷◌}
use borrow.Author.Tests.{eq-eqb, ne_eqb}
use lib.Dec.{eqb}
use Rattle.format.specs.AttributeKind as attribute
use Rattle.format.specs.TagKind as tag
use Rattle.format.specs.Said.{Said, gives, refuses, refusal, placed, ◌>>=◌, ◌>>◌, said}
use Rattle.format.proofs.Laws.Said.{comes_on, comes-past, goes-past, refused-there, given-refused, bind-bind, past-bind}
use Rattle.format.specs.declared.settings.Settings.{Settings}
use Rattle.format.specs.declared.refusal.Refusal.{Refusal}
use Rattle.format.specs.declared.refusal.Reason.TheVariants as reason
use Rattle.attributes.specs.Parts.{block_at}
use Rattle.blocks.specs.Subscripts.{count_subscripts}
use Rattle.blocks.specs.declared.types.Type.{«Type»}
use Rattle.blocks.specs.declared.subscripts.Array.{Array}
use Rattle.tables.specs.Table.{lent_rows}
use Rattle.tables.specs.Row.{row_at}
use Rattle.tables.specs.Inside.Keyed.{refused_at}
use Rattle.tables.specs.declared.row.Row.{Row}
use Rattle.links.specs.Walk.{Walk, ends, endless}
use Rattle.links.specs.Links.{child_walk, non_null}
use Rattle.links.specs.Inside.EachChild.{children_at}
use Rattle.links.proofs.Laws.EachChild.{walk-children}
use Rattle.links.proofs.Laws.AnyChild.{ended-walk, endless-walk}
use Rattle.links.specs.Inside.AnyChild.{gone_over}
use Rattle.records.proofs.Laws.Taken.{by-case, test-passed, test-failed}
use Rattle.records.proofs.Laws.Fields.{by-told}
use Rattle.records.specs.Scan.{attribute_at, run_of, faults_from}
use Rattle.records.specs.Fields.{is_sought, last_from, last_of, word_of}
use Rattle.records.specs.Member.{member_at}
use Rattle.records.specs.Unions.{RowMember, member_then, union_at}
use Rattle.records.specs.Enumeration.{enumeration_at}
use Rattle.records.specs.PtrToMember.{ptr_at}
use Rattle.records.specs.declared.scan.Run.{Run}
use Rattle.records.specs.declared.scan.Attribute.{Attribute}
use Rattle.records.specs.declared.fields.Sought.TheVariants as sought
use Rattle.records.specs.declared.member.Member.{Member}
use Rattle.sizes.specs.Size.{needed_at, subscript_block, subscripts_at, subscript_fault, product_of, array_size, member_child_then, member_rows_from, member_rows_by, members_of, ends_from, size_or_ends, shape_of, shape_size, row_size}
use Rattle.sizes.proofs.Laws.Exit.{exit-as, placed_by}
use Rattle.sizes.specs.Inside.Prepare.{Ready, sized, element_of, ends_wanted, said_prepared, prepared_last, prepared_array, member_fault, members_fault, walk_fault, structure_fault, size_prepared, prepared_structure, prepared_enumeration, prepared_union, prepared_pointer, prepared_shape, prepared_row, finished}
use Rattle.sizes.specs.declared.prepare.Shape.{Shape}
use Rattle.sizes.specs.declared.prepare.Shape.TheVariants as shape
use Rattle.sizes.specs.declared.prepare.Prepared.{Prepared}
use Rattle.sizes.specs.declared.prepare.Prepared.TheVariants as prepared

-- ---- the subscripts of an array

module _ (s attrs : List ℕ) (run : Run) where
  pub block-is : (k : ℕ) {a : Attribute} {block : List ℕ} → a ≡ attribute_at attrs k → block ≡ block_at run.ends.«data» 2 s a.value
      → block ≡ subscript_block s attrs run k
  unfolding subscript_block
  block-is k p q = q ∙ ap (λ (x : Attribute). block_at run.ends.«data» 2 s x.value) p

  -- what was counted, told at the row
  pub subscripts-is : (k : ℕ) {block : List ℕ} → block ≡ subscript_block s attrs run k → (told z : Result Array Refusal) → said told ≡ count_subscripts run.ends.section block
      → (Q : Refusal → Refusal → Type 0) → MatchResult told (λ x. z ≡ Ok x) (λ e. IsErrAnd z (Q e))
      → ((e w : Refusal) → Q e w → w ≡ refused_at run.key e.reason) → said z ≡ subscripts_at s attrs run k
  unfolding subscripts_at said placed
  subscripts-is k b told z is Q cases at =
      placed_by said (λ e. refl) run.key (λ x. refl) told z Q cases at ∙ ap (placed run.key) (is ∙ ap (count_subscripts run.ends.section) b)

  module _ (j : ℕ) {a : Attribute} (p : a ≡ attribute_at attrs (run.first + j)) where
    subscript-read : {z : Said Unit} → a.number ≡ attribute.subscr_data → z ≡ (subscripts_at s attrs run (run.first + j) >> gives tt)
        → z ≡ subscript_fault s attrs run j
    unfolding subscript_fault
    subscript-read h g = test-passed (ap (λ (x : Attribute). eqb x.number attribute.subscr_data) p) _ (eq-eqb a.number attribute.subscr_data h) g

    subscript-other : (a.number ≡ attribute.subscr_data → ⊥) → gives tt ≡ subscript_fault s attrs run j
    unfolding subscript_fault
    subscript-other h =
        test-failed (ap (λ (x : Attribute). eqb x.number attribute.subscr_data) p) _ (ne_eqb a.number attribute.subscr_data h) refl

-- ---- faults one after the other: from number j on, what is left comes to the whole

pub record Judging (f : ℕ → Said Unit) (count j : ℕ) : Type 0 where
  pub left : faults_from f j (count - j) ≡ faults_from f 0 count

judging-begins : (f : ℕ → Said Unit) (count : ℕ) → Judging f count 0
judging-begins f count = record { left = ap (faults_from f 0) (sub-zero count) }

module _ {f : ℕ → Said Unit} {count j : ℕ} (w : Judging f count j) where
  judging-ends : count ≤ j → gives tt ≡ faults_from f 0 count
  unfolding faults_from
  judging-ends h = let none : zero ≡ count - j = omega arith in ap (faults_from f j) none ∙ w.left

  module _ (h : j < count) {z : Said Unit} (is : z ≡ f j) where
    one : (z >> faults_from f (j + 1) (count - (j + 1))) ≡ faults_from f 0 count
    unfolding faults_from
    one =
        let many : suc (count - (j + 1)) ≡ count - j = omega arith in
        let place : j + 1 ≡ suc j = omega arith in
        ap (λ (d : Said Unit). d >> faults_from f (j + 1) (count - (j + 1))) is
        ∙ ap (λ (x : ℕ). f j >> faults_from f x (count - (j + 1))) place ∙ ap (faults_from f j) many ∙ w.left

  module _ (h : j < count) where
    judging-on : gives tt ≡ f j → Judging f count (j + 1)
    unfolding ◌>>◌
    judging-on p = record { left = one h p }

    judging-refused : {number place : ℕ} {counts : List ℕ} → refuses number place counts ≡ f j → refuses number place counts ≡ faults_from f 0 count
    unfolding ◌>>◌
    judging-refused p = one h p

-- the attribute that counts
abbrev pub last_prepared : List ℕ → List ℕ → Run → Option ℕ → Said Ready
last_prepared s attrs run last = needed_at run.key last >>= prepared_last s attrs run

-- what was last says so, or that one is needed
abbrev or_missing : Run → Option Prepared → Result Prepared Refusal
or_missing run last = ok_or last (refused_at run.key reason.Missing)

-- attribute after attribute: the faults of all come to what those from number j on do; what was last among those before it
pub record Preparing (s attrs : List ℕ) (run : Run) (j : ℕ) (last : Option Prepared) : Type 0 where
  pub within : j ≤ run.count
  pub judging : Judging (subscript_fault s attrs run) run.count j
  pub last_is : said_prepared (or_missing run last) ≡ last_prepared s attrs run (last_from (sought.Number attribute.subscr_data) attrs run.first j)

pub preparing-begins : (s attrs : List ℕ) (run : Run) → Preparing s attrs run 0 None
unfolding said_prepared needed_at last_from ◌>>=◌
preparing-begins s attrs run = record { within = omega arith; judging = judging-begins _ _; last_is = refl }

module _ {s attrs : List ℕ} {run : Run} {j : ℕ} {last : Option Prepared} (w : Preparing s attrs run j last) where
  -- what is prepared, where the faults of all are these
  after-faults : {z : Said Unit} {r : Said Ready} → z ≡ faults_from (subscript_fault s attrs run) 0 run.count
      → r ≡ (z >> last_prepared s attrs run (last_of (sought.Number attribute.subscr_data) attrs run)) → r ≡ prepared_array s attrs run
  unfolding prepared_array
  after-faults p h = h ∙ ap (λ (d : Said Unit). d >> last_prepared s attrs run (last_of (sought.Number attribute.subscr_data) attrs run)) p

  pub preparing-ends : run.count ≤ j → {why : Refusal} → why ≡ refused_at run.key reason.Missing → {z : Result Prepared Refusal} → z ≡ ok_or last why
      → said_prepared z ≡ prepared_array s attrs run
  unfolding last_of ◌>>◌
  preparing-ends h q at =
      let all : j ≡ run.count = omega (arith, w.within) in
      ap said_prepared (at ∙ ap (ok_or last) q)
      ∙ after-faults (judging-ends w.judging h)
      (w.last_is ∙ ap (λ (k : ℕ). last_prepared s attrs run (last_from (sought.Number attribute.subscr_data) attrs run.first k)) all)

  module _ (l : j < run.count) {a : Attribute} (at : a ≡ attribute_at attrs (run.first + j)) where
    last-with : {b : Bool} → eqb a.number attribute.subscr_data ≡ b
        → cond b (Some (run.first + j)) (last_from (sought.Number attribute.subscr_data) attrs run.first j)
        ≡ last_from (sought.Number attribute.subscr_data) attrs run.first (j + 1)
    unfolding last_from is_sought
    last-with t =
        let more : suc j ≡ j + 1 = omega arith in
        ap (λ (c : Bool). cond c (Some (run.first + j)) (last_from (sought.Number attribute.subscr_data) attrs run.first j))
        (sym t ∙ ap (λ (x : Attribute). eqb x.number attribute.subscr_data) at)
        ∙ ap (last_from (sought.Number attribute.subscr_data) attrs run.first) more

    pub preparing-past : (a.number ≡ attribute.subscr_data → ⊥) → Preparing s attrs run (j + 1) last
    preparing-past h =
        record {
          within = omega arith;
          judging = judging-on w.judging l (subscript-other s attrs run j at h);
          last_is = w.last_is ∙ ap (last_prepared s attrs run) (last-with (ne_eqb a.number attribute.subscr_data h));
        }

    module _ (h : a.number ≡ attribute.subscr_data) {told : Result Array Refusal} (is : said told ≡ subscripts_at s attrs run (run.first + j)) where
      pub preparing-on : {array : Array} → told ≡ Ok array → Preparing s attrs run (j + 1) (Some (prepared.Element array.element (run.first + j)))
      unfolding said_prepared needed_at prepared_last ◌>>=◌
      preparing-on p =
          record {
            within = omega arith;
            judging = judging-on w.judging l (subscript-read s attrs run j at h (comes-past is p (gives tt) refl));
            last_is = comes_on is p _ refl ∙ ap (last_prepared s attrs run) (last-with (eq-eqb a.number attribute.subscr_data h));
          }

      pub preparing-refused : {why : Refusal} → told ≡ Err why → (z : Result Prepared Refusal) → IsErrAnd z (λ e. e ≡ why)
          → said_prepared z ≡ prepared_array s attrs run
      unfolding said_prepared ◌>>◌
      preparing-refused {why} p z exits =
          exit-as (λ (r : Result Prepared Refusal). said_prepared r ≡ prepared_array s attrs run) why z exits
          (after-faults (judging-refused w.judging l (subscript-read s attrs run j at h (ap (λ (d : Said Array). d >> gives tt) (sym (refused-there is p))))) refl)

-- ---- the members of a structure

module _ (settings : Settings) (s rows attrs : List ℕ) (n : ℕ) where
  module _ (c : ℕ) {row : Row} (at : row ≡ row_at rows c) where
    module _ (h : row.kind ≡ tag.member) {told : Result Member Refusal} (is : said told ≡ member_at settings (lent_rows settings.endian s rows attrs n) c) where
      member_is : {x : Result Member Refusal} {z : Said Unit} → told ≡ x → z ≡ (said x >> gives tt) → z ≡ member_fault settings s rows attrs n c
      unfolding member_fault
      member_is p g =
          test-passed (ap (λ (x : Row). eqb x.kind tag.member) at) _ (eq-eqb row.kind tag.member h) (goes-past said is p (gives tt) g)

      pub member-clear : {m : Member} → told ≡ Ok m → gives tt ≡ member_fault settings s rows attrs n c
      unfolding said ◌>>◌
      member-clear p = member_is p refl

      pub member-refused : {why : Refusal} → told ≡ Err why → refusal why ≡ member_fault settings s rows attrs n c
      unfolding said ◌>>◌
      member-refused p = member_is p refl

    pub member-other : (row.kind ≡ tag.member → ⊥) → gives tt ≡ member_fault settings s rows attrs n c
    unfolding member_fault
    member-other h = test-failed (ap (λ (x : Row). eqb x.kind tag.member) at) _ (ne_eqb row.kind tag.member h) refl

  pub members-none : gives tt ≡ members_fault settings s rows attrs n []
  unfolding members_fault
  members-none = refl

  -- one child of several
  module _ (c : ℕ) {told : Result Unit Refusal} (is : said told ≡ member_fault settings s rows attrs n c) where
    pub members_on : told ≡ Ok tt → (cs : List ℕ) → members_fault settings s rows attrs n cs ≡ members_fault settings s rows attrs n (c ∷ cs)
    unfolding members_fault said ◌>>◌
    members_on p cs = goes-past said is p (members_fault settings s rows attrs n cs) refl

    pub members-refused : {why : Refusal} → told ≡ Err why → (cs : List ℕ) → refusal why ≡ members_fault settings s rows attrs n (c ∷ cs)
    unfolding members_fault said ◌>>◌
    members-refused p cs = goes-past said is p (members_fault settings s rows attrs n cs) refl

  module _ (i : ℕ) {told : Option Bool} (is : told ≡ gone_over rows false (child_walk (lent_rows settings.endian s rows attrs n) i)) where
    pub structure-walked : {any : Bool} {z : Said Unit} → told ≡ Some any → z ≡ members_fault settings s rows attrs n (children_at settings.endian s rows attrs n i)
        → z ≡ structure_fault settings s rows attrs n i
    unfolding structure_fault walk_fault
    structure-walked p h =
        by-case (walk_fault settings s rows attrs n i) (ended-walk settings.endian s rows attrs n i is p)
        (h ∙ ap (members_fault settings s rows attrs n) (walk-children settings.endian s rows attrs n i (ended-walk settings.endian s rows attrs n i is p)))

    pub structure-endless : {row : Row} {why : Refusal} → told ≡ None → row ≡ row_at rows i → why ≡ refused_at row.key reason.Link
        → refusal why ≡ structure_fault settings s rows attrs n i
    unfolding structure_fault walk_fault
    structure-endless p at q =
        by-case (walk_fault settings s rows attrs n i) (endless-walk settings.endian s rows attrs n i is p)
        (ap refusal (q ∙ ap (λ (x : Row). refused_at x.key reason.Link) at))

  module _ (i : ℕ) {told : Result Unit Refusal} (is : said told ≡ structure_fault settings s rows attrs n i) where
    module _ (clear : told ≡ Ok tt) {run : Run} {w : Option ℕ} (at : run ≡ run_of settings.endian rows i) (size : w ≡ word_of s attrs run attribute.byte_size) where
      structure-word : {x : Option ℕ} {z : Said Ready} → w ≡ x → z ≡ gives (size_prepared settings s rows attrs n x) → z ≡ prepared_structure settings s rows attrs n i
      unfolding prepared_structure said ◌>>◌
      structure-word p h =
          goes-past said is clear _
          (h ∙ ap (λ (x : Option ℕ). gives (size_prepared settings s rows attrs n x)) (sym p ∙ size ∙ ap (λ (x : Run). word_of s attrs x attribute.byte_size) at))

      pub structure-size : {x : ℕ} → w ≡ Some x → gives (sized x) ≡ prepared_structure settings s rows attrs n i
      unfolding size_prepared
      structure-size p = structure-word p refl

      pub structure-ends : w ≡ None → gives ends_wanted ≡ prepared_structure settings s rows attrs n i
      unfolding size_prepared
      structure-ends p = structure-word p refl

    pub structure-refused : {why : Refusal} → told ≡ Err why → refusal why ≡ prepared_structure settings s rows attrs n i
    unfolding prepared_structure said ◌>>◌
    structure-refused p = goes-past said is p _ refl

-- ---- a row, by its shape

module _ (settings : Settings) (s rows attrs : List ℕ) (n i : ℕ) {row : Row} {told : Shape} (at : row ≡ row_at rows i) (is : told ≡ shape_of row.kind) where
  pub row-shape : {x : Shape} {z : Said Ready} → told ≡ x → z ≡ prepared_shape settings s rows attrs n i x → z ≡ prepared_row settings s rows attrs n i
  unfolding prepared_row
  row-shape p h = by-told (prepared_shape settings s rows attrs n i) (is ∙ ap (λ (x : Row). shape_of x.kind) at) p h

  pub row-array : {run : Run} {z : Said Ready} → told ≡ shape.Array → run ≡ run_of settings.endian rows i → z ≡ prepared_array s attrs run
      → z ≡ prepared_row settings s rows attrs n i
  unfolding prepared_shape
  row-array p q h = row-shape p (h ∙ ap (prepared_array s attrs) q)

  pub row_other : {why : Refusal} → told ≡ shape.Other → why ≡ refused_at row.key reason.Kind → refusal why ≡ prepared_row settings s rows attrs n i
  unfolding prepared_shape
  row_other p q = row-shape p (ap refusal (q ∙ ap (λ (x : Row). refused_at x.key reason.Kind) at))

-- ---- a structure's fault is that of its members

-- whether something is refused, whatever it gives
abbrev fault_in : {A : Type 0} → Said A → Said Unit
fault_in d = d >> gives tt

-- all members were read
pub record AllRead (all : Said (List RowMember)) : Type 0 where
  pub list : List RowMember
  pub are : all ≡ gives list

-- a member that was read, and those after it
abbrev with_member : ℕ → Said (List RowMember) → Member → Said (List RowMember)
with_member c rest m = rest >>= λ ms. gives (record { row = c; member = m } ∷ ms)

read-fault : (c : ℕ) (m : Said Member) (rest : Said (List RowMember)) → (fault_in m >> fault_in rest) ≡ fault_in (m >>= with_member c rest)
unfolding ◌>>=◌ ◌>>◌
read-fault c (gives m) (gives ms) = refl
read-fault c (gives m) (refuses number place counts) = refl
read-fault c (refuses number place counts) rest = refl

child-fault : (b : Bool) (c : ℕ) (m : Said Member) (rest : Said (List RowMember))
    → (cond b (fault_in m) (gives tt) >> fault_in rest) ≡ fault_in (cond b (m >>= with_member c rest) rest)
unfolding ◌>>◌
child-fault true c m rest = read-fault c m rest
child-fault false c m rest = refl

clear-read : (all : Said (List RowMember)) → fault_in all ≡ gives tt → AllRead all
unfolding ◌>>◌
clear-read (gives ms) p = record { list = ms; are = refl }
clear-read (refuses number place counts) p = absurd (given-refused (sym p))

fault-refused : (all : Said (List RowMember)) {number place : ℕ} {counts : List ℕ} → fault_in all ≡ refuses number place counts
    → all ≡ refuses number place counts
unfolding ◌>>◌
fault-refused (gives ms) p = absurd (given-refused p)
fault-refused (refuses number place counts) p = ap (λ (d : Said Unit). d >> gives []) p

module _ (settings : Settings) (s rows attrs : List ℕ) (n : ℕ) where
  children-fault : (cs : List ℕ) → members_fault settings s rows attrs n cs ≡ fault_in (member_rows_from settings (lent_rows settings.endian s rows attrs n) cs)
  unfolding members_fault member_fault member_rows_from member_child_then member_then ◌>>◌
  children-fault [] = refl
  children-fault (c ∷ cs) =
      ap (λ (d : Said Unit). member_fault settings s rows attrs n c >> d) (children-fault cs)
      ∙ child-fault (eqb (row_at rows c).kind tag.member) c (member_at settings (lent_rows settings.endian s rows attrs n) c) (member_rows_from settings (lent_rows settings.endian s rows attrs n) cs)

  walk-fault : (i : ℕ) (w : Walk) → walk_fault settings s rows attrs n i w ≡ fault_in (member_rows_by settings (lent_rows settings.endian s rows attrs n) (row_at rows i).key w)
  unfolding walk_fault member_rows_by ◌>>◌
  walk-fault i (ends cs) = children-fault (non_null rows cs)
  walk-fault i endless = refl

  same-fault : (i : ℕ) → structure_fault settings s rows attrs n i ≡ fault_in (members_of settings (lent_rows settings.endian s rows attrs n) i)
  unfolding structure_fault members_of
  same-fault i = walk-fault i (child_walk (lent_rows settings.endian s rows attrs n) i)

  -- no fault: all members were read
  pub fault-members : (i : ℕ) → structure_fault settings s rows attrs n i ≡ gives tt → AllRead (members_of settings (lent_rows settings.endian s rows attrs n) i)
  fault-members i p = clear-read (members_of settings (lent_rows settings.endian s rows attrs n) i) (sym (same-fault i) ∙ p)

  -- a fault: they are refused for it
  pub refused-members : (i : ℕ) {number place : ℕ} {counts : List ℕ} → structure_fault settings s rows attrs n i ≡ refuses number place counts
      → members_of settings (lent_rows settings.endian s rows attrs n) i ≡ refuses number place counts
  refused-members i p = fault-refused (members_of settings (lent_rows settings.endian s rows attrs n) i) (sym (same-fault i) ∙ p)

-- ---- what was prepared, with the sizes of types

module _ (settings : Settings) (s rows attrs : List ℕ) (n : ℕ) (type_size : «Type» → Said ℕ) (i : ℕ) where
  abbrev run : Run
  run = run_of settings.endian rows i

  abbrev finish : Ready → Said ℕ
  finish r = finished settings s rows attrs n type_size i r

  -- the subscripts that count, then the element's size, then the product
  abbrev last_size : ℕ → Said ℕ
  last_size k =
      subscripts_at s attrs run k
      >>= λ array. type_size array.element >>= λ size. product_of run.ends.section run.key (subscript_block s attrs run k) size

  last-finished : (l : Option ℕ) → (last_prepared s attrs run l >>= finish) ≡ (needed_at run.key l >>= last_size)
  unfolding finished needed_at prepared_last run_of ◌>>=◌
  last-finished (Some k) = bind-bind (subscripts_at s attrs run k) (λ array. gives (element_of array.element k)) finish
  last-finished None = refl

  array-finished : (prepared_array s attrs run >>= finish) ≡ array_size s attrs run type_size
  unfolding prepared_array array_size
  array-finished =
      let faults : Said Unit = faults_from (subscript_fault s attrs run) 0 run.count in
      let last : Option ℕ = last_of (sought.Number attribute.subscr_data) attrs run in
      past-bind faults (last_prepared s attrs run last) finish ∙ ap (λ (d : Said ℕ). faults >> d) (last-finished last)

  members-finished : (all : Said (List RowMember)) (w : Option ℕ) → members_of settings (lent_rows settings.endian s rows attrs n) i ≡ all
      → ((fault_in all >> gives (size_prepared settings s rows attrs n w)) >>= finish) ≡ (all >>= λ ms. size_or_ends rows type_size ms w)
  unfolding finished size_prepared size_or_ends ◌>>=◌ ◌>>◌
  members-finished (gives ms) (Some x) p = refl
  members-finished (gives ms) None p = ap (λ (d : Said (List RowMember)). d >>= ends_from rows type_size 0) p
  members-finished (refuses number place counts) w p = refl

  structure-finished : (prepared_structure settings s rows attrs n i >>= finish)
      ≡ (members_of settings (lent_rows settings.endian s rows attrs n) i >>= λ ms. size_or_ends rows type_size ms (word_of s attrs run attribute.byte_size))
  unfolding prepared_structure
  structure-finished =
      ap (λ (f : Said Unit). (f >> gives (size_prepared settings s rows attrs n (word_of s attrs run attribute.byte_size))) >>= finish)
      (same-fault settings s rows attrs n i)
      ∙ members-finished (members_of settings (lent_rows settings.endian s rows attrs n) i) (word_of s attrs run attribute.byte_size) refl

  shape-finished : (x : Shape) → (prepared_shape settings s rows attrs n i x >>= finish) ≡ shape_size settings (lent_rows settings.endian s rows attrs n) type_size i x
  unfolding prepared_shape prepared_enumeration prepared_union prepared_pointer shape_size finished ◌>>=◌
  shape-finished shape.Array = array-finished
  shape-finished shape.Structure = structure-finished
  shape-finished shape.Enumeration = bind-bind (enumeration_at settings (lent_rows settings.endian s rows attrs n) i) (λ e. gives (sized e.byte_size)) finish
  shape-finished shape.Union = bind-bind (union_at settings (lent_rows settings.endian s rows attrs n) i) (λ u. gives (sized u.byte_size)) finish
  shape-finished shape.PtrToMember = past-bind (ptr_at settings (lent_rows settings.endian s rows attrs n) i) (gives (sized 4)) finish
  shape-finished shape.Subroutine = refl
  shape-finished shape.Other = refl

  -- it is the size
  pub prepared-size : (prepared_row settings s rows attrs n i >>= finished settings s rows attrs n type_size i) ≡ row_size settings (lent_rows settings.endian s rows attrs n) type_size i
  unfolding prepared_row row_size
  prepared-size = shape-finished (shape_of (row_at rows i).kind)
