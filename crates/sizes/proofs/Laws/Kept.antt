-- What is kept of a row says what the row says.
use Rattle.std.specs.Prelude.{Option, Some, None, Result, Ok, Err}
use Prim.Native.Nat.{ℕ, ◌+◌, ◌*◌, ◌<◌}
use native.Mathlib.Omega.{arith}
use mathlib.Core.Path.{◌≡◌, refl, sym, ap, ◌∙◌, fun_ext}
use mathlib.Core.Bool.{Bool, true, false, cond}
use mathlib.Core.List.{List, []}
use lib.ListN.{length, get_or}
use lib.Dec.{eqb, ltb}
use borrow.Author.Tests.{ne_eqb, eq-eqb}
use Rattle.numbers.specs.declared.Endian.{Endian}
use Rattle.format.specs.TagKind as tag
use Rattle.format.specs.Refusal.{number_of}
use Rattle.format.specs.Said.{Said, gives, refuses, refuse, must, ◌>>=◌, ◌>>◌, said}
use Rattle.format.proofs.Laws.Said.{case-said, goes_on, given_is, given-refused}
use Rattle.format.specs.declared.settings.Settings.{Settings}
use Rattle.format.specs.declared.refusal.Refusal.{Refusal}
use Rattle.format.specs.Lookup.{index_of}
use Rattle.format.specs.FundType.{fund_types}
use Rattle.format.specs.declared.refusal.Reason.TheVariants as reason
use Rattle.blocks.specs.declared.types.Type.{«Type»}
use Rattle.blocks.specs.declared.types.TypeKind.{TypeKind}
use Rattle.blocks.specs.declared.types.TypeKind.TheVariants as kind
use Rattle.tables.specs.Table.{lent_rows}
use Rattle.tables.specs.Row.{row_at}
use Rattle.tables.specs.Find.{row_of_key}
use Rattle.tables.specs.Keyed.{found_row}
use Rattle.tables.specs.declared.row.Row.{Row}
use Rattle.links.specs.Links.{sibling_row}
use Rattle.records.proofs.Laws.Taken.{by-case, test-passed, test-failed}
use Rattle.records.specs.Member.{member_at}
use Rattle.records.specs.declared.member.Member.{Member}
use Rattle.sizes.specs.Size.{fundamental_size, kind_size, type_size_by, size_or, shape_of, is_structure}
use Rattle.sizes.specs.Inside.Noted.{noted_at}
use Rattle.sizes.specs.Inside.Prepare.{member_fault, structure_fault}
use Rattle.sizes.specs.Inside.Size.{Extent, with_size, member_added, noted_found, entry_size_from, type_size_from}
use Rattle.sizes.specs.Inside.Kept.{row_named, size_named, first_of, second_of, size_kept, added_by, added_kept, fault_size, size_fault, fault_kept, SiblingsKept, FaultsKept, AllKept, MemberAsked, StructureAsked}
use Rattle.sizes.specs.declared.prepare.Shape.{Shape}
use Rattle.sizes.specs.declared.prepare.Shape.TheVariants as shape

-- ---- a size, an offset with it

module _ (noted : List ℕ) {told : Result ℕ Refusal} where
  size-as : {x : Result ℕ Refusal} {z : Said ℕ} → told ≡ x → z ≡ size_kept noted (said x) → z ≡ size_kept noted (said told)
  size-as p h = by-case (λ (x : Result ℕ Refusal). size_kept noted (said x)) p h

  pub size-given : {size : ℕ} → told ≡ Ok size → said (Ok size) ≡ size_kept noted (said told)
  unfolding size_kept said
  size-given p = size-as p refl

  module _ {why : Refusal} (p : told ≡ Err why) {number : ℕ} (is : number ≡ number_of why.reason) where
    pub size-noted : number ≡ 10 → {z : Said ℕ} → z ≡ noted_at noted why.place → z ≡ size_kept noted (said told)
    unfolding size_kept said
    size-noted h q = size-as p (test-passed (ap (λ (k : ℕ). eqb k 10) is) _ (eq-eqb number 10 h) q)

    pub size-refused : (number ≡ 10 → ⊥) → said (Err why) ≡ size_kept noted (said told)
    unfolding size_kept said
    size-refused h = size-as p (test-failed (ap (λ (k : ℕ). eqb k 10) is) _ (ne_eqb number 10 h) refl)

pub kept-offset : (noted kept : List ℕ) (c : ℕ) {told : Result ℕ Refusal} → said told ≡ noted_at kept (c * 3) → {offset : ℕ} {second size : Said ℕ} {z : Said Extent}
    → told ≡ Ok offset → second ≡ noted_at kept (c * 3 + 1) → size ≡ size_kept noted second → z ≡ with_size offset size → z ≡ added_kept noted kept c
unfolding added_kept added_by said ◌>>=◌
kept-offset noted kept c at {offset} p q h k = goes_on said at p _ (k ∙ ap (with_size offset) (h ∙ ap (size_kept noted) q))

-- ---- siblings

module _ {e : Endian} {s rows attrs : List ℕ} {n : ℕ} {kept : List ℕ} (w : SiblingsKept e s rows attrs n kept) (c : ℕ) (l : c < n) (h : 0 < length kept)
    {told : Result ℕ Refusal} (at : said told ≡ noted_at kept (c * 3 + 2)) where
  pub sibling-kept : {r : ℕ} → told ≡ Ok r → r ≡ sibling_row (lent_rows e s rows attrs n) c
  unfolding said
  sibling-kept p = given_is (case-said said at p ∙ w.sibling c l h)

  pub sibling-there : {why : Refusal} {r : ℕ} → told ≡ Err why → r ≡ sibling_row (lent_rows e s rows attrs n) c
  unfolding said
  sibling-there p = absurd (given-refused (sym (case-said said at p ∙ w.sibling c l h)))

-- ---- members

module _ (sizes rows : List ℕ) (n : ℕ) (noted : List ℕ) where
  abbrev entry_noted : ℕ → Said ℕ
  entry_noted key = noted_found noted key (row_of_key rows n key)

  found-kept : (key : ℕ) (f : Option ℕ) → size_kept noted (found_row key f >>= λ i. refuse reason.Depth i) ≡ noted_found noted key f
  unfolding size_kept found_row noted_found number_of ◌>>=◌
  found-kept key (Some i) = refl
  found-kept key None = refl

  line_kept : (b : Bool) (size : ℕ) → size_kept noted (must b reason.Number 0 >> gives size) ≡ (must b reason.Number 0 >> gives size)
  unfolding size_kept number_of must ◌>>◌
  line_kept true size = refl
  line_kept false size = refl

  fundamental-kept : (number : ℕ) → size_kept noted (fundamental_size sizes number) ≡ fundamental_size sizes number
  unfolding fundamental_size
  fundamental-kept number = line_kept (ltb (index_of number fund_types) (length sizes)) (get_or sizes (index_of number fund_types) 0)

  kind-kept : (k : TypeKind) → size_kept noted (kind_size sizes (row_named rows n) k) ≡ kind_size sizes entry_noted k
  unfolding kind_size row_named
  kind-kept (kind.Fundamental number) = fundamental-kept number
  kind-kept (kind.UserDefined key) = found-kept key (row_of_key rows n key)

  pointer-kept : (b : Bool) (k : TypeKind) → size_kept noted (cond b (gives 4) (kind_size sizes (row_named rows n) k)) ≡ cond b (gives 4) (kind_size sizes entry_noted k)
  unfolding size_kept
  pointer-kept true k = refl
  pointer-kept false k = kind-kept k

  or_kept : (t : «Type») (w : Option ℕ) → size_kept noted (size_or (type_size_by sizes (row_named rows n)) t w) ≡ size_or (type_size_by sizes entry_noted) t w
  unfolding size_or type_size_by size_kept
  or_kept t (Some size) = refl
  or_kept t None = pointer-kept t.pointer t.kind

  -- what a member that was read adds
  abbrev added_of : (ℕ → Said ℕ) → Member → Said Extent
  added_of entry m = with_size m.offset (size_or (type_size_by sizes entry) m.of m.byte_size)

  read_kept : (d : Said Member) → added_by noted (first_of d) (second_of sizes rows n d) ≡ (d >>= added_of entry_noted)
  unfolding added_by first_of second_of size_named ◌>>=◌
  read_kept (gives m) = ap (with_size m.offset) (or_kept m.of m.byte_size)
  read_kept (refuses number place counts) = refl

module _ {settings : Settings} {sizes s rows attrs : List ℕ} {n : ℕ} {noted kept : List ℕ} {c : ℕ} (w : MemberAsked settings sizes s rows attrs n noted kept c)
    (h : 0 < length kept) where
  noted-there : 0 < length noted
  noted-there = w.all_kept.paired c w.asked.asked.there h

  entry-noted : (levels : ℕ) → entry_noted sizes rows n noted ≡ entry_size_from settings sizes s rows attrs n noted levels
  unfolding entry_size_from
  entry-noted levels =
      let some : 0 < length noted = noted-there in
      let test : eqb (length noted) 0 ≡ false = ne_eqb (length noted) 0 (λ z. omega (arith, z)) in
      fun_ext (λ key. sym (rw test))

  -- the member that is kept is the member at row c
  pub member-kept : (levels : ℕ) {z : Said Extent} → z ≡ added_kept noted kept c
      → z ≡ member_added settings s rows attrs n (type_size_from settings sizes s rows attrs n noted levels) c
  unfolding added_kept member_added type_size_from
  member-kept levels p =
      p
      ∙ ap (λ (x : Said ℕ). added_by noted x (noted_at kept (c * 3 + 1))) (w.all_kept.parts.rows_kept.faults.first c w.asked.asked.there h w.is_member)
      ∙ ap (added_by noted (first_of (member_at settings (lent_rows settings.endian s rows attrs n) c))) (w.all_kept.parts.second c w.asked.asked.there h w.is_member)
      ∙ read_kept sizes rows n noted (member_at settings (lent_rows settings.endian s rows attrs n) c)
      ∙ ap (λ (entry : ℕ → Said ℕ). member_at settings (lent_rows settings.endian s rows attrs n) c >>= added_of sizes rows n noted entry) (entry-noted levels)

-- ---- faults

read-fault : (d : Said Member) → size_fault (first_of d) ≡ (d >> gives tt)
unfolding size_fault first_of ◌>>=◌ ◌>>◌
read-fault (gives m) = refl
read-fault (refuses number place counts) = refl

same-fault : (d : Said Unit) → size_fault (fault_size d) ≡ d
unfolding size_fault fault_size ◌>>◌
same-fault (gives x) = refl
same-fault (refuses number place counts) = refl

module _ {settings : Settings} {s rows attrs : List ℕ} {n : ℕ} {kept : List ℕ} (h : 0 < length kept) where
  pub member-fault-kept : FaultsKept settings s rows attrs n kept → (c : ℕ) → c < n → {row : Row} → row ≡ row_at rows c → row.kind ≡ tag.member
      → {z : Said Unit} → z ≡ fault_kept kept c → z ≡ member_fault settings s rows attrs n c
  unfolding fault_kept member_fault
  member-fault-kept w c l {row} at k p =
      test-passed (ap (λ (x : Row). eqb x.kind tag.member) at) _ (eq-eqb row.kind tag.member k)
      (p ∙ ap size_fault (w.first c l h (ap (λ (x : Row). x.kind) (sym at) ∙ k)) ∙ read-fault (member_at settings (lent_rows settings.endian s rows attrs n) c))

  pub structure-fault-kept : {i : ℕ} → StructureAsked settings s rows attrs n kept i → {z : Said Unit} → z ≡ fault_kept kept i → z ≡ structure_fault settings s rows attrs n i
  unfolding fault_kept
  structure-fault-kept {i} w p =
      p ∙ ap size_fault (w.kept_rows.structure i w.asked.there h w.structure) ∙ same-fault (structure_fault settings s rows attrs n i)

pub kind_is : (rows : List ℕ) (c : ℕ) {k : ℕ} {row : Row} → row ≡ row_at rows c → row.kind ≡ k → (row_at rows c).kind ≡ k
kind_is rows c at p = ap (λ (r : Row). r.kind) (sym at) ∙ p

pub structure-test : (rows : List ℕ) (i : ℕ) {row : Row} {b : Bool} → row ≡ row_at rows i → b ≡ is_structure (shape_of row.kind) → {x : Bool} → b ≡ x
    → is_structure (shape_of (row_at rows i).kind) ≡ x
structure-test rows i at is p = ap (λ (r : Row). is_structure (shape_of r.kind)) (sym at) ∙ sym is ∙ p

pub shape-structure : (rows : List ℕ) (i : ℕ) {row : Row} {told : Shape} → row ≡ row_at rows i → told ≡ shape_of row.kind → told ≡ shape.Structure
    → is_structure (shape_of (row_at rows i).kind) ≡ true
unfolding is_structure
shape-structure rows i at is p = ap is_structure (ap (λ (r : Row). shape_of r.kind) (sym at) ∙ sym is ∙ p)

-- ---- nothing is kept

pub none_kept : (settings : Settings) (sizes s rows attrs : List ℕ) (n : ℕ) (noted : List ℕ) → AllKept settings sizes s rows attrs n noted []
none_kept settings sizes s rows attrs n noted =
    record {
      parts = record {
        rows_kept = record {
          faults = record { siblings = record { sibling = λ c l h. absurd (omega (arith, h)) }; first = λ c l h m. absurd (omega (arith, h)) };
          structure = λ i l h t. absurd (omega (arith, h));
        };
        second = λ c l h m. absurd (omega (arith, h));
      };
      paired = λ i l h. absurd (omega (arith, h));
    }
