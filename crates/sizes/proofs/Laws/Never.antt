-- No size is refused by 14, on any section, table and settings.
use Rattle.std.specs.Prelude.{Option, Some, None}
use Prim.Native.Nat.{ℕ, zero, suc, ◌+◌, ◌*◌}
use mathlib.Core.Bool.{true, false}
use mathlib.Core.List.{List, [], ◌∷◌}
use lib.ListN.{length, drop}
use lib.Dec.{eqb}
use Rattle.numbers.proofs.Laws.Tests.{cond-all}
use Rattle.numbers.specs.declared.Endian.{Endian}
use Rattle.format.specs.AttributeKind as attribute
use Rattle.format.specs.TagKind as tag
use Rattle.format.specs.Limits.{depth_limit}
use Rattle.format.specs.Said.{Said, gives, ◌>>=◌, placed, Never}
use Rattle.format.proofs.Laws.Never.{never-gives, never-refuse, never-must, never-then, never-past, never_placed}
use Rattle.format.specs.declared.settings.Settings.{Settings}
use Rattle.format.specs.declared.refusal.Reason.TheVariants as reason
use Rattle.blocks.specs.Subscript.{Part, dimension, element, next_subscript}
use Rattle.blocks.specs.declared.types.Type.{«Type»}
use Rattle.blocks.specs.declared.types.TypeKind.{TypeKind}
use Rattle.blocks.specs.declared.types.TypeKind.TheVariants as kind
use Rattle.blocks.proofs.Laws.Never.{subscript-never, subscripts-never}
use Rattle.tables.specs.Table.{Table, Rows, table_rows}
use Rattle.tables.specs.Row.{row_at}
use Rattle.tables.proofs.Laws.Never.{tests-never, found-never}
use Rattle.links.specs.Walk.{Walk, ends, endless}
use Rattle.links.specs.Links.{child_walk, non_null}
use Rattle.records.specs.Scan.{attribute_at}
use Rattle.records.specs.Unions.{RowMember}
use Rattle.records.specs.declared.scan.Run.{Run}
use Rattle.records.proofs.Laws.Never.{faults-never, member-then-never, union-at-never, enumeration-at-never, ptr-at-never}
use Rattle.sizes.specs.Size.{fundamental_size, kind_size, type_size_by, times, part_then, product_from, product_of, needed_at, subscripts_at, subscript_fault, array_size}
use Rattle.sizes.specs.Size.{member_child_then, member_rows_from, member_rows_by, members_of, size_or, member_size, with_end, ends_from, size_or_ends, shape_of, shape_size}
use Rattle.sizes.specs.Size.{row_size, entry_size, type_size, size_of_key, size_of_type}
use Rattle.sizes.specs.declared.prepare.Shape.{Shape}
use Rattle.sizes.specs.declared.prepare.Shape.TheVariants as shape

-- ---- types and arrays

kind-size-never : (sizes : List ℕ) (entry : ℕ → Said ℕ) → ((key : ℕ) → Never 14 (entry key)) → (k : TypeKind) → Never 14 (kind_size sizes entry k)
unfolding kind_size fundamental_size
kind-size-never sizes entry h (kind.Fundamental number) = never-past _ _ (never-must _ reason.Number 0) (never-gives _)
kind-size-never sizes entry h (kind.UserDefined key) = h key

type-size-never : (sizes : List ℕ) (entry : ℕ → Said ℕ) → ((key : ℕ) → Never 14 (entry key)) → (t : «Type») → Never 14 (type_size_by sizes entry t)
unfolding type_size_by
type-size-never sizes entry h t = cond-all (Never 14) t.pointer (λ q. never-gives 4) (λ q. kind-size-never sizes entry h t.kind)

part-never : (e : Endian) (key : ℕ) (next : ℕ → ℕ → Said ℕ) → ((used size : ℕ) → Never 14 (next used size)) → (size : ℕ) (part : Part)
    → Never 14 (part_then e key next size part)
unfolding part_then times
part-never e key next h size (dimension index many used) =
    never-then _ _ (never-past _ _ (never-must _ reason.Big key) (never-gives (size * many))) (λ product. h used product)
part-never e key next h size (element t used) = h used size

product-never : (e : Endian) (key turns size : ℕ) (block : List ℕ) → Never 14 (product_from e key turns size block)
unfolding product_from
product-never e key zero size block = never-gives size
product-never e key (suc turns) size block =
    let next : ℕ → ℕ → Said ℕ = λ used product. product_from e key turns product (drop used block) in
    elim (eqb (length block) 0) as (λ b. Never {A = ℕ} 14 (elim b [ true ↦ gives size | false ↦ placed key (next_subscript e block) >>= part_then e key next size ])) [
      | true ↦ never-gives size
      | false ↦ never-then (placed key (next_subscript e block)) (part_then e key next size) (never_placed key _ (subscript-never e block))
          (λ part. part-never e key next (λ used product. product-never e key turns product (drop used block)) size part)
    ]

needed-never : (key : ℕ) (f : Option ℕ) → Never 14 (needed_at key f)
unfolding needed_at
needed-never key (Some k) = never-gives k
needed-never key None = never-refuse reason.Missing key

module _ (s attrs : List ℕ) (run : Run) where
  array-read-never : (k : ℕ) → Never 14 (subscripts_at s attrs run k)
  unfolding subscripts_at
  array-read-never k = never_placed run.key _ (subscripts-never run.ends.section _)

  subscript-fault-never : (j : ℕ) → Never 14 (subscript_fault s attrs run j)
  unfolding subscript_fault
  subscript-fault-never j =
      cond-all (Never 14) (eqb (attribute_at attrs (run.first + j)).number attribute.subscr_data)
      (λ q. never-past _ _ (array-read-never (run.first + j)) (never-gives tt)) (λ q. never-gives tt)

  array-never : (size : «Type» → Said ℕ) → ((t : «Type») → Never 14 (size t)) → Never 14 (array_size s attrs run size)
  unfolding array_size product_of
  array-never size h =
      never-past _ _ (faults-never _ subscript-fault-never 0 run.count)
      (never-then _ _ (needed-never run.key _)
      (λ k. never-then _ _ (array-read-never k) (λ array. never-then _ _ (h array.element) (λ n. product-never _ run.key _ n _))))

-- ---- members and their ends

pub member-size-never : (size : «Type» → Said ℕ) → ((t : «Type») → Never 14 (size t)) → (m : RowMember) → Never 14 (member_size size m)
unfolding member_size size_or
member-size-never size h m = own m.member.byte_size
  where
    own : (w : Option ℕ) → Never 14 (size_or size m.member.of w)
    own (Some n) = never-gives n
    own None = h m.member.of

pub end-never : (key largest end : ℕ) → Never 14 (with_end key largest end)
unfolding with_end
end-never key largest end = never-past _ _ (never-must _ reason.Big key) (never-gives _)

module _ (rows : List ℕ) (size : «Type» → Said ℕ) (h : (t : «Type») → Never 14 (size t)) where
  ends-never : (largest : ℕ) (ms : List RowMember) → Never 14 (ends_from rows size largest ms)
  unfolding ends_from
  ends-never largest [] = never-gives largest
  ends-never largest (m ∷ ms) =
      never-then _ _ (member-size-never size h m) (λ n. never-then _ _ (end-never _ largest _) (λ next. ends-never next ms))

  size-or-ends-never : (ms : List RowMember) (w : Option ℕ) → Never 14 (size_or_ends rows size ms w)
  unfolding size_or_ends
  size-or-ends-never ms (Some n) = never-gives n
  size-or-ends-never ms None = ends-never 0 ms

-- ---- rows

module _ (settings : Settings) (t : Rows) where
  member-rows-never : (cs : List ℕ) → Never 14 (member_rows_from settings t cs)
  unfolding member_rows_from member_child_then
  member-rows-never [] = never-gives []
  member-rows-never (c ∷ cs) =
      cond-all (Never 14) (eqb (row_at t.rows c).kind tag.member)
      (λ q. member-then-never settings t c _ (member-rows-never cs)) (λ q. member-rows-never cs)

  member-rows-by-never : (key : ℕ) (w : Walk) → Never 14 (member_rows_by settings t key w)
  unfolding member_rows_by
  member-rows-by-never key (ends cs) = member-rows-never (non_null t.rows cs)
  member-rows-by-never key endless = never-refuse reason.Link key

  pub members-of-never : (i : ℕ) → Never 14 (members_of settings t i)
  unfolding members_of
  members-of-never i = member-rows-by-never _ (child_walk t i)

  shape-size-never : (size : «Type» → Said ℕ) → ((of : «Type») → Never 14 (size of)) → (i : ℕ) (s : Shape) → Never 14 (shape_size settings t size i s)
  unfolding shape_size
  shape-size-never size h i shape.Array = array-never t.section t.attrs _ size h
  shape-size-never size h i shape.Structure = never-then _ _ (members-of-never i) (λ ms. size-or-ends-never t.rows size h ms _)
  shape-size-never size h i shape.Enumeration = never-then _ _ (enumeration-at-never settings t i) (λ e. never-gives _)
  shape-size-never size h i shape.Union = never-then _ _ (union-at-never settings t i) (λ u. never-gives _)
  shape-size-never size h i shape.PtrToMember = never-past _ _ (ptr-at-never settings t i) (never-gives 4)
  shape-size-never size h i shape.Subroutine = never-gives 0
  shape-size-never size h i shape.Other = never-refuse reason.Kind _

  entry-never : (sizes : List ℕ) (levels key : ℕ) → Never 14 (entry_size settings sizes t levels key)
  unfolding entry_size row_size
  entry-never sizes zero key = never-past _ _ (found-never key _) (never-refuse reason.Depth key)
  entry-never sizes (suc levels) key =
      never-then _ _ (found-never key _) (λ i. shape-size-never _ (type-size-never sizes _ (entry-never sizes levels)) i (shape_of (row_at t.rows i).kind))

  pub type-never : (sizes : List ℕ) (levels : ℕ) (of : «Type») → Never 14 (type_size settings sizes t levels of)
  unfolding type_size
  type-never sizes levels of = type-size-never sizes _ (entry-never sizes levels) of

-- ---- the calls

module _ (t : Table) where
  pub size-of-key-never : (key : ℕ) → Never 14 (size_of_key t key)
  unfolding size_of_key
  size-of-key-never key =
      never-past _ _ (tests-never t) (entry-never t.settings (table_rows t) t.sizes depth_limit key)

  pub size-of-type-never : (of : «Type») → Never 14 (size_of_type t of)
  unfolding size_of_type
  size-of-type-never of =
      never-past _ _ (tests-never t) (type-never t.settings (table_rows t) t.sizes depth_limit of)
