-- Sizes (document 01, 'Types, records, sizes'; the Rust's `Type::size` and `UserDefinedType::size`). The size of a type and of the entry it names
-- call each other: here the entry's size is a function of "the size of a type", and the levels that are left fall from an entry to those it names.
-- The tests in their order: 1, 2, 3; of the entry 11, 10, 12; what its row refuses, all of it read whole; what the sizes that it asks for refuse,
-- and 20. `size_of_key` and `size_of_type`, at the end, are the public calls.
use Rattle.std.specs.Prelude.{ℕ, zero, suc, ◌+◌, ◌*◌, ◌-◌, Bool, true, false, cond, List, [], ◌∷◌, length, get_or, drop}
use Rattle.std.specs.Prelude.{eqb, leb, ltb, Option, Some, None}
use Rattle.tables.specs.Table.{Table, Rows, table_rows}
use Rattle.numbers.specs.declared.Endian.{Endian}
use Rattle.format.specs.Lookup.{Line, ◌means◌, lookup, index_of}
use Rattle.format.specs.FundType.{fund_types}
use Rattle.format.specs.AttributeKind as attribute
use Rattle.format.specs.TagKind as tag
use Rattle.format.specs.Limits.{depth_limit}
use Rattle.format.specs.Said.{Said, gives, refuse, must, ◌>>=◌, ◌>>◌, placed}
use Rattle.format.specs.declared.settings.Settings.{Settings}
use Rattle.format.specs.declared.refusal.Reason.TheVariants as reason
use Rattle.attributes.specs.Parts.{block_at}
use Rattle.blocks.specs.Subscript.{Part, dimension, element, next_subscript}
use Rattle.blocks.specs.Subscripts.{count_subscripts}
use Rattle.blocks.specs.declared.subscripts.Array.{Array}
use Rattle.blocks.specs.declared.types.Type.{«Type»}
use Rattle.blocks.specs.declared.types.TypeKind.{TypeKind}
use Rattle.blocks.specs.declared.types.TypeKind.TheVariants as kind
use Rattle.tables.specs.Row.{row_at}
use Rattle.tables.specs.Find.{row_of_key}
use Rattle.tables.specs.Tests.{test_table}
use Rattle.tables.specs.Keyed.{found_row}
use Rattle.links.specs.Walk.{Walk, ends, endless}
use Rattle.links.specs.Links.{child_walk, non_null}
use Rattle.records.specs.Scan.{run_of, attribute_at, faults_from}
use Rattle.records.specs.Fields.{last_of, word_of}
use Rattle.records.specs.Unions.{RowMember, member_then, union_at}
use Rattle.records.specs.Enumeration.{enumeration_at}
use Rattle.records.specs.PtrToMember.{ptr_at}
use Rattle.records.specs.declared.scan.Run.{Run}
use Rattle.records.specs.declared.fields.Sought.TheVariants as sought
use Rattle.sizes.specs.declared.prepare.Shape.{Shape}
use Rattle.sizes.specs.declared.prepare.Shape.TheVariants as shape

-- a size has 32 bits
abbrev pub size_limit : ℕ
size_limit = 0xFFFFFFFF

-- ---- a type

-- a fundamental type's size is its line of the settings' table; 18 at 0 for a number that has none: no type that was read is one, but a caller may
-- make it
unfoldable pub fundamental_size : List ℕ → ℕ → Said ℕ
fundamental_size sizes number = do
  must (ltb (index_of number fund_types) (length sizes)) reason.Number 0
  gives (get_or sizes (index_of number fund_types) 0)

-- a type without its modifiers; `entry` gives the size of the entry that has a key
unfoldable pub kind_size : List ℕ → (ℕ → Said ℕ) → TypeKind → Said ℕ
kind_size sizes entry (kind.Fundamental number) = fundamental_size sizes number
kind_size sizes entry (kind.UserDefined key) = entry key

-- 4 where a pointer or a reference stands among the modifiers: the entry that it points to is not asked for, nor need it be there
unfoldable pub type_size_by : List ℕ → (ℕ → Said ℕ) → «Type» → Said ℕ
type_size_by sizes entry t = cond t.pointer (gives 4) (kind_size sizes entry t.kind)

-- ---- arrays: each SubscrData is read, the last counts, one is needed

-- a running product: 20 at the array where it passes 32 bits
unfoldable pub times : ℕ → ℕ → ℕ → Said ℕ
times key size many = do
  must (leb (size * many) size_limit) reason.Big key
  gives (size * many)

module _ (e : Endian) (key : ℕ) where
  -- a subscript, `next` going on after so many bytes: a dimension is a factor, an element type is none
  unfoldable pub part_then : (ℕ → ℕ → Said ℕ) → ℕ → Part → Said ℕ
  part_then next size (dimension index many used) = do
    product ← times key size many
    next used product
  part_then next size (element t used) = next used size

  -- the element's size times each dimension, left to right, unbounded counting 0; at most `turns` subscripts
  unfoldable pub product_from : ℕ → ℕ → List ℕ → Said ℕ
  product_from zero size block = gives size
  product_from (suc turns) size block =
      elim (eqb (length block) 0) [
        | true ↦ gives size
        | false ↦ placed key (next_subscript e block) >>= part_then (λ used product. product_from turns product (drop used block)) size
      ]

  -- the whole block: a subscript takes at least a byte, so there are no more of them than bytes
  unfoldable pub product_of : List ℕ → ℕ → Said ℕ
  product_of block size = product_from (length block) size block

-- where an attribute that is needed stands in the table: 15 without
unfoldable pub needed_at : ℕ → Option ℕ → Said ℕ
needed_at key (Some k) = gives k
needed_at key None = refuse reason.Missing key

module _ (s attrs : List ℕ) (run : Run) where
  -- the block that is attribute k of the table: its length in data endianness, what is in it in section endianness
  unfoldable pub subscript_block : ℕ → List ℕ
  subscript_block k = block_at run.ends.«data» 2 s (attribute_at attrs k).value

  -- the array that it says; 17, 18 and 19 are placed at the row
  unfoldable pub subscripts_at : ℕ → Said Array
  subscripts_at k = placed run.key (count_subscripts run.ends.section (subscript_block k))

  -- what is wrong with attribute j of the run, if it is SubscrData; any other, ByteSize too, is passed over
  unfoldable pub subscript_fault : ℕ → Said Unit
  subscript_fault j =
      cond (eqb (attribute_at attrs (run.first + j)).number attribute.subscr_data) (subscripts_at (run.first + j) >> gives tt) (gives tt)

  -- an array's size: each SubscrData is read, in their order, before any size is taken; children are not walked. The element's size is taken before
  -- the product, so what it refuses beats 20
  unfoldable pub array_size : («Type» → Said ℕ) → Said ℕ
  array_size type_size = do
    faults_from subscript_fault 0 run.count
    k ← needed_at run.key (last_of (sought.Number attribute.subscr_data) attrs run)
    array ← subscripts_at k
    size ← type_size array.element
    product_of run.ends.section run.key (subscript_block k) size

-- ---- structures and classes: the Member children are all read whole before any size is taken; other children are passed over

module _ (settings : Settings) (t : Rows) where
  -- child c and those after it: a Member row is read whole, any other is passed over (in a union some are 16)
  unfoldable pub member_child_then : ℕ → Said (List RowMember) → Said (List RowMember)
  member_child_then c rest = cond (eqb (row_at t.rows c).kind tag.member) (member_then settings t c rest) rest

  -- children one after the other: the first Member that is refused counts, where its record places it
  unfoldable pub member_rows_from : List ℕ → Said (List RowMember)
  member_rows_from [] = gives []
  member_rows_from (c ∷ cs) = member_child_then c (member_rows_from cs)

  -- the walk is done before any child is looked at: 9 at the structure where it never ends; null entries are left out
  unfoldable pub member_rows_by : ℕ → Walk → Said (List RowMember)
  member_rows_by key (ends cs) = member_rows_from (non_null t.rows cs)
  member_rows_by key endless = refuse reason.Link key

  -- the members of row i, in walk order
  unfoldable pub members_of : ℕ → Said (List RowMember)
  members_of i = member_rows_by (row_at t.rows i).key (child_walk t i)

-- a ByteSize of its own, else its type's size
unfoldable pub size_or : («Type» → Said ℕ) → «Type» → Option ℕ → Said ℕ
size_or type_size t (Some size) = gives size
size_or type_size t None = type_size t

-- a member's size
unfoldable pub member_size : («Type» → Said ℕ) → RowMember → Said ℕ
member_size type_size m = size_or type_size m.member.of m.member.byte_size

-- the larger of two ends
unfoldable pub larger : ℕ → ℕ → ℕ
larger a b = cond (leb a b) b a

-- a member's end taken for a size, the largest so far with it: 20 at the Member where it passes 32 bits
unfoldable pub with_end : ℕ → ℕ → ℕ → Said ℕ
with_end key largest end = do
  must (leb end size_limit) reason.Big key
  gives (larger largest end)

module _ (rows : List ℕ) (type_size : «Type» → Said ℕ) where
  -- member by member: its size, then its end, before the next one's size is taken; the largest end is the size, 0 without members
  unfoldable pub ends_from : ℕ → List RowMember → Said ℕ
  ends_from largest [] = gives largest
  ends_from largest (m ∷ ms) = do
    size ← member_size type_size m
    next ← with_end (row_at rows m.row).key largest (m.member.offset + size)
    ends_from next ms

  -- ByteSize, or else the largest member end; with a ByteSize no member's size is taken
  unfoldable pub size_or_ends : List RowMember → Option ℕ → Said ℕ
  size_or_ends ms (Some size) = gives size
  size_or_ends ms None = ends_from 0 ms

-- ---- the kinds of rows that have a size

-- how a row of each kind comes to its size; a subroutine type, or a subroutine, is not looked into
unfoldable pub shapes : List (Line Shape)
shapes =
    tag.array_type means shape.Array ∷
    tag.class_type means shape.Structure ∷
    tag.enumeration_type means shape.Enumeration ∷
    tag.global_subroutine means shape.Subroutine ∷
    tag.structure_type means shape.Structure ∷
    tag.subroutine means shape.Subroutine ∷
    tag.subroutine_type means shape.Subroutine ∷
    tag.union_type means shape.Union ∷
    tag.ptr_to_member_type means shape.PtrToMember ∷ []

-- any other kind has no size
unfoldable pub shape_of : ℕ → Shape
unfolding shapes
shape_of kind = lookup shapes shape.Other kind

-- structures and classes have a layout
unfoldable pub is_structure : Shape → Bool
is_structure shape.Structure = true
is_structure shape.Array = false
is_structure shape.Enumeration = false
is_structure shape.Union = false
is_structure shape.PtrToMember = false
is_structure shape.Subroutine = false
is_structure shape.Other = false

module _ (settings : Settings) (t : Rows) where
  -- the size of row i, which is there and not past the limit; 12 at it where its kind has no size. What is read whole may refuse first, whether or
  -- not there is a ByteSize
  unfoldable pub shape_size : («Type» → Said ℕ) → ℕ → Shape → Said ℕ
  shape_size type_size i shape.Array = array_size t.section t.attrs (run_of settings.endian t.rows i) type_size
  shape_size type_size i shape.Structure = do
    ms ← members_of settings t i
    size_or_ends t.rows type_size ms (word_of t.section t.attrs (run_of settings.endian t.rows i) attribute.byte_size)
  shape_size type_size i shape.Enumeration = do
    e ← enumeration_at settings t i
    gives e.byte_size
  shape_size type_size i shape.Union = do
    u ← union_at settings t i
    gives u.byte_size
  shape_size type_size i shape.PtrToMember = ptr_at settings t i >> gives 4
  shape_size type_size i shape.Subroutine = gives 0
  shape_size type_size i shape.Other = refuse reason.Kind (row_at t.rows i).key

  -- the same, by the row's kind
  unfoldable pub row_size : («Type» → Said ℕ) → ℕ → Said ℕ
  row_size type_size i = shape_size type_size i (shape_of (row_at t.rows i).kind)

module _ (settings : Settings) (sizes : List ℕ) (t : Rows) where
  -- the size of the entry that has a key, so many levels being left: where none is, 10 at the row, which must be there (11) and is not read (no 12)
  unfoldable pub entry_size : ℕ → ℕ → Said ℕ
  entry_size zero key = found_row key (row_of_key t.rows t.count key) >> refuse reason.Depth key
  entry_size (suc levels) key = found_row key (row_of_key t.rows t.count key) >>= row_size settings t (type_size_by sizes (entry_size levels))

  -- the size of a type, so many levels being left for the entry that it names
  unfoldable pub type_size : ℕ → «Type» → Said ℕ
  type_size levels of = type_size_by sizes (entry_size levels) of

-- ---- the public calls; the entry asked for is depth 1

-- the size of a key's entry
unfoldable pub size_of_key : Table → ℕ → Said ℕ
size_of_key t key = do
  test_table t
  entry_size t.settings t.sizes (table_rows t) depth_limit key

-- the size of a type: an entry that it names is the one asked for
unfoldable pub size_of_type : Table → «Type» → Said ℕ
size_of_type t of = do
  test_table t
  type_size t.settings t.sizes (table_rows t) depth_limit of

-- the size of a type that the entry asked for names: one level down
abbrev pub inner_size : Table → «Type» → Said ℕ
inner_size t = type_size t.settings t.sizes (table_rows t) (depth_limit - 1)
