-- No record is refused by 14, on any section, table and settings.
use Rattle.std.specs.Prelude.{Option, Some, None}
use Prim.Native.Nat.{ℕ, zero, suc, ◌+◌}
use mathlib.Core.Bool.{Bool, true, false}
use mathlib.Core.List.{List, [], ◌∷◌}
use lib.ListN.{length}
use lib.Dec.{eqb, ltb}
use lib.IntN.{ℤ}
use Rattle.numbers.proofs.Laws.Tests.{cond-all}
use Rattle.numbers.proofs.Laws.Value.{read_all}
use Rattle.numbers.specs.declared.Endian.{Endian}
use Rattle.format.specs.AttributeKind as attribute
use Rattle.format.specs.TagKind as tag
use Rattle.format.specs.Limits.{specification_limit}
use Rattle.format.specs.Said.{Said, gives, refuse, ◌>>=◌, ◌>>◌, placed, Never}
use Rattle.format.proofs.Laws.Never.{never-gives, never-refuse, never-must, never-then, never-past, never_placed, never-room, never-rooms, never-fills, never-fills-both}
use Rattle.format.specs.declared.settings.Settings.{Settings}
use Rattle.format.specs.declared.refusal.Reason.TheVariants as reason
use Rattle.blocks.specs.Types.{process_type}
use Rattle.blocks.specs.declared.types.Type.{«Type»}
use Rattle.blocks.proofs.Laws.Never.{shape-never, type-never}
use Rattle.tables.specs.Table.{Table, Rows, table_rows}
use Rattle.tables.specs.Row.{row_at}
use Rattle.tables.proofs.Laws.Never.{found-never, row-never}
use Rattle.links.specs.Walk.{Walk, ends, endless}
use Rattle.links.specs.Links.{child_walk, non_null}
use Rattle.records.specs.Taken.{special}
use Rattle.records.specs.Scan.{attribute_at, is_type, location_of, fault_of, content_fault, attribute_fault, faults_from, fault_at, number_at}
use Rattle.records.specs.Fields.{needed, type_by, type_of, offset_field}
use Rattle.records.specs.Front.{kind_fault, childless_fault, head_of, front_of}
use Rattle.records.specs.Member.{bits_by, member_fields, member_at, process_structure_member_tag}
use Rattle.records.specs.Unions.{RowMember, ignored, member_then, child_then, members_from, members_by, row_members, union_sized, union_at, union_into, process_union_tag}
use Rattle.records.specs.Elements.{Listed, element_then, element_at, elements_from, elements_in}
use Rattle.records.specs.Enumeration.{list_at, lists_from, enumeration_sized, row_lists, enumeration_at, enumeration_into, process_enumeration_tag}
use Rattle.records.specs.Typedef.{Held, nothing, holds, SoFar, filled_in, overwritten, type_filled, type_needed, nothing_yet, specified_by, specified, typedef_fields, typedef_end, attributes_from, typedef_run, typedef_at, process_typedef_tag}
use Rattle.records.specs.Variable.{variable_fields, variable_at, process_variable_tag}
use Rattle.records.specs.Label.{label_fields, label_at, process_subroutine_label_tag}
use Rattle.records.specs.PtrToMember.{ptr_fields, ptr_at, process_ptr_to_member_tag}
use Rattle.records.specs.OverlayBranch.{overlay_fields, overlay_at, process_overlay_branch}
use Rattle.records.specs.declared.taken.Record.{Record}
use Rattle.records.specs.declared.taken.Record.TheVariants as record'
use Rattle.records.specs.declared.scan.Run.{Run}
use Rattle.records.specs.declared.scan.Attribute.{Attribute}
use Rattle.records.specs.declared.elements.Element.{Element}
use Rattle.records.specs.declared.elements.Element.TheVariants as element
use Rattle.records.specs.declared.typedef.Typedef.{Typedef}

-- ---- what an attribute says

fault-never : {A : Type 0} (key : ℕ) (d : Said A) → Never 14 d → Never 14 (fault_of key d)
unfolding fault_of
fault-never key d h = never-past _ _ (never_placed key d h) (never-gives tt)

location-never : (r : Record) (e : Endian) (block : List ℕ) → Never 14 (location_of r e block)
unfolding location_of
location-never record'.Member e block = shape-never _ e block
location-never record'.Union e block = shape-never _ e block
location-never record'.Enumeration e block = shape-never _ e block
location-never record'.Typedef e block = shape-never _ e block
location-never record'.Variable e block = shape-never _ e block
location-never record'.Label e block = shape-never _ e block
location-never record'.PtrToMember e block = shape-never _ e block
location-never record'.OverlayBranch e block = shape-never _ e block

content-never : (r : Record) (run : Run) (s : List ℕ) (a : Attribute) → Never 14 (content_fault r run s a)
unfolding content_fault
content-never r run s a =
    cond-all (Never 14) (is_type a.number) (λ t. fault-never run.key _ (type-never run.ends s a.number a.value))
    (λ t. cond-all (Never 14) (eqb a.number attribute.location) (λ t. fault-never run.key _ (location-never r run.ends.section _)) (λ t. never-gives tt))

pub faults-never : (fault : ℕ → Said Unit) → ((j : ℕ) → Never 14 (fault j)) → (j n : ℕ) → Never 14 (faults_from fault j n)
unfolding faults_from
faults-never fault h j zero = never-gives tt
faults-never fault h j (suc n) = never-past _ _ (h j) (faults-never fault h (suc j) n)

-- ---- what is needed

-- a type that a typedef has so far
abbrev HeldNever : Held → Type 0
HeldNever (holds d) = Never 14 d
HeldNever nothing = Unit

module _ (key : ℕ) where
  needed-never : {A : Type 0} (found : Option A) → Never 14 (needed key found)
  unfolding needed
  needed-never (Some x) = never-gives x
  needed-never None = never-refuse reason.Missing key

  held-never : (h : Held) → HeldNever h → Never 14 (type_needed key h)
  unfolding type_needed
  held-never (holds d) h = h
  held-never nothing h = never-refuse reason.Missing key

  bits-never : (size offset : Option ℕ) → Never 14 (bits_by key size offset)
  unfolding bits_by
  bits-never (Some size) (Some offset) = never-gives _
  bits-never (Some size) None = never-refuse reason.Missing key
  bits-never None (Some offset) = never-refuse reason.Missing key
  bits-never None None = never-gives _

module _ (s attrs : List ℕ) (run : Run) where
  said-type-never : (a : Attribute) → Never 14 (placed run.key (process_type run.ends s a.number a.value))
  said-type-never a = never_placed run.key _ (type-never run.ends s a.number a.value)

  type-of-never : Never 14 (type_of s attrs run)
  unfolding type_of type_by
  type-of-never = never-then _ _ (needed-never run.key _) (λ k. said-type-never (attribute_at attrs k))

  offset-never : Never 14 (offset_field s attrs run)
  unfolding offset_field
  offset-never = never-then _ _ (needed-never run.key _) (λ a. never_placed run.key _ (shape-never _ run.ends.section _))

-- ---- before the fields

kind-never : (settings : Settings) (rows : List ℕ) (r : Record) (i : ℕ) → Never 14 (kind_fault settings rows r i)
unfolding kind_fault
kind-never settings rows r i = never-must _ reason.Kind _

childless-never : (rows : List ℕ) (i : ℕ) (w : Walk) → Never 14 (childless_fault rows i w)
unfolding childless_fault
childless-never rows i (ends cs) = never-must _ reason.Child _
childless-never rows i endless = never-refuse reason.Link _

-- ---- an enumeration's list

element-never : (base : ℕ) (next : ℕ → Said (List Listed)) → ((k : ℕ) → Never 14 (next k)) → (e : Option Element) → Never 14 (element_then base next e)
unfolding element_then
element-never base next h (Some (element.Is value place long next')) = never-then _ _ (h next') (λ xs. never-gives _)
element-never base next h (Some (element.Name next')) = h next'
element-never base next h None = never-refuse reason.Block 0

elements-never : (width : ℕ) (e : Endian) (base : ℕ) (block : List ℕ) (turns at : ℕ) → Never 14 (elements_from width e base block turns at)
unfolding elements_from
elements-never width e base block zero at = never-gives []
elements-never width e base block (suc turns) at =
    let next : ℕ → Said (List Listed) = λ k. elements_from width e base block turns k in
    elim (ltb at (length block)) as (λ b. Never {A = List Listed} 14 (elim b [ true ↦ element_then base next (element_at width e block at) | false ↦ gives [] ])) [
      | true ↦ element-never base next (elements-never width e base block turns) (element_at width e block at)
      | false ↦ never-gives []
    ]

list-never : (s attrs : List ℕ) (run : Run) (j : ℕ) → Never 14 (list_at s attrs run j)
unfolding list_at elements_in
list-never s attrs run j = never_placed run.key _ (elements-never _ run.ends.section _ _ _ 0)

-- ---- attributes in their order

module _ (settings : Settings) where
  attribute-fault-never : (r : Record) (run : Run) (s : List ℕ) (a : Attribute) → Never 14 (attribute_fault settings.roles r run s a)
  unfolding attribute_fault
  attribute-fault-never r run s a = never-past _ _ (never-must _ reason.Extra run.key) (content-never r run s a)

  at-never : (r : Record) (run : Run) (s attrs : List ℕ) (j : ℕ) → Never 14 (fault_at settings.roles r run s attrs j)
  unfolding fault_at
  at-never r run s attrs j = attribute-fault-never r run s (attribute_at attrs (run.first + j))

  module _ (t : Rows) where
    head_never : (r : Record) (i : ℕ) → Never 14 (head_of settings t.section t.rows t.attrs r i)
    unfolding head_of
    head_never r i = never-past _ _ (kind-never settings t.rows r i) (faults-never _ (at-never r _ t.section t.attrs) 0 _)

    front-never : (r : Record) (i : ℕ) → Never 14 (front_of settings t r i)
    unfolding front_of
    front-never r i = never-past _ _ (head_never r i) (childless-never t.rows i (child_walk t i))

    -- ---- records that read no attribute themselves

    pub member-at-never : (i : ℕ) → Never 14 (member_at settings t i)
    unfolding member_at member_fields
    member-at-never i =
        never-past _ _ (front-never record'.Member i)
        (never-then _ _ (type-of-never t.section t.attrs _)
        (λ of. never-then _ _ (offset-never t.section t.attrs _) (λ offset. never-then _ _ (bits-never _ _ _) (λ b. never-gives _))))

    variable-at-never : (i : ℕ) → Never 14 (variable_at settings t i)
    unfolding variable_at variable_fields
    variable-at-never i =
        never-past _ _ (front-never record'.Variable i) (never-then _ _ (type-of-never t.section t.attrs _) (λ of. never-gives _))

    label-at-never : (i : ℕ) → Never 14 (label_at settings t i)
    unfolding label_at label_fields
    label-at-never i =
        never-past _ _ (front-never record'.Label i)
        (never-then _ _ (needed-never _ _) (λ text. never-then _ _ (needed-never _ _) (λ address. never-gives _)))

    pub ptr-at-never : (i : ℕ) → Never 14 (ptr_at settings t i)
    unfolding ptr_at ptr_fields
    ptr-at-never i =
        never-past _ _ (front-never record'.PtrToMember i)
        (never-then _ _ (type-of-never t.section t.attrs _) (λ of. never-then _ _ (needed-never _ _) (λ containing. never-gives _)))

    overlay-at-never : (i : ℕ) → Never 14 (overlay_at settings t.section t.rows t.attrs i)
    unfolding overlay_at overlay_fields
    overlay-at-never i =
        never-past _ _ (head_never record'.OverlayBranch i)
        (never-then _ _ (needed-never _ _)
        (λ text. never-then _ _ (needed-never _ _)
        (λ id. never-then _ _ (needed-never _ _) (λ start. never-then _ _ (needed-never _ _) (λ end. never-gives _)))))

    -- ---- unions

    pub member-then-never : (c : ℕ) (rest : Said (List RowMember)) → Never 14 rest → Never 14 (member_then settings t c rest)
    unfolding member_then
    member-then-never c rest h = never-then _ _ (member-at-never c) (λ m. never-then _ _ h (λ ms. never-gives _))

    members-never : (key : ℕ) (cs : List ℕ) → Never 14 (members_from settings t key cs)
    unfolding members_from child_then
    members-never key [] = never-gives []
    members-never key (c ∷ cs) =
        cond-all (Never 14) (eqb (row_at t.rows c).kind tag.member) (λ q. member-then-never c _ (members-never key cs))
        (λ q. cond-all (Never 14) (ignored (row_at t.rows c).kind) (λ q. members-never key cs) (λ q. never-refuse reason.Child key))

    members-by-never : (key : ℕ) (w : Walk) → Never 14 (members_by settings t key w)
    unfolding members_by
    members-by-never key (ends cs) = members-never key (non_null t.rows cs)
    members-by-never key endless = never-refuse reason.Link key

    row-members-never : (i : ℕ) → Never 14 (row_members settings t i)
    unfolding row_members
    row-members-never i = members-by-never _ (child_walk t i)

    pub union-at-never : (i : ℕ) → Never 14 (union_at settings t i)
    unfolding union_at union_sized
    union-at-never i =
        never-past _ _ (head_never record'.Union i)
        (never-then _ _ (row-members-never i) (λ ms. never-then _ _ (needed-never _ _) (λ size. never-gives _)))

    -- ---- enumerations

    own-list-never : (run : Run) (j : ℕ) (own : Bool) → Never {A = List Listed} 14 (elim own [ true ↦ list_at t.section t.attrs run j | false ↦ gives [] ])
    own-list-never run j true = list-never t.section t.attrs run j
    own-list-never run j false = never-gives []

    lists-never : (run : Run) (j m : ℕ) → Never 14 (lists_from settings t.section t.attrs run j m)
    unfolding lists_from
    lists-never run j zero = never-gives []
    lists-never run j (suc m) =
        never-past _ _ (at-never record'.Enumeration run t.section t.attrs j)
        (never-then _ _ (own-list-never run j (special record'.Enumeration (number_at settings.roles record'.Enumeration run t.section t.attrs j)))
        (λ xs. never-then _ _ (lists-never run (suc j) m) (λ ys. never-gives _)))

    row-lists-never : (i : ℕ) → Never 14 (row_lists settings t i)
    unfolding row_lists
    row-lists-never i = lists-never _ 0 _

    pub enumeration-at-never : (i : ℕ) → Never 14 (enumeration_at settings t i)
    unfolding enumeration_at enumeration_sized
    enumeration-at-never i =
        never-past _ _ (kind-never settings t.rows record'.Enumeration i)
        (never-then _ _ (row-lists-never i)
        (λ xs. never-past _ _ (childless-never t.rows i (child_walk t i)) (never-then _ _ (needed-never _ _) (λ size. never-gives _))))

    -- ---- typedefs

    specified-never : (run : Run) (levels j : ℕ) → Never 14 (specified settings t run levels j)
    unfolding specified specified_by
    specified-never run levels j =
        never-past _ _ (at-never record'.Typedef run t.section t.attrs j)
        (read_all (specified_by settings t.rows t.count levels) (refuse reason.Block run.key) run.ends.section 4 t.section
        (attribute_at t.attrs (run.first + j)).value (Never 14)
        (λ q. never-then _ _ (found-never _ _)
        (λ r. never-past _ _ (never-must _ reason.Depth _)
        (never-past _ _ (kind-never settings t.rows record'.Typedef r) (never-gives r))))
        (λ q. never-refuse reason.Block run.key))

    typedef-end-never : (i : ℕ) (known : SoFar) → HeldNever known.of → Never 14 (typedef_end settings t i known)
    unfolding typedef_end typedef_fields
    typedef-end-never i known h =
        never-past _ _ (childless-never t.rows i (child_walk t i))
        (never-then _ _ (needed-never _ known.name) (λ text. never-then _ _ (held-never _ known.of h) (λ of. never-gives _)))

    filled-never : (known : SoFar) (typedef : Typedef) → HeldNever known.of → HeldNever (filled_in known typedef).of
    unfolding filled_in type_filled
    filled-never known typedef h = filled known.of typedef.of h
      where
        filled : (held : Held) (other : «Type») → HeldNever held → HeldNever (type_filled held other)
        filled (holds d) other h = h
        filled nothing other h = never-gives other

    overwritten-never : (run : Run) (a : Attribute) (known : SoFar) → HeldNever known.of → HeldNever (overwritten t.section run a known).of
    unfolding overwritten
    overwritten-never run a known h = cond-all HeldNever (is_type a.number) (λ q. said-type-never t.section t.attrs run a) (λ q. h)

    attributes-never : (below : ℕ → Said Typedef) → ((r : ℕ) → Never 14 (below r)) → (levels i : ℕ) (run : Run) (j m : ℕ) (known : SoFar)
        → HeldNever known.of → Never 14 (attributes_from settings t below levels i run j m known)
    unfolding attributes_from
    attributes-never below h levels i run j zero known k = typedef-end-never i known k
    attributes-never below h levels i run j (suc m) known k =
        let named : Typedef → Said Typedef = λ typedef. attributes_from settings t below levels i run (suc j) m (filled_in known typedef) in
        let next : SoFar = overwritten t.section run (attribute_at t.attrs (run.first + j)) known in
        elim (special record'.Typedef (number_at settings.roles record'.Typedef run t.section t.attrs j))
        as (λ b. Never {A = Typedef} 14 (elim b [
          | true ↦ specified settings t run levels j >>= λ r. below r >>= named
          | false ↦ fault_at settings.roles record'.Typedef run t.section t.attrs j >> attributes_from settings t below levels i run (suc j) m next
        ])) [
          | true ↦ never-then _ _ (specified-never run levels j)
              (λ r. never-then _ named (h r) (λ typedef. attributes-never below h levels i run (suc j) m _ (filled-never known typedef k)))
          | false ↦ never-past _ _ (at-never record'.Typedef run t.section t.attrs j)
              (attributes-never below h levels i run (suc j) m next (overwritten-never run _ known k))
        ]

    typedef-run-never : (levels i : ℕ) → Never 14 (typedef_run settings t levels i)
    unfolding typedef_run nothing_yet
    typedef-run-never zero i = attributes-never _ (λ r. never-refuse reason.Depth _) zero i _ 0 _ nothing_yet tt
    typedef-run-never (suc levels) i = attributes-never _ (typedef-run-never levels) (suc levels) i _ 0 _ nothing_yet tt

    typedef-at-never : (i : ℕ) → Never 14 (typedef_at settings t i)
    unfolding typedef_at
    typedef-at-never i = never-past _ _ (kind-never settings t.rows record'.Typedef i) (typedef-run-never specification_limit i)

-- ---- the calls

module _ (t : Table) (key : ℕ) where
  pub member-never : Never 14 (process_structure_member_tag t key)
  unfolding process_structure_member_tag
  member-never = never-then _ _ (row-never t key) (member-at-never t.settings (table_rows t))

  pub union-never : (room : List ℕ) → Never 14 (process_union_tag t key room).answer
  unfolding process_union_tag union_into
  union-never room =
      never-room room _ _ (row-never t key)
      (λ i. never-room room _ _ (union-at-never t.settings (table_rows t) i)
      (λ u. never-room room _ _ (row-members-never t.settings (table_rows t) i) (λ ms. never-fills _ _ _ _ room)))

  pub enumeration-never : (values : List ℤ) (names : List ℕ) → Never 14 (process_enumeration_tag t key values names).answer
  unfolding process_enumeration_tag enumeration_into
  enumeration-never values names =
      never-rooms values names _ _ (row-never t key)
      (λ i. never-rooms values names _ _ (enumeration-at-never t.settings (table_rows t) i)
      (λ e. never-rooms values names _ _ (row-lists-never t.settings (table_rows t) i)
      (λ xs. never-fills-both _ _ _ _ _ values names)))

  pub typedef-never : Never 14 (process_typedef_tag t key)
  unfolding process_typedef_tag
  typedef-never = never-then _ _ (row-never t key) (typedef-at-never t.settings (table_rows t))

  pub variable-never : Never 14 (process_variable_tag t key)
  unfolding process_variable_tag
  variable-never = never-then _ _ (row-never t key) (variable-at-never t.settings (table_rows t))

  pub label-never : Never 14 (process_subroutine_label_tag t key)
  unfolding process_subroutine_label_tag
  label-never = never-then _ _ (row-never t key) (label-at-never t.settings (table_rows t))

  pub ptr-to-member-never : Never 14 (process_ptr_to_member_tag t key)
  unfolding process_ptr_to_member_tag
  ptr-to-member-never = never-then _ _ (row-never t key) (ptr-at-never t.settings (table_rows t))

  pub overlay-branch-never : Never 14 (process_overlay_branch t key)
  unfolding process_overlay_branch
  overlay-branch-never = never-then _ _ (row-never t key) (overlay-at-never t.settings (table_rows t))
