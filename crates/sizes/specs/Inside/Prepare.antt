-- How the code comes to a size: first all that needs no other size, then the element's size or the members' ends.
use Rattle.format.specs.declared.refusal.Refusal.{Refusal}
use Rattle.std.specs.Prelude.{ℕ, ◌^◌, ◌<◌, cond, List, [], ◌∷◌, eqb, Result, Ok, Err, Option, Some, None}
use Rattle.format.specs.AttributeKind as attribute
use Rattle.format.specs.TagKind as tag
use Rattle.format.specs.Said.{Said, gives, refuse, refusal, ◌>>=◌, ◌>>◌}
use Rattle.format.specs.declared.settings.Settings.{Settings}
use Rattle.format.specs.declared.refusal.Reason.TheVariants as reason
use Rattle.blocks.specs.declared.types.Type.{«Type»}
use Rattle.tables.specs.Table.{lent_rows}
use Rattle.tables.specs.Row.{row_at}
use Rattle.links.specs.Walk.{Walk, ends, endless}
use Rattle.links.specs.Links.{child_walk, non_null}
use Rattle.records.specs.Scan.{run_of, faults_from}
use Rattle.records.specs.Fields.{last_of, word_of}
use Rattle.records.specs.Member.{member_at}
use Rattle.records.specs.Unions.{union_at}
use Rattle.records.specs.Enumeration.{enumeration_at}
use Rattle.records.specs.PtrToMember.{ptr_at}
use Rattle.records.specs.declared.scan.Run.{Run}
use Rattle.records.specs.declared.fields.Sought.TheVariants as sought
use Rattle.sizes.specs.Size.{shape_of, needed_at, subscript_block, subscripts_at, subscript_fault, product_of, members_of, ends_from}
use Rattle.sizes.specs.declared.prepare.Shape.{Shape}
use Rattle.sizes.specs.declared.prepare.Shape.TheVariants as shape
use Rattle.sizes.specs.declared.prepare.Prepared.{Prepared}
use Rattle.sizes.specs.declared.prepare.Prepared.TheVariants as prepared

-- a place to which a 32-bit number can be added
pub record SmallPlace (j : ℕ) : Type 0 where
  pub small : j < 2 ^ 32

-- a size, or what is still needed for it: that of an array's element, whose subscripts are an attribute of the table; the ends of a structure's members
pub data Ready : Type 0 where
  sized : ℕ → Ready
  element_of : «Type» → ℕ → Ready
  ends_wanted : Ready

-- what an answer says
unfoldable pub said_prepared : Result Prepared Refusal → Said Ready
said_prepared (Ok (prepared.Size size)) = gives (sized size)
said_prepared (Ok (prepared.Element t k)) = gives (element_of t k)
said_prepared (Ok prepared.Ends) = gives ends_wanted
said_prepared (Err why) = refusal why

-- ---- arrays

module _ (s attrs : List ℕ) (run : Run) where
  -- attribute k of the table, whose subscripts count
  unfoldable pub prepared_last : ℕ → Said Ready
  prepared_last k = do
    array ← subscripts_at s attrs run k
    gives (element_of array.element k)

  -- each SubscrData is read, the last counts
  unfoldable pub prepared_array : Said Ready
  prepared_array = do
    faults_from (subscript_fault s attrs run) 0 run.count
    k ← needed_at run.key (last_of (sought.Number attribute.subscr_data) attrs run)
    prepared_last k

-- ---- structures and classes

module _ (settings : Settings) (s rows attrs : List ℕ) (n : ℕ) where
  -- what is wrong with child c, if it is a Member
  unfoldable pub member_fault : ℕ → Said Unit
  member_fault c = cond (eqb (row_at rows c).kind tag.member) (member_at settings (lent_rows settings.endian s rows attrs n) c >> gives tt) (gives tt)

  -- the first fault among children
  unfoldable pub members_fault : List ℕ → Said Unit
  members_fault [] = gives tt
  members_fault (c ∷ cs) = member_fault c >> members_fault cs

  -- 9 where the walk never ends
  unfoldable pub walk_fault : ℕ → Walk → Said Unit
  walk_fault i (ends cs) = members_fault (non_null rows cs)
  walk_fault i endless = refuse reason.Link (row_at rows i).key

  -- what is wrong with the members of row i
  unfoldable pub structure_fault : ℕ → Said Unit
  structure_fault i = walk_fault i (child_walk (lent_rows settings.endian s rows attrs n) i)

  -- a ByteSize, or the ends are needed
  unfoldable pub size_prepared : Option ℕ → Ready
  size_prepared (Some size) = sized size
  size_prepared None = ends_wanted

  -- a structure's row
  unfoldable pub prepared_structure : ℕ → Said Ready
  prepared_structure i = do
    structure_fault i
    gives (size_prepared (word_of s attrs (run_of settings.endian rows i) attribute.byte_size))

  -- ---- the others

  -- an enumeration's row
  unfoldable pub prepared_enumeration : ℕ → Said Ready
  prepared_enumeration i = do
    e ← enumeration_at settings (lent_rows settings.endian s rows attrs n) i
    gives (sized e.byte_size)

  -- a union's
  unfoldable pub prepared_union : ℕ → Said Ready
  prepared_union i = do
    u ← union_at settings (lent_rows settings.endian s rows attrs n) i
    gives (sized u.byte_size)

  -- a pointer to member's
  unfoldable pub prepared_pointer : ℕ → Said Ready
  prepared_pointer i = ptr_at settings (lent_rows settings.endian s rows attrs n) i >> gives (sized 4)

  -- by the row's shape
  unfoldable pub prepared_shape : ℕ → Shape → Said Ready
  prepared_shape i shape.Array = prepared_array s attrs (run_of settings.endian rows i)
  prepared_shape i shape.Structure = prepared_structure i
  prepared_shape i shape.Enumeration = prepared_enumeration i
  prepared_shape i shape.Union = prepared_union i
  prepared_shape i shape.PtrToMember = prepared_pointer i
  prepared_shape i shape.Subroutine = gives (sized 0)
  prepared_shape i shape.Other = refuse reason.Kind (row_at rows i).key

  -- by its kind
  unfoldable pub prepared_row : ℕ → Said Ready
  prepared_row i = prepared_shape i (shape_of (row_at rows i).kind)

  -- what was prepared, with the sizes of types: this is `row_size` (law `prepared-size`)
  unfoldable pub finished : («Type» → Said ℕ) → ℕ → Ready → Said ℕ
  finished type_size i (sized size) = gives size
  finished type_size i (element_of t k) = do
    size ← type_size t
    product_of (run_of settings.endian rows i).ends.section (row_at rows i).key (subscript_block s attrs (run_of settings.endian rows i) k) size
  finished type_size i ends_wanted = do
    ms ← members_of settings (lent_rows settings.endian s rows attrs n) i
    ends_from rows type_size 0 ms
