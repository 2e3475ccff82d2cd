-- Document 02, K8: no section, table and settings lead to refusal 14. The calls that could give it are those that read records, for themselves or for
-- a size or a layout.
use Rattle.std.specs.Prelude.{ℕ, ◌+◌, ◌*◌, ◌<◌, ◌≡◌, List, get_or, ℤ}
use Rattle.format.specs.Said.{gives, Never}
use Rattle.blocks.specs.declared.types.Type.{«Type»}
use Rattle.tables.specs.Table.{Table}
use Rattle.records.specs.Member.{process_structure_member_tag}
use Rattle.records.specs.Unions.{process_union_tag}
use Rattle.records.specs.Enumeration.{process_enumeration_tag}
use Rattle.records.specs.Typedef.{process_typedef_tag}
use Rattle.records.specs.Variable.{process_variable_tag}
use Rattle.records.specs.Label.{process_subroutine_label_tag}
use Rattle.records.specs.PtrToMember.{process_ptr_to_member_tag}
use Rattle.records.specs.OverlayBranch.{process_overlay_branch}
use Rattle.sizes.specs.Size.{size_of_key, size_of_type}
use Rattle.layout.specs.Layout.{layout_of_key}
use Rattle.layout.specs.All.{structure_width, all_layouts}
use Rattle.layout.specs.declared.all.LayoutCounts.{LayoutCounts}

-- of any table, with any section and settings, whatever key is asked for and whatever rooms are lent
pub record NoFourteen (t : Table) : Type 0 where
  pub members : (key : ℕ) → Never 14 (process_structure_member_tag t key)
  pub unions : (key : ℕ) (room : List ℕ) → Never 14 (process_union_tag t key room).answer
  pub enumerations : (key : ℕ) (values : List ℤ) (names : List ℕ) → Never 14 (process_enumeration_tag t key values names).answer
  pub typedefs : (key : ℕ) → Never 14 (process_typedef_tag t key)
  pub variables : (key : ℕ) → Never 14 (process_variable_tag t key)
  pub labels : (key : ℕ) → Never 14 (process_subroutine_label_tag t key)
  pub pointers : (key : ℕ) → Never 14 (process_ptr_to_member_tag t key)
  pub branches : (key : ℕ) → Never 14 (process_overlay_branch t key)
  pub sizes : (key : ℕ) → Never 14 (size_of_key t key)
  pub types : (of : «Type») → Never 14 (size_of_type t of)
  pub layouts : (key : ℕ) (room : List ℕ) → Never 14 (layout_of_key t key room).answer
  pub all : (structures room : List ℕ) → Never 14 (all_layouts t structures room).answer
  -- nor does all layouts' room say it of a structure: the second of its words is another number
  pub words : (structures room : List ℕ) (many : LayoutCounts) → (all_layouts t structures room).answer ≡ gives many → (k : ℕ) → k < many.structures
      → get_or (all_layouts t structures room).first (k * structure_width + 1) 0 ≡ 14 → ⊥
