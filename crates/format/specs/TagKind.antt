-- The 33 tags of the Rust's `TagKind`: those of the standard, and one of Metrowerks' own.
use Rattle.std.specs.Prelude.{ℕ, List, [], ◌∷◌}

abbrev pub padding : ℕ
padding = 0x0000

abbrev pub array_type : ℕ
array_type = 0x0001

abbrev pub class_type : ℕ
class_type = 0x0002

abbrev pub entry_point : ℕ
entry_point = 0x0003

abbrev pub enumeration_type : ℕ
enumeration_type = 0x0004

abbrev pub formal_parameter : ℕ
formal_parameter = 0x0005

abbrev pub global_subroutine : ℕ
global_subroutine = 0x0006

abbrev pub global_variable : ℕ
global_variable = 0x0007

abbrev pub label : ℕ
label = 0x000a

abbrev pub lexical_block : ℕ
lexical_block = 0x000b

abbrev pub local_variable : ℕ
local_variable = 0x000c

abbrev pub member : ℕ
member = 0x000d

abbrev pub pointer_type : ℕ
pointer_type = 0x000f

abbrev pub reference_type : ℕ
reference_type = 0x0010

abbrev pub compile_unit : ℕ
compile_unit = 0x0011

abbrev pub string_type : ℕ
string_type = 0x0012

abbrev pub structure_type : ℕ
structure_type = 0x0013

abbrev pub subroutine : ℕ
subroutine = 0x0014

abbrev pub subroutine_type : ℕ
subroutine_type = 0x0015

abbrev pub typedef : ℕ
typedef = 0x0016

abbrev pub union_type : ℕ
union_type = 0x0017

abbrev pub unspecified_parameters : ℕ
unspecified_parameters = 0x0018

abbrev pub variant : ℕ
variant = 0x0019

abbrev pub common_block : ℕ
common_block = 0x001a

abbrev pub common_inclusion : ℕ
common_inclusion = 0x001b

abbrev pub inheritance : ℕ
inheritance = 0x001c

abbrev pub inlined_subroutine : ℕ
inlined_subroutine = 0x001d

abbrev pub module_tag : ℕ
module_tag = 0x001e

abbrev pub ptr_to_member_type : ℕ
ptr_to_member_type = 0x001f

abbrev pub set_type : ℕ
set_type = 0x0020

abbrev pub subrange_type : ℕ
subrange_type = 0x0021

abbrev pub with_stmt : ℕ
with_stmt = 0x0022

abbrev pub mw_overlay_branch : ℕ
mw_overlay_branch = 0x4080

-- every tag
unfoldable pub tags : List ℕ
tags =
    padding ∷ array_type ∷ class_type ∷ entry_point ∷ enumeration_type ∷ formal_parameter ∷ global_subroutine ∷ global_variable ∷
    label ∷ lexical_block ∷ local_variable ∷ member ∷ pointer_type ∷ reference_type ∷ compile_unit ∷ string_type ∷
    structure_type ∷ subroutine ∷ subroutine_type ∷ typedef ∷ union_type ∷ unspecified_parameters ∷ variant ∷ common_block ∷
    common_inclusion ∷ inheritance ∷ inlined_subroutine ∷ module_tag ∷ ptr_to_member_type ∷ set_type ∷ subrange_type ∷ with_stmt ∷
    mw_overlay_branch ∷ []
