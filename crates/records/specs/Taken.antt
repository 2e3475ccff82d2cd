-- The records, and which attributes each takes (13 for any other): to hold against the Rust's functions, whose names stand above the lists.
use Rattle.std.specs.Prelude.{ℕ, Bool, false, ◌||◌, List, [], ◌∷◌, eqb}
use Rattle.format.specs.Settings.{plays}
use Rattle.format.specs.Lookup.{is_on}
use Rattle.format.specs.AttributeKind.{sibling, name, fund_type, mod_fund_type, user_def_type, mod_ud_type, location, byte_size, bit_size, bit_offset}
use Rattle.format.specs.AttributeKind.{element_list, low_pc, high_pc, containing_type, private, protected, public, specification}
use Rattle.format.specs.AttributeKind as attribute
use Rattle.format.specs.declared.settings.Roles.{Roles}
use Rattle.records.specs.declared.taken.Record.{Record}
use Rattle.records.specs.declared.taken.Record.TheVariants.{Member, Union, Enumeration, Typedef, Variable, Label, PtrToMember, OverlayBranch}

-- the four type attributes, and others
abbrev types_and : List ℕ → List ℕ
types_and rest = fund_type ∷ mod_fund_type ∷ user_def_type ∷ mod_ud_type ∷ rest

-- the numbers of document 01 that each takes
unfoldable pub taken_by : Record → List ℕ
-- `process_structure_member_tag`
taken_by Member = sibling ∷ name ∷ types_and (location ∷ byte_size ∷ bit_size ∷ bit_offset ∷ private ∷ protected ∷ public ∷ attribute.member ∷ [])
-- `process_union_tag`
taken_by Union = sibling ∷ name ∷ byte_size ∷ attribute.member ∷ []
-- `process_enumeration_tag`
taken_by Enumeration = sibling ∷ name ∷ byte_size ∷ element_list ∷ attribute.member ∷ []
-- `process_typedef_tag`
taken_by Typedef = sibling ∷ name ∷ types_and (attribute.member ∷ specification ∷ [])
-- `process_variable_tag`
taken_by Variable = sibling ∷ name ∷ types_and (location ∷ attribute.member ∷ [])
-- `process_subroutine_label_tag`
taken_by Label = sibling ∷ name ∷ low_pc ∷ []
-- `process_ptr_to_member_tag`
taken_by PtrToMember = sibling ∷ types_and (containing_type ∷ [])
-- `process_overlay_branch`
taken_by OverlayBranch = sibling ∷ attribute.member ∷ low_pc ∷ high_pc ∷ name ∷ []

-- the vendor attributes that a record takes
unfoldable pub role_taken : Roles → Record → ℕ → Bool
role_taken roles Member number = false
role_taken roles Union number = false
role_taken roles Enumeration number = false
role_taken roles Typedef number = false
role_taken roles Variable number = plays roles.mangled number
role_taken roles Label number = false
role_taken roles PtrToMember number = false
role_taken roles OverlayBranch number = plays roles.overlay_name number || plays roles.overlay_id number

-- the record takes an attribute of this number
unfoldable pub takes : Roles → Record → ℕ → Bool
takes roles r number = is_on number (taken_by r) || role_taken roles r number

-- an attribute that the record reads itself: an enumeration's list, a typedef's specification
unfoldable pub special : Record → ℕ → Bool
special Member number = false
special Union number = false
special Enumeration number = eqb number element_list
special Typedef number = eqb number specification
special Variable number = false
special Label number = false
special PtrToMember number = false
special OverlayBranch number = false
