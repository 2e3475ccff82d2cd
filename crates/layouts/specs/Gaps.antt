-- Bytes of a structure that no member has: holes before members, padding after them. Members are taken in walk order; what they have reached is the
-- largest end so far, so those that lie on each other leave no hole. Where another child may take bytes, a stretch without members is called neither.
use Rattle.std.specs.Prelude.{Option, Some, None}
use Rattle.std.specs.Prelude.{ℕ, ◌+◌, ◌-◌, Bool, cond, List, [], ◌∷◌, ltb}
use Rattle.format.specs.TagKind as tag
use Rattle.layouts.specs.declared.gaps.Gap.{Gap}
use Rattle.layouts.specs.declared.gaps.Stretch.{Stretch}
use Rattle.layouts.specs.declared.gaps.Stretch.TheVariants as stretch

-- so many bytes from a place on
abbrev pub gap : ℕ → ℕ → Gap
gap at bytes = record { at = at; bytes = bytes }

-- what lies between what was reached and a place: a member's offset for a hole, the structure's size for padding
unfoldable pub gap_between : ℕ → ℕ → Option Gap
gap_between reached place = cond (ltb reached place) (Some (gap reached (place - reached))) None

-- what is reached with a member more: the larger of what was reached and its end
unfoldable pub reach_with : ℕ → ℕ → ℕ → ℕ
reach_with reached offset size = cond (ltb reached (offset + size)) (offset + size) reached

-- the children of a structure that take no bytes of it but those that members tell: members, definitions of types, subroutines, static members. Any
-- other, as a base (Inheritance), may take some
abbrev pub byteless : List ℕ
byteless =
    tag.member ∷ tag.array_type ∷ tag.class_type ∷ tag.enumeration_type ∷ tag.pointer_type ∷ tag.reference_type ∷ tag.structure_type ∷
    tag.subroutine_type ∷ tag.typedef ∷ tag.union_type ∷ tag.ptr_to_member_type ∷ tag.global_subroutine ∷ tag.subroutine ∷ tag.global_variable ∷ []

-- a stretch without members: where other children may take bytes it is only told that there is no member; else it is padding behind the last member
-- and a hole before one
unfoldable pub stretch_of : Bool → Bool → Stretch
stretch_of others last = cond others stretch.Bare (cond last stretch.Padding stretch.Hole)
