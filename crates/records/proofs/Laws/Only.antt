-- No second answer fits: of any two results that meet a public function's contract for the same arguments, and what they leave in lent memory, the one is the
-- other. Written and held against the source by .ci/promises.
use Rattle.lent.specs.OneAnswer.{One, OneAnswer, OneRoom}
use Rattle.format.proofs.Laws.Said.{one_answer, said-back, counted-back}
use Rattle.records.proofs.member as member
use Rattle.records.proofs.unions as unions
use Rattle.records.proofs.enumeration as enumeration
use Rattle.records.proofs.typedef as typedef
use Rattle.records.proofs.variable as variable
use Rattle.records.proofs.label as label
use Rattle.records.proofs.ptr_to_member as ptr_to_member
use Rattle.records.proofs.overlay_branch as overlay_branch
use Rattle.records.proofs.fields as fields

-- `member::process_structure_member_tag`
pub only-process-structure-member-tag : OneAnswer member.process_structure_member_tag.Kinds.ps member.process_structure_member_tag.Kinds.r member.process_structure_member_tag.Reads.Post
only-process-structure-member-tag κs a z z' e e' p q = one_answer said-back p q

-- `unions::process_union_tag`
pub only-process-union-tag : OneAnswer unions.process_union_tag.Kinds.ps unions.process_union_tag.Kinds.r unions.process_union_tag.Reads.Post
only-process-union-tag κs a z z' e e' p q = one_answer counted-back p.answer_is q.answer_is

pub only-process-union-tag-room : OneRoom unions.process_union_tag.Kinds.ps unions.process_union_tag.Kinds.r (λ κs e. e.1.1.0.now) unions.process_union_tag.Reads.Post
only-process-union-tag-room κs a z z' e e' p q = cc

-- `enumeration::process_enumeration_tag`
pub only-process-enumeration-tag : OneAnswer enumeration.process_enumeration_tag.Kinds.ps enumeration.process_enumeration_tag.Kinds.r enumeration.process_enumeration_tag.Reads.Post
only-process-enumeration-tag κs a z z' e e' p q = one_answer counted-back p.answer_is q.answer_is

pub only-process-enumeration-tag-values : OneRoom enumeration.process_enumeration_tag.Kinds.ps enumeration.process_enumeration_tag.Kinds.r (λ κs e. e.1.1.0.now) enumeration.process_enumeration_tag.Reads.Post
only-process-enumeration-tag-values κs a z z' e e' p q = cc

pub only-process-enumeration-tag-names : OneRoom enumeration.process_enumeration_tag.Kinds.ps enumeration.process_enumeration_tag.Kinds.r (λ κs e. e.1.1.1.0.now) enumeration.process_enumeration_tag.Reads.Post
only-process-enumeration-tag-names κs a z z' e e' p q = cc

-- `typedef::process_typedef_tag`
pub only-process-typedef-tag : OneAnswer typedef.process_typedef_tag.Kinds.ps typedef.process_typedef_tag.Kinds.r typedef.process_typedef_tag.Reads.Post
only-process-typedef-tag κs a z z' e e' p q = one_answer said-back p q

-- `variable::process_variable_tag`
pub only-process-variable-tag : OneAnswer variable.process_variable_tag.Kinds.ps variable.process_variable_tag.Kinds.r variable.process_variable_tag.Reads.Post
only-process-variable-tag κs a z z' e e' p q = one_answer said-back p q

-- `label::process_subroutine_label_tag`
pub only-process-subroutine-label-tag : OneAnswer label.process_subroutine_label_tag.Kinds.ps label.process_subroutine_label_tag.Kinds.r label.process_subroutine_label_tag.Reads.Post
only-process-subroutine-label-tag κs a z z' e e' p q = one_answer said-back p q

-- `ptr_to_member::process_ptr_to_member_tag`
pub only-process-ptr-to-member-tag : OneAnswer ptr_to_member.process_ptr_to_member_tag.Kinds.ps ptr_to_member.process_ptr_to_member_tag.Kinds.r ptr_to_member.process_ptr_to_member_tag.Reads.Post
only-process-ptr-to-member-tag κs a z z' e e' p q = one_answer said-back p q

-- `overlay_branch::process_overlay_branch`
pub only-process-overlay-branch : OneAnswer overlay_branch.process_overlay_branch.Kinds.ps overlay_branch.process_overlay_branch.Kinds.r overlay_branch.process_overlay_branch.Reads.Post
only-process-overlay-branch κs a z z' e e' p q = one_answer said-back p q

-- `fields::text_part`
pub only-text-part : One fields.text_part.Kinds.ps fields.text_part.Kinds.r (λ κs z e. z.now) fields.text_part.Reads.Post
only-text-part κs a z z' e e' p q = cc
