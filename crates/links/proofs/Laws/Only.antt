-- No second answer fits: of any two results that meet a public function's contract for the same arguments, and what they leave in lent memory, the one is the
-- other. Written and held against the source by .ci/promises.
use Rattle.lent.specs.OneAnswer.{One, OneAnswer, OneRoom}
use Rattle.format.proofs.Laws.Said.{one_answer, said-back, counted-back}
use Rattle.links.proofs.typed as typed
use Rattle.links.proofs.neighbour as neighbour
use Rattle.links.proofs.children as children

-- `typed::attribute`
pub only-attribute : OneAnswer typed.attribute.Kinds.ps typed.attribute.Kinds.r typed.attribute.Reads.Post
only-attribute κs a z z' e e' p q = one_answer said-back p q

-- `typed::type_attribute`
pub only-type-attribute : OneAnswer typed.type_attribute.Kinds.ps typed.type_attribute.Kinds.r typed.type_attribute.Reads.Post
only-type-attribute κs a z z' e e' p q = one_answer said-back p q

-- `typed::address_attribute`
pub only-address-attribute : OneAnswer typed.address_attribute.Kinds.ps typed.address_attribute.Kinds.r typed.address_attribute.Reads.Post
only-address-attribute κs a z z' e e' p q = one_answer said-back p q

-- `typed::reference_attribute`
pub only-reference-attribute : OneAnswer typed.reference_attribute.Kinds.ps typed.reference_attribute.Kinds.r typed.reference_attribute.Reads.Post
only-reference-attribute κs a z z' e e' p q = one_answer said-back p q

-- `typed::data2_attribute`
pub only-data2-attribute : OneAnswer typed.data2_attribute.Kinds.ps typed.data2_attribute.Kinds.r typed.data2_attribute.Reads.Post
only-data2-attribute κs a z z' e e' p q = one_answer said-back p q

-- `typed::data4_attribute`
pub only-data4-attribute : OneAnswer typed.data4_attribute.Kinds.ps typed.data4_attribute.Kinds.r typed.data4_attribute.Reads.Post
only-data4-attribute κs a z z' e e' p q = one_answer said-back p q

-- `typed::string_place`
pub only-string-place : OneAnswer typed.string_place.Kinds.ps typed.string_place.Kinds.r typed.string_place.Reads.Post
only-string-place κs a z z' e e' p q = one_answer said-back p q

-- `typed::block_place`
pub only-block-place : OneAnswer typed.block_place.Kinds.ps typed.block_place.Kinds.r typed.block_place.Reads.Post
only-block-place κs a z z' e e' p q = one_answer said-back p q

-- `typed::string_attribute`
pub only-string-attribute : One typed.string_attribute.Kinds.ps typed.string_attribute.Kinds.r (λ κs z e. z.now) typed.string_attribute.Reads.Post
only-string-attribute κs a z z' e e' p q = cc

-- `typed::block_attribute`
pub only-block-attribute : One typed.block_attribute.Kinds.ps typed.block_attribute.Kinds.r (λ κs z e. z.now) typed.block_attribute.Reads.Post
only-block-attribute κs a z z' e e' p q = cc

-- `neighbour::next_tag`
pub only-next-tag : OneAnswer neighbour.next_tag.Kinds.ps neighbour.next_tag.Kinds.r neighbour.next_tag.Reads.Post
only-next-tag κs a z z' e e' p q = one_answer said-back p q

-- `neighbour::next_sibling`
pub only-next-sibling : OneAnswer neighbour.next_sibling.Kinds.ps neighbour.next_sibling.Kinds.r neighbour.next_sibling.Reads.Post
only-next-sibling κs a z z' e e' p q = one_answer said-back p q

-- `children::children`
pub only-children : OneAnswer children.children.Kinds.ps children.children.Kinds.r children.children.Reads.Post
only-children κs a z z' e e' p q = one_answer counted-back p.answer_is q.answer_is

pub only-children-room : OneRoom children.children.Kinds.ps children.children.Kinds.r (λ κs e. e.1.1.0.now) children.children.Reads.Post
only-children-room κs a z z' e e' p q = cc
