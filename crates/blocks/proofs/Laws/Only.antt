-- No second answer fits: of any two results that meet a public function's contract for the same arguments, and what they leave in lent memory, the one is the
-- other. Written and held against the source by .ci/promises.
use Rattle.lent.specs.OneAnswer.{One, OneAnswer, OneRoom}
use Rattle.format.proofs.Laws.Said.{one_answer, said-back, counted-back}
use Rattle.blocks.proofs.Laws.Back.{variable-location-back, subscript-back}
use Rattle.blocks.proofs.location as location
use Rattle.blocks.proofs.modifiers as modifiers
use Rattle.blocks.proofs.types as types
use Rattle.blocks.proofs.subscript as subscript
use Rattle.blocks.proofs.subscripts as subscripts
use Rattle.blocks.proofs.producer as producer

-- `location::process_offset`
pub only-process-offset : OneAnswer location.process_offset.Kinds.ps location.process_offset.Kinds.r location.process_offset.Reads.Post
only-process-offset κs a z z' e e' p q = one_answer said-back p q

-- `location::process_address`
pub only-process-address : OneAnswer location.process_address.Kinds.ps location.process_address.Kinds.r location.process_address.Reads.Post
only-process-address κs a z z' e e' p q = one_answer said-back p q

-- `location::process_variable_location`
pub only-process-variable-location : OneAnswer location.process_variable_location.Kinds.ps location.process_variable_location.Kinds.r location.process_variable_location.Reads.Post
only-process-variable-location κs a z z' e e' p q = one_answer variable-location-back p q

-- `modifiers::process_modifiers`
pub only-process-modifiers : OneAnswer modifiers.process_modifiers.Kinds.ps modifiers.process_modifiers.Kinds.r modifiers.process_modifiers.Reads.Post
only-process-modifiers κs a z z' e e' p q = one_answer said-back p q

-- `types::process_type`
pub only-process-type : OneAnswer types.process_type.Kinds.ps types.process_type.Kinds.r types.process_type.Reads.Post
only-process-type κs a z z' e e' p q = one_answer said-back p q

-- `types::modifiers_of`
pub only-modifiers-of : One types.modifiers_of.Kinds.ps types.modifiers_of.Kinds.r (λ κs z e. z.now) types.modifiers_of.Reads.Post
only-modifiers-of κs a z z' e e' p q = cc

-- `subscript::next_subscript`
pub only-next-subscript : OneAnswer subscript.next_subscript.Kinds.ps subscript.next_subscript.Kinds.r subscript.next_subscript.Reads.Post
only-next-subscript κs a z z' e e' p q = one_answer subscript-back p q

-- `subscripts::count_subscripts`
pub only-count-subscripts : OneAnswer subscripts.count_subscripts.Kinds.ps subscripts.count_subscripts.Kinds.r subscripts.count_subscripts.Reads.Post
only-count-subscripts κs a z z' e e' p q = one_answer said-back p q

-- `subscripts::process_array_subscript_data`
pub only-process-array-subscript-data : OneAnswer subscripts.process_array_subscript_data.Kinds.ps subscripts.process_array_subscript_data.Kinds.r subscripts.process_array_subscript_data.Reads.Post
only-process-array-subscript-data κs a z z' e e' p q = one_answer counted-back p.answer_is q.answer_is

pub only-process-array-subscript-data-dims : OneRoom subscripts.process_array_subscript_data.Kinds.ps subscripts.process_array_subscript_data.Kinds.r (λ κs e. e.1.1.0.now) subscripts.process_array_subscript_data.Reads.Post
only-process-array-subscript-data-dims κs a z z' e e' p q = cc

-- `producer::parse_producer`
pub only-parse-producer : OneAnswer producer.parse_producer.Kinds.ps producer.parse_producer.Kinds.r producer.parse_producer.Reads.Post
only-parse-producer κs a z z' e e' p q = cc
