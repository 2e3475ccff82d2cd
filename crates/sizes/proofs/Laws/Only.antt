-- No second answer fits: of any two results that meet a public function's contract for the same arguments, and what they leave in lent memory, the one is the
-- other. Written and held against the source by .ci/promises.
use Rattle.lent.specs.OneAnswer.{OneAnswer}
use Rattle.format.proofs.Laws.Said.{one_answer, said-back}
use Rattle.sizes.proofs.size as size

-- `size::size_of_key`
pub only-size-of-key : OneAnswer size.size_of_key.Kinds.ps size.size_of_key.Kinds.r size.size_of_key.Reads.Post
only-size-of-key κs a z z' e e' p q = one_answer said-back p q

-- `size::size_of_type`
pub only-size-of-type : OneAnswer size.size_of_type.Kinds.ps size.size_of_type.Kinds.r size.size_of_type.Reads.Post
only-size-of-type κs a z z' e e' p q = one_answer said-back p q
