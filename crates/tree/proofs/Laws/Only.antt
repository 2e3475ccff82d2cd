-- No second answer fits: of any two results that meet a public function's contract for the same arguments, and what they leave in lent memory, the one is the
-- other. Written and held against the source by .ci/promises.
use Rattle.lent.specs.OneAnswer.{OneAnswer, OneRoom}
use Rattle.format.proofs.Laws.Said.{one_answer, counted-back}
use Rattle.tree.proofs.listing as listing

-- `listing::list_tree`
pub only-list-tree : OneAnswer listing.list_tree.Kinds.ps listing.list_tree.Kinds.r listing.list_tree.Reads.Post
only-list-tree κs a z z' e e' p q = one_answer counted-back p.answer_is q.answer_is

pub only-list-tree-room : OneRoom listing.list_tree.Kinds.ps listing.list_tree.Kinds.r (λ κs e. e.1.0.now) listing.list_tree.Reads.Post
only-list-tree-room κs a z z' e e' p q = cc
