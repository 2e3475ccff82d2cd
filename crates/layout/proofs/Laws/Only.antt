-- No second answer fits: of any two results that meet a public function's contract for the same arguments, and what they leave in lent memory, the one is the
-- other. Written and held against the source by .ci/promises.
use Rattle.lent.specs.OneAnswer.{OneAnswer, OneRoom}
use Rattle.format.proofs.Laws.Said.{one_answer, counted-back}
use Rattle.layout.proofs.Laws.Back.{all-layouts-back}
use Rattle.layout.proofs.one as one
use Rattle.layout.proofs.all as all

-- `one::layout_of_key`
pub only-layout-of-key : OneAnswer one.layout_of_key.Kinds.ps one.layout_of_key.Kinds.r one.layout_of_key.Reads.Post
only-layout-of-key κs a z z' e e' p q = one_answer counted-back p.answer_is q.answer_is

pub only-layout-of-key-room : OneRoom one.layout_of_key.Kinds.ps one.layout_of_key.Kinds.r (λ κs e. e.1.1.0.now) one.layout_of_key.Reads.Post
only-layout-of-key-room κs a z z' e e' p q = cc

-- `all::all_layouts`
pub only-all-layouts : OneAnswer all.all_layouts.Kinds.ps all.all_layouts.Kinds.r all.all_layouts.Reads.Post
only-all-layouts κs a z z' e e' p q = one_answer all-layouts-back p.answer_is q.answer_is

pub only-all-layouts-structures : OneRoom all.all_layouts.Kinds.ps all.all_layouts.Kinds.r (λ κs e. e.1.0.now) all.all_layouts.Reads.Post
only-all-layouts-structures κs a z z' e e' p q = cc

pub only-all-layouts-members : OneRoom all.all_layouts.Kinds.ps all.all_layouts.Kinds.r (λ κs e. e.1.1.0.now) all.all_layouts.Reads.Post
only-all-layouts-members κs a z z' e e' p q = cc
