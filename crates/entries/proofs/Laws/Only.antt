-- No second answer fits: of any two results that meet a public function's contract for the same arguments, and what they leave in lent memory, the one is the
-- other. Written and held against the source by .ci/promises.
use Rattle.lent.specs.OneAnswer.{OneAnswer, OneRoom}
use Rattle.format.proofs.Laws.Said.{one_answer}
use Rattle.entries.proofs.Laws.Back.{count-back, section-back}
use Rattle.entries.proofs.section as section

-- `section::count_debug_section`
pub only-count-debug-section : OneAnswer section.count_debug_section.Kinds.ps section.count_debug_section.Kinds.r section.count_debug_section.Reads.Post
only-count-debug-section κs a z z' e e' p q = one_answer count-back p q

-- `section::read_debug_section`
pub only-read-debug-section : OneAnswer section.read_debug_section.Kinds.ps section.read_debug_section.Kinds.r section.read_debug_section.Reads.Post
only-read-debug-section κs a z z' e e' p q = one_answer section-back p.answer_is q.answer_is

pub only-read-debug-section-rows : OneRoom section.read_debug_section.Kinds.ps section.read_debug_section.Kinds.r (λ κs e. e.1.1.1.1.0.now) section.read_debug_section.Reads.Post
only-read-debug-section-rows κs a z z' e e' p q = cc

pub only-read-debug-section-attrs : OneRoom section.read_debug_section.Kinds.ps section.read_debug_section.Kinds.r (λ κs e. e.1.1.1.1.1.0.now) section.read_debug_section.Reads.Post
only-read-debug-section-attrs κs a z z' e e' p q = cc
