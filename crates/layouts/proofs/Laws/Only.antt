-- No second answer fits: of any two results that meet a public function's contract for the same arguments, and what they leave in lent memory, the one is the
-- other. Written and held against the source by .ci/promises.
use Rattle.lent.specs.OneAnswer.{OneAnswer}
use Rattle.layouts.proofs.gaps as gaps
use Rattle.layouts.proofs.presets as presets

-- `gaps::gap_between`
pub only-gap-between : OneAnswer gaps.gap_between.Kinds.ps gaps.gap_between.Kinds.r gaps.gap_between.Reads.Post
only-gap-between κs a z z' e e' p q = cc

-- `gaps::reach_with`
pub only-reach-with : OneAnswer gaps.reach_with.Kinds.ps gaps.reach_with.Kinds.r gaps.reach_with.Reads.Post
only-reach-with κs a z z' e e' p q = cc

-- `gaps::stretch_of`
pub only-stretch-of : OneAnswer gaps.stretch_of.Kinds.ps gaps.stretch_of.Kinds.r gaps.stretch_of.Reads.Post
only-stretch-of κs a z z' e e' p q = cc

-- `gaps::is_byteless`
pub only-is-byteless : OneAnswer gaps.is_byteless.Kinds.ps gaps.is_byteless.Kinds.r gaps.is_byteless.Reads.Post
only-is-byteless κs a z z' e e' p q = cc

-- `presets::preset_of`
pub only-preset-of : OneAnswer presets.preset_of.Kinds.ps presets.preset_of.Kinds.r presets.preset_of.Reads.Post
only-preset-of κs a z z' e e' p q = cc

-- `presets::is_word`
pub only-is-word : OneAnswer presets.is_word.Kinds.ps presets.is_word.Kinds.r presets.is_word.Reads.Post
only-is-word κs a z z' e e' p q = cc
