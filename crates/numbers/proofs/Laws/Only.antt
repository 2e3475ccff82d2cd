-- No second answer fits: of any two results that meet a public function's contract for the same arguments, and what they leave in lent memory, the one is the
-- other. Written and held against the source by .ci/promises.
use denote.RattleType.{RattleType}
use denote.Param.Laws.{Laws, IsCopy}
use mir.Syntax.{Dict}
use Rattle.numbers.specs.declared.number.Number as Number
use Rattle.std.specs.declared.clone.Clone as Clone
use Rattle.lent.specs.OneAnswer.{OneAnswer}
use Rattle.numbers.proofs.number as number
use Rattle.numbers.proofs.prefix as prefix

-- `number::bytes_there`
pub only-bytes-there : OneAnswer number.bytes_there.Kinds.ps number.bytes_there.Kinds.r number.bytes_there.Reads.Post
only-bytes-there κs a z z' e e' p q = cc

-- `number::number_at`
pub only-number-at : (N : RattleType) (L : Laws N) (C : IsCopy N)
    (N-Number : Number.Ghosts N.Denot) (N-Number-dict : Dict) (N-Clone : Clone.Ghosts N.Denot) (N-Clone-dict : Dict)
    → OneAnswer (number.number_at.Kinds.ps N L C) (number.number_at.Kinds.r N L C)
    (number.number_at.Reads.Post N L C N-Number N-Number-dict N-Clone N-Clone-dict)
only-number-at N L C N-Number N-Number-dict N-Clone N-Clone-dict κs a z z' e e' p q = cc

-- `prefix::starts_with`
pub only-starts-with : OneAnswer prefix.starts_with.Kinds.ps prefix.starts_with.Kinds.r prefix.starts_with.Reads.Post
only-starts-with κs a z z' e e' p q = cc
