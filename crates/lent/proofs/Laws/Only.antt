-- No second answer fits: of any two results that meet a public function's contract for the same arguments, and what they leave in lent memory, the one is the
-- other. Written and held against the source by .ci/promises.
use denote.RattleType.{RattleType}
use denote.Param.Laws.{Laws, IsCopy}
use mir.Syntax.{Dict}
use Rattle.std.specs.declared.clone.Clone as Clone
use Rattle.lent.specs.OneAnswer.{OneAnswer, OneRoom}
use Rattle.lent.proofs.cells as cells

-- `cells::get_or`
pub only-get-or : (T : RattleType) (L : Laws T) (C : IsCopy T)
    (T-Clone : Clone.Ghosts T.Denot) (T-Clone-dict : Dict)
    → OneAnswer (cells.get_or.Kinds.ps T L C) (cells.get_or.Kinds.r T L C)
    (cells.get_or.Reads.Post T L C T-Clone T-Clone-dict)
only-get-or T L C T-Clone T-Clone-dict κs a z z' e e' p q = cc

-- `cells::put`
pub only-put-t : (T : RattleType) (L : Laws T) (C : IsCopy T)
    (T-Clone : Clone.Ghosts T.Denot) (T-Clone-dict : Dict)
    → OneRoom (cells.put.Kinds.ps T L C) (cells.put.Kinds.r T L C) (λ κs e. e.0.now)
    (cells.put.Reads.Post T L C T-Clone T-Clone-dict)
only-put-t T L C T-Clone T-Clone-dict κs a z z' e e' p q = cc
