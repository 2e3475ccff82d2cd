-- No second answer fits a function that our own crates alone call: `Only` of what has a `requires`.
use denote.RattleType.{RattleType}
use denote.Param.Laws.{Laws, IsCopy}
use mir.Syntax.{Dict}
use Rattle.std.specs.declared.clone.Clone as Clone
use Rattle.lent.specs.OneAnswer.{OneRoom}
use Rattle.lent.proofs.cells as cells

-- `cells::put_all`
pub only-put-all-t : (T : RattleType) (L : Laws T) (C : IsCopy T) (T-Clone : Clone.Ghosts T.Denot) (T-Clone-dict : Dict)
    → OneRoom (cells.put_all.Kinds.ps T L C) (cells.put_all.Kinds.r T L C) (λ κs e. e.0.now) (cells.put_all.Reads.Post T L C T-Clone T-Clone-dict)
only-put-all-t T L C T-Clone T-Clone-dict κs a z z' e e' p q = cc
