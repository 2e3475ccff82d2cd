use Rattle.layout.proofs.Laws.Layout.{sized-laid, sized-endless}
use Rattle.layout.proofs.one.lay_sized.Goals as goal

pub returns : goal.returns
returns c = sized-laid _ _ _ _ _ _ _ _ _ c.end_or.ensures c.in_ok-largest.was c.put_laid.ensures

pub returns-in_err-largest : goal.returns-in_err-largest
returns-in_err-largest c = sized-endless _ _ _ _ _ _ _ _ _ c.end_or.ensures c.in_err-largest.was _ c.from_residual.ensures.1
