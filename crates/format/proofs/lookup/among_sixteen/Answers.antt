use Rattle.format.proofs.Laws.Sixteen.{some-of-sixteen}
use Rattle.format.proofs.lookup.among_sixteen.Goals as goal

pub returns : goal.returns
returns c = some-of-sixteen _ _ _
