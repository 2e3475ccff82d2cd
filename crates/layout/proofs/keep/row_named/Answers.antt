use Rattle.layout.proofs.Laws.Keep.{named-at, named_none}
use Rattle.layout.proofs.keep.row_named.Goals as goal

pub returns-in-Some : goal.returns-in-Some
returns-in-Some c = named-at _ _ _ c.find_row.ensures c.in-Some.is

pub returns-in-None : goal.returns-in-None
returns-in-None c = named_none _ _ _ c.find_row.ensures c.in-None.is c.refused.ensures
