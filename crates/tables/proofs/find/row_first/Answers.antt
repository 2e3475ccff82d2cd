use Rattle.tables.proofs.Laws.Find.{row-past, row_here, row_other}
use Rattle.tables.proofs.find.row_first.Goals as goal

pub returns-then-i-n : goal.returns-then-i-n
returns-then-i-n c = row-past _ _ _ _ c.requires.1 c.if-i-n.true

pub returns-then-get_or-key : goal.returns-then-get_or-key
returns-then-get_or-key c = row_here _ _ _ _ c.requires.1 c.if-i-n.false c.get_or.ensures c.if-get_or-key.true

pub returns-else-get_or-key : goal.returns-else-get_or-key
returns-else-get_or-key c = row_other _ _ _ _ c.requires.1 c.requires.0 c.if-i-n.false c.get_or.ensures c.if-get_or-key.false
