use Rattle.entries.proofs.Laws.Entry.{null_read}
use Rattle.entries.proofs.entry.read_null.Goals as goal

pub returns : goal.returns
returns c = null_read _ _ _ _ c.flags_of.ensures c.put_row.ensures
