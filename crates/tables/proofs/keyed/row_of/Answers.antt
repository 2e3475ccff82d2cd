use Rattle.format.proofs.Laws.Said.{comes-past, gone-past}
use Rattle.tables.specs.Keyed.{row_of}
use Rattle.tables.proofs.Laws.Tests.{passed-held}
use Rattle.tables.proofs.Laws.Held.{held-rising}
use Rattle.tables.proofs.keyed.row_of.Goals as goal

pub find_key-requires : goal.find_key-requires
find_key-requires c = held-rising (passed-held c.test_table.ensures c.in_ok-test_table.was)

pub returns : goal.returns
unfolding row_of
returns c = comes-past c.test_table.ensures.told c.in_ok-test_table.was _ c.find_key.ensures

pub returns-in_err-test_table : goal.returns-in_err-test_table
unfolding row_of
returns-in_err-test_table c = gone-past c.test_table.ensures.told c.in_err-test_table.was _ c.from_residual.ensures.1 _
