use Rattle.format.proofs.Laws.Said.{comes-past, gone-past}
use Rattle.sizes.specs.Size.{size_of_type}
use Rattle.sizes.proofs.Laws.Size.{ready}
use Rattle.sizes.proofs.size.size_of_type.Goals as goal

pub type_size-requires : goal.type_size-requires
type_size-requires c = ready c.test_table.ensures c.in_ok-test_table.was

pub returns : goal.returns
unfolding size_of_type
returns c = comes-past c.test_table.ensures.told c.in_ok-test_table.was _ c.type_size.ensures

pub returns-in_err-test_table : goal.returns-in_err-test_table
unfolding size_of_type
returns-in_err-test_table c = gone-past c.test_table.ensures.told c.in_err-test_table.was _ c.from_residual.ensures.1 _
