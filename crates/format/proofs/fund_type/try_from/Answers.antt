use borrow.Author.Tests.{lt-ltb, le-ltb}
use Rattle.format.proofs.Laws.Lookup.{member-index}
use Rattle.format.specs.FundType.{fund_types, fund_type_of}
use Rattle.format.proofs.fund_type.try_from.Goals as goal

pub returns-then-order_of-lt28 : goal.returns-then-order_of-lt28
unfolding fund_type_of fund_types
returns-then-order_of-lt28 c = rw (member-index fund_types c.args.n, ← c.order_of.ensures, lt-ltb c.order_of.result 28 c.if-order_of-lt28.true)

pub returns-else-order_of-lt28 : goal.returns-else-order_of-lt28
unfolding fund_type_of fund_types
returns-else-order_of-lt28 c = rw (member-index fund_types c.args.n, ← c.order_of.ensures, le-ltb c.order_of.result 28 c.if-order_of-lt28.false)
