use borrow.Author.Tests.{eq-eqb, ne_eqb}
use Rattle.format.specs.FundType.{parse_int}
use Rattle.format.proofs.fund_type.parse_int.Goals as goal

pub returns-then-value-eq1 : goal.returns-then-value-eq1
unfolding parse_int
returns-then-value-eq1 c = rw (eq-eqb _ _ c.if-value-eq1.true) c.try_from.ensures

pub returns-else-value-eq1 : goal.returns-else-value-eq1
unfolding parse_int
returns-else-value-eq1 c = rw (ne_eqb _ _ c.if-value-eq1.false) c.try_from-else-value-eq1.ensures
