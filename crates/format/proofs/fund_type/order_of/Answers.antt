use Rattle.format.specs.Lookup.{index_of}
use Rattle.format.specs.FundType.{fund_types}
use mathlib.Core.Path.{sym, ap}
use Rattle.format.proofs.fund_type.order_of.Goals as goal

pub returns-in-42256 : goal.returns-in-42256
unfolding index_of fund_types
returns-in-42256 c = sym (ap (λ n. index_of n fund_types) c.in-42256.is)

pub returns-in-44032 : goal.returns-in-44032
unfolding index_of fund_types
returns-in-44032 c = sym (ap (λ n. index_of n fund_types) c.in-44032.is)
