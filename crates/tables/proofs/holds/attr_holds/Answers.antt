use Rattle.tables.proofs.Laws.Holds.{attr-wide}
use Rattle.tables.proofs.holds.attr_holds.Goals as goal

pub returns-then-attr-ge65536 : goal.returns-then-attr-ge65536
returns-then-attr-ge65536 c = attr-wide _ c.args.vendors.now _ _ (λ k. (c.type_inv.vendors k).fits) c.if-attr-ge65536.true
