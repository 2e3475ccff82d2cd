use Rattle.layout.proofs.Laws.Layout.{whole-other, whole-laid, whole-refused}
use borrow.Author.Rules.{rules}
use Rattle.layout.proofs.one.read_layout.Goals as goal

pub returns-then-not-is_structure : goal.returns-then-not-is_structure
returns-then-not-is_structure c = whole-other _ _ _ _ _ _ _ c.row_at-row.ensures c.is_structure.ensures (search rules) c.refused.ensures

pub returns : goal.returns
returns c = whole-laid _ _ _ _ _ _ _ c.row_at-row.ensures c.is_structure.ensures (search rules) c.run_of.ensures c.last_word-own.ensures
    c.is_bounded.ensures c.lay_structure.ensures c.in_ok-laid.was c.size_or_largest.ensures

pub returns-in_err-laid : goal.returns-in_err-laid
returns-in_err-laid c = whole-refused _ _ _ _ _ _ _ c.row_at-row.ensures c.is_structure.ensures (search rules) c.run_of.ensures c.last_word-own.ensures
    c.is_bounded.ensures c.lay_structure.ensures c.in_err-laid.was _ c.from_residual.ensures.1
