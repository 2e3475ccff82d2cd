use Rattle.format.specs.Said.{said}
use borrow.Author.Rules.{rules}
use Rattle.format.proofs.Laws.Said.{case-said}
use Rattle.layout.proofs.Laws.All.{count-other, count-given, count-refused, given-asked}
use Rattle.layout.proofs.all.count_row.Goals as goal

pub returns-then-not-is_structure : goal.returns-then-not-is_structure
returns-then-not-is_structure c = count-other _ _ _ _ _ _ _ c.row_at-row.ensures c.is_structure.ensures c.args.counts (search rules)

pub one_more-requires : goal.one_more-requires
unfolding said
one_more-requires c = given-asked _ _ _ _ _ _ _ c.row_at-row.ensures c.is_structure.ensures (search rules) c.args.counts (case-said said c.read_layout-answer.ensures.answer_is c.in-Ok.is) c.requires.0

pub returns-in-Ok : goal.returns-in-Ok
unfolding said
returns-in-Ok c = count-given _ _ _ _ _ _ _ c.row_at-row.ensures c.is_structure.ensures (search rules) c.args.counts (case-said said c.read_layout-answer.ensures.answer_is c.in-Ok.is) c.read_layout-answer.ensures.answer_is c.size_told.ensures c.put_noted.ensures c.one_more.ensures

pub returns-in-Err : goal.returns-in-Err
unfolding said
returns-in-Err c = count-refused _ _ _ _ _ _ _ c.row_at-row.ensures c.is_structure.ensures (search rules) c.args.counts (case-said said c.read_layout-answer.ensures.answer_is c.in-Err.is) c.read_layout-answer.ensures.answer_is c.size_told.ensures c.put_noted.ensures c.one_more-in-Err.ensures
