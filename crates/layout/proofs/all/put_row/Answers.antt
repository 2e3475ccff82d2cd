use Rattle.format.specs.Said.{said}
use Rattle.format.proofs.Laws.Said.{case-said}
use Rattle.layout.proofs.Laws.All.{given-asked, layout-refused, layout-given, puts-other, puts-given, puts-refused}
use borrow.Author.Rules.{rules}
use Rattle.layout.proofs.all.put_row.Goals as goal

pub returns-then-not-is_structure : goal.returns-then-not-is_structure
returns-then-not-is_structure c = puts-other _ _ _ _ _ _ _ c.row_at-row.ensures c.is_structure.ensures c.args.counts (search rules)

pub one_more-requires : goal.one_more-requires
unfolding said
one_more-requires c = given-asked _ _ _ _ _ _ _ c.row_at-row.ensures c.is_structure.ensures (search rules) c.args.counts (case-said said c.read_layout.ensures.answer_is c.in-Ok-read_layout.is) c.requires.0.counted

pub returns-in-Ok-read_layout : goal.returns-in-Ok-read_layout
unfolding said
returns-in-Ok-read_layout c = puts-given _ _ _ _ _ _ _ c.row_at-row.ensures c.is_structure.ensures (search rules) c.args.counts (case-said said c.read_layout.ensures.answer_is c.in-Ok-read_layout.is)
    c.run_of.ensures c.last_name-name.ensures c.read_layout.ensures c.put_structure.ensures c.one_more.ensures

pub returns-in-Err-read_layout : goal.returns-in-Err-read_layout
unfolding said
returns-in-Err-read_layout c = absurd (layout-given c.requires.1.0 c.requires.0.counted.asked.asked.there c.row_at-row.ensures c.is_structure.ensures (search rules) (case-said said c.noted_at.ensures c.in-Ok.is)
    (case-said said c.read_layout.ensures.answer_is c.in-Err-read_layout.is))

pub returns-in-Err : goal.returns-in-Err
unfolding said
returns-in-Err c = puts-refused _ _ _ _ _ _ _ c.row_at-row.ensures c.is_structure.ensures (search rules) c.args.counts
    (layout-refused c.requires.1.0 c.requires.0.counted.asked.asked.there c.row_at-row.ensures c.is_structure.ensures (search rules) (case-said said c.noted_at.ensures c.in-Err.is))
    c.run_of.ensures c.last_name-name.ensures c.number_of.ensures c.put_structure-in-Err.ensures c.one_more-in-Err.ensures
