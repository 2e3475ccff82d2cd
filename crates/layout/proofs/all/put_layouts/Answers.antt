use Rattle.layout.proofs.Laws.All.{putting-begins, putting-asked, putting-on, putting-ends}
use Rattle.layout.proofs.all.put_layouts.Goals as goal

pub loop-i-init : goal.loop-i-init
loop-i-init c = putting-begins _ c.requires.0 _

pub put_row-counts-requires : goal.put_row-counts-requires
put_row-counts-requires c = (putting-asked c.loop-i.invariant c.loop-i-test.true, c.requires.1)

pub loop-i-preserved : goal.loop-i-preserved
loop-i-preserved c = putting-on c.loop-i.invariant c.loop-i-test.true c.put_row-counts.ensures

pub returns : goal.returns
returns c = putting-ends c.loop-i.invariant c.loop-i-test.false
