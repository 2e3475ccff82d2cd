use Rattle.layout.proofs.Laws.All.{rooms-asked, rooms-unlisted, rooms-unfit, rooms-filled}
use Rattle.layout.proofs.all.give_layouts.Goals as goal

pub returns-then-needed-structures : goal.returns-then-needed-structures
returns-then-needed-structures c = rooms-unlisted _ c.count_layouts-needed.ensures.counts_are _ _ c.if-needed-structures.true

pub returns-then-needed-members : goal.returns-then-needed-members
returns-then-needed-members c = rooms-unfit _ c.count_layouts-needed.ensures.counts_are _ _ c.if-needed-structures.false c.if-needed-members.true

pub put_layouts-requires : goal.put_layouts-requires
put_layouts-requires c = (rooms-asked _ c.count_layouts-needed.ensures.counts_are _ c.requires.0.ready c.if-needed-members.false, (c.count_layouts-needed.ensures.all_told, c.requires.1))

pub returns : goal.returns
returns c = rooms-filled _ c.count_layouts-needed.ensures.counts_are _ _ c.if-needed-structures.false c.if-needed-members.false c.put_layouts.ensures
