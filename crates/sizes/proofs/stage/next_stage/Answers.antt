use Rattle.sizes.proofs.Laws.Stage.{stage-as}
use Rattle.sizes.specs.Inside.Stage.{stage_size, stage_turns}
use Rattle.sizes.proofs.stage.next_stage.Goals as goal

pub grown_on-requires : goal.grown_on-requires
grown_on-requires c = c.requires.at_member c.in-Member.is

pub returns-in-Begin : goal.returns-in-Begin
unfolding stage_size stage_turns
returns-in-Begin c = stage-as _ _ _ _ _ _ _ c.in-Begin.is c.begun.ensures

pub returns-in-Element : goal.returns-in-Element
unfolding stage_size stage_turns
returns-in-Element c = stage-as _ _ _ _ _ _ _ c.in-Element.is c.multiplied.ensures

pub returns-in-Member : goal.returns-in-Member
unfolding stage_turns
returns-in-Member c = stage-as _ _ _ _ _ _ _ c.in-Member.is c.grown_on.ensures
