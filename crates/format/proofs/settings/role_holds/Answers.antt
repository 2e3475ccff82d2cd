use Rattle.format.specs.Settings.{role_holds}
use Rattle.format.proofs.settings.role_holds.Goals as goal

pub returns : goal.returns
unfolding role_holds
returns c = rw c.on_list.ensures
