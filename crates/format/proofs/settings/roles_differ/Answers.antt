use Rattle.format.specs.Settings.{roles_differ}
use mathlib.Core.Path.{refl}
use Rattle.format.proofs.settings.roles_differ.Goals as goal

pub returns : goal.returns
unfolding roles_differ
returns c = refl
