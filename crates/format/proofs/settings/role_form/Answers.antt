use Rattle.format.specs.Settings.{role_form}
use mathlib.Core.Path.{refl}
use Rattle.format.proofs.settings.role_form.Goals as goal

pub returns : goal.returns
unfolding role_form
returns c = refl
