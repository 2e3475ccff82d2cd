use Rattle.format.specs.Settings.{vendor_number}
use Rattle.format.proofs.settings.vendor_number.Goals as goal

pub returns : goal.returns
unfolding vendor_number
returns c = rw c.is_named.ensures
