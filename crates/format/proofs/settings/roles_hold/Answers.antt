use Rattle.format.specs.Settings.{roles_hold}
use Rattle.format.proofs.settings.roles_hold.Goals as goal

pub returns : goal.returns
unfolding roles_hold
returns c = rw (
  c.role_holds.ensures,
  c.role_holds-2.ensures,
  c.role_holds-3.ensures,
  c.role_holds-4.ensures,
  c.role_form.ensures,
  c.role_form-2.ensures,
  c.role_form-3.ensures,
  c.roles_differ.ensures,
  c.roles_differ-2.ensures,
  c.roles_differ-3.ensures,
  c.roles_differ-4.ensures,
  c.roles_differ-5.ensures,
  c.roles_differ-6.ensures,
)
