use Rattle.format.proofs.Laws.Form.{is-form}
use Rattle.format.proofs.form_kind.is_form.Goals as goal

pub returns : goal.returns
returns c = is-form _ _ c.form_number.ensures c.form_of.ensures c.form_number-2.ensures
