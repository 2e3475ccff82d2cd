use Rattle.attributes.proofs.Laws.Text.{zero-after}
use Rattle.records.proofs.fields.text_of.Goals as goal

pub overflow_sub-result : goal.overflow_sub-result
overflow_sub-result c = zero-after _ _ c.zero_from.ensures
