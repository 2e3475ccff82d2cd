use Rattle.format.specs.Known.{known}
use mathlib.Core.Path.{sym, ◌∙◌}
use Rattle.format.proofs.attribute_kind.is_known.Goals as goal

pub returns-then-is_named : goal.returns-then-is_named
unfolding known
returns-then-is_named c = rw (sym c.is_named.ensures ∙ c.if-is_named.true)

pub returns-else-is_named : goal.returns-else-is_named
unfolding known
returns-else-is_named c = rw (sym c.is_named.ensures ∙ c.if-is_named.false) c.on_list.ensures
