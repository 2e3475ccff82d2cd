use Rattle.format.specs.Lookup.{lookup}
use Rattle.format.proofs.Laws.Lookup.{lookup-none}
use Rattle.format.specs.Modifier.{modifiers, modifier_of}
use Rattle.format.specs.declared.modifier.Modifier.TheVariants.{Unknown}
use mathlib.Core.Path.{sym, ap}
use Rattle.format.proofs.modifier.parse_int.Goals as goal

pub returns-in-0 : goal.returns-in-0
unfolding lookup modifiers modifier_of
returns-in-0 c = sym (ap (lookup modifiers Unknown) c.in-0.is)

pub returns-in_default : goal.returns-in_default
unfolding lookup modifiers modifier_of
returns-in_default c = lookup-none _ modifiers Unknown _ c.in_default.in_default-own.rest
