use Rattle.format.specs.Lookup.{lookup}
use Rattle.format.proofs.Laws.Lookup.{lookup-none}
use Rattle.format.specs.FormKind.{forms, form_of}
use Rattle.format.specs.declared.form_kind.FormKind.TheVariants.{Undefined}
use mathlib.Core.Path.{sym, ap}
use Rattle.format.proofs.form_kind.form_of.Goals as goal

pub returns-in-3 : goal.returns-in-3
unfolding lookup forms form_of
returns-in-3 c = sym (ap (lookup forms Undefined) c.in-3.is)

pub returns-in-7 : goal.returns-in-7
unfolding lookup forms form_of
returns-in-7 c = sym (ap (lookup forms Undefined) c.in-7.is)

pub returns-in_default : goal.returns-in_default
unfolding lookup forms form_of
returns-in_default c = lookup-none _ forms Undefined _ c.in_default.in_default-own.rest
