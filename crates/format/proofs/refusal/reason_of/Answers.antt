use Rattle.format.specs.Lookup.{lookup}
use Rattle.format.proofs.Laws.Lookup.{lookup-none}
use Rattle.format.specs.Refusal.{reasons, reason_of}
use Rattle.format.specs.declared.refusal.Reason.TheVariants.{Settings}
use mathlib.Core.Path.{sym, ap}
use Rattle.format.proofs.refusal.reason_of.Goals as goal

pub returns-in-9 : goal.returns-in-9
unfolding lookup reasons reason_of
returns-in-9 c = sym (ap (lookup reasons Settings) c.in-9.is)

pub returns-in_default : goal.returns-in_default
unfolding lookup reasons reason_of
returns-in_default c = lookup-none _ reasons Settings _ c.in_default.in_default-own.rest
