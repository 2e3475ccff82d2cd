use Rattle.format.specs.Lookup.{lookup}
use Rattle.format.proofs.Laws.Lookup.{lookup-none}
use Rattle.format.specs.LocationOp.{location_ops, location_op_of}
use Rattle.format.specs.declared.location_op.LocationOp.TheVariants.{Unknown}
use mathlib.Core.Path.{sym, ap}
use Rattle.format.proofs.location_op.location_op.Goals as goal

pub returns-in-7 : goal.returns-in-7
unfolding lookup location_ops location_op_of
returns-in-7 c = sym (ap (lookup location_ops Unknown) c.in-7.is)

pub returns-in-128 : goal.returns-in-128
unfolding lookup location_ops location_op_of
returns-in-128 c = sym (ap (lookup location_ops Unknown) c.in-128.is)

pub returns-in_default : goal.returns-in_default
unfolding lookup location_ops location_op_of
returns-in_default c = lookup-none _ location_ops Unknown _ c.in_default.in_default-own.rest
