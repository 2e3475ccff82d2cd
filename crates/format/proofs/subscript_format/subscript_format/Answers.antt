use Rattle.format.specs.Lookup.{lookup}
use Rattle.format.proofs.Laws.Lookup.{lookup-none}
use Rattle.format.specs.SubscriptFormat.{subscript_formats, subscript_format_of}
use Rattle.format.specs.declared.subscript_format.SubscriptFormat.TheVariants.{Unknown}
use mathlib.Core.Path.{sym, ap}
use Rattle.format.proofs.subscript_format.subscript_format.Goals as goal

pub returns-in-1 : goal.returns-in-1
unfolding lookup subscript_formats subscript_format_of
returns-in-1 c = sym (ap (lookup subscript_formats Unknown) c.in-1.is)

pub returns-in-8 : goal.returns-in-8
unfolding lookup subscript_formats subscript_format_of
returns-in-8 c = sym (ap (lookup subscript_formats Unknown) c.in-8.is)

pub returns-in_default : goal.returns-in_default
unfolding lookup subscript_formats subscript_format_of
returns-in_default c = lookup-none _ subscript_formats Unknown _ c.in_default.in_default-own.rest
