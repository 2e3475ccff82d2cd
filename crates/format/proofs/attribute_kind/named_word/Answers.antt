use Rattle.format.specs.Lookup.{lookup}
use Rattle.format.proofs.Laws.Lookup.{lookup-none}
use Rattle.format.specs.Inside.NamedWords.{named_words}
use Rattle.format.proofs.attribute_kind.named_word.Goals as goal

pub returns-in_default : goal.returns-in_default
unfolding lookup named_words
returns-in_default c = lookup-none _ named_words 0x00000100 _ c.in_default.in_default-own.rest
