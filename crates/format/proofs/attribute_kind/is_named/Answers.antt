use Prim.Native.Nat.{◌/◌, ◌%◌, ◌^◌}
use lib.Dec.{eqb}
use Rattle.format.proofs.Laws.Computed.{below, same-below, all_below, beyond}
use Rattle.format.specs.Lookup.{is_on, lookup}
use Rattle.format.specs.Inside.NamedWords.{named_words}
use Rattle.format.specs.AttributeKind.{used, also_known, attribute_kinds}
use mathlib.Core.Path.{refl, sym, ap, ◌∙◌}
use Rattle.format.proofs.attribute_kind.is_named.Goals as goal

pub returns-then-n-lt800 : goal.returns-then-n-lt800
unfolding attribute_kinds used also_known is_on below lookup named_words
returns-then-n-lt800 c = ap (λ word. eqb (word / 2 ^ (c.args.n % 32) % 2) 1) c.named_word.ensures
    ∙ same-below 800 (λ n. eqb (lookup named_words 0x00000100 (n / 32) / 2 ^ (n % 32) % 2) 1) (λ n. is_on n attribute_kinds) refl _ c.if-n-lt800.true

pub returns-else-n-lt800 : goal.returns-else-n-lt800
unfolding attribute_kinds used also_known is_on all_below
returns-else-n-lt800 c = sym (beyond 800 57 attribute_kinds _ refl c.if-n-lt800.false)
