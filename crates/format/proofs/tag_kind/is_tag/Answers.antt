use mathlib.Core.Bool.{or-false}
use Prim.Native.Nat.{◌/◌, ◌%◌, ◌^◌}
use lib.Dec.{eqb}
use Rattle.format.proofs.Laws.Computed.{below, same-below, all_below, beyond}
use Rattle.format.specs.Lookup.{is_on}
use Rattle.format.specs.TagKind.{tags}
use mathlib.Core.Path.{refl, sym, ◌∙◌}
use Rattle.format.proofs.tag_kind.is_tag.Goals as goal

pub returns-then-n-lt64 : goal.returns-then-n-lt64
unfolding tags is_on below
returns-then-n-lt64 c = same-below 64 (λ n. eqb (34359721215 / 2 ^ n % 2) 1) (λ n. is_on n tags) refl _ c.if-n-lt64.true

pub returns-else-n-lt64 : goal.returns-else-n-lt64
unfolding tags is_on all_below
returns-else-n-lt64 c = sym (beyond 64 32 tags c.args.n refl c.if-n-lt64.false ∙ or-false (eqb 16512 c.args.n))
