use Rattle.entries.proofs.Laws.Head.{size-null, size-tag, size-short}
use Rattle.entries.proofs.Laws.Run.{exit-is, kept-some, told-none}
use Rattle.numbers.proofs.Laws.Value.{reads_short}
use Rattle.numbers.proofs.Laws.Read.{says_number, short_number, goes_on, says-inside}
use Rattle.std.specs.Prelude.{Err}
use native.Mathlib.Omega.{arith}
use Prim.Native.Nat.{◌+◌, ◌≤◌}
use mathlib.Core.Path.{sym, ap, ◌∙◌}
use lib.ListN.{length}
use Rattle.entries.proofs.head.size_head.Goals as goal

pub returns-then-size-lt8 : goal.returns-then-size-lt8
returns-then-size-lt8 c = size-null _ _ _ _ _ c.requires c.if-size-lt8.true c.null_end.ensures

pub returns : goal.returns
returns c = let said = says_number _ _ _ _ (sym c.number_at.ensures ∙ kept-some _ _ c.ok_or.ensures.value c.in_ok-kind.was) in
    let here : c.args.at + 4 + 2 ≤ length c.args.s.now = says-inside said in
    size-tag _ _ _ _ _ c.requires _ c.if-size-lt8.false c.ranges.size.fits (omega arith) c.tag_head.ensures (goes_on _ _ said)

pub returns-in_err-kind : goal.returns-in_err-kind
returns-in_err-kind c = let none = told-none _ _ c.ok_or.ensures.value c.in_err-kind.was in
    size-short _ _ _ _ _ c.requires c.if-size-lt8.false (reads_short _ _ _ _ _ _ (short_number _ _ _ _ (sym c.number_at.ensures ∙ none.0)))
    (exit-is _ c.from_residual.ensures.1 ∙ ap Err none.1)
