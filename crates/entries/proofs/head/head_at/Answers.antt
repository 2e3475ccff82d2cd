use Rattle.entries.proofs.Laws.Head.{head-sized, head-short}
use Rattle.entries.proofs.Laws.Run.{exit-is, kept-some, told-none}
use Rattle.numbers.proofs.Laws.Value.{reads_short}
use Rattle.numbers.proofs.Laws.Read.{says_number, short_number, goes_on, says-inside}
use Rattle.std.specs.Prelude.{Err}
use mathlib.Core.Path.{sym, ap, ◌∙◌}
use Rattle.entries.proofs.head.head_at.Goals as goal

pub size_head-requires : goal.size_head-requires
size_head-requires c = says-inside (says_number _ _ _ _ (sym c.number_at.ensures ∙ kept-some _ _ c.ok_or.ensures.value c.in_ok-size.was))

pub returns : goal.returns
returns c = head-sized _ _ _ _ _ c.size_head.ensures
    (goes_on _ _ (says_number _ _ _ _ (sym c.number_at.ensures ∙ kept-some _ _ c.ok_or.ensures.value c.in_ok-size.was)))

pub returns-in_err-size : goal.returns-in_err-size
returns-in_err-size c = let none = told-none _ _ c.ok_or.ensures.value c.in_err-size.was in
    head-short _ _ _ _ (reads_short _ _ _ _ _ _ (short_number _ _ _ _ (sym c.number_at.ensures ∙ none.0))) (exit-is _ c.from_residual.ensures.1 ∙ ap Err none.1)
