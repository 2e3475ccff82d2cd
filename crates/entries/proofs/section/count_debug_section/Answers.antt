use borrow.Author.Rules.{rules}
use Rattle.entries.proofs.Laws.Section.{count-settings, count_long, count-read, count-stopped}
use Rattle.entries.proofs.Laws.Run.{exit-is}
use Rattle.entries.proofs.section.count_debug_section.Goals as goal

pub returns-then-not-settings_hold : goal.returns-then-not-settings_hold
returns-then-not-settings_hold c = count-settings _ _ _ _ (search rules) c.refused.ensures

pub returns-then-s-ge-SECTION_LIMIT : goal.returns-then-s-ge-SECTION_LIMIT
returns-then-s-ge-SECTION_LIMIT c = count_long _ _ _ _ (search rules) c.if-s-ge-SECTION_LIMIT.true c.refused-then-s-ge-SECTION_LIMIT.ensures

pub returns : goal.returns
returns c = count-read _ _ _ _ (search rules) c.if-s-ge-SECTION_LIMIT.false c.count_whole.ensures c.in_ok-state.was

pub returns-in_err-state : goal.returns-in_err-state
returns-in_err-state c = count-stopped _ _ _ _ (search rules) c.if-s-ge-SECTION_LIMIT.false c.count_whole.ensures
    c.in_err-state.was (exit-is _ c.from_residual.ensures.1)
