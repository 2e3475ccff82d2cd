use Rattle.tables.proofs.Laws.Tests.{settings-fail, section-long, table-fails, all_pass}
use mathlib.Core.Path.{refl, sym, ◌∙◌}
use Rattle.tables.proofs.tests.test_table.Goals as goal

pub returns-then-not-settings_hold : goal.returns-then-not-settings_hold
returns-then-not-settings_hold c = settings-fail _ (sym c.settings_hold.ensures ∙ c.if-not-settings_hold.true) c.refuse.ensures

pub returns-then-t-ge-SECTION_LIMIT : goal.returns-then-t-ge-SECTION_LIMIT
returns-then-t-ge-SECTION_LIMIT c =
    section-long _ (sym c.settings_hold.ensures ∙ c.if-not-settings_hold.false) c.if-t-ge-SECTION_LIMIT.true c.refuse-then-t-ge-SECTION_LIMIT.ensures

pub returns-then-table_holds : goal.returns-then-table_holds
returns-then-table_holds c =
    all_pass _ (sym c.settings_hold.ensures ∙ c.if-not-settings_hold.false) c.if-t-ge-SECTION_LIMIT.false
    (sym c.table_holds.ensures ∙ c.if-table_holds.true) refl

pub returns-else-table_holds : goal.returns-else-table_holds
returns-else-table_holds c =
    table-fails _ (sym c.settings_hold.ensures ∙ c.if-not-settings_hold.false) c.if-t-ge-SECTION_LIMIT.false
    (sym c.table_holds.ensures ∙ c.if-table_holds.false) c.refuse-else-table_holds.ensures
