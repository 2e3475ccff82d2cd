use Rattle.tables.specs.Table.{lent_rows}
use Rattle.tables.specs.Row.{row_at}
use Rattle.links.specs.Inside.EachChild.{children_from, children_at}
use Rattle.records.specs.Unions.{members_from}
use Rattle.records.proofs.Laws.Unions.{Taking}
use lib.ListN.{length}
use Rattle.records.proofs.unions.take_children.Given as goal

abbrev pub invariant-loop-c : goal.invariant-loop-c
invariant-loop-c l = Taking l.t.settings l.t.section.now l.t.rows.now l.t.attrs.now l.t.counts.rows l.row.key l.end (members_from l.t.settings (lent_rows l.t.settings.endian l.t.section.now l.t.rows.now l.t.attrs.now l.t.counts.rows) (row_at l.t.rows.now l.i).key (children_at l.t.settings.endian l.t.section.now l.t.rows.now l.t.attrs.now l.t.counts.rows l.i)) l.initial.room l.room l.c l.k

abbrev pub decreases-loop-c : goal.decreases-loop-c
decreases-loop-c l = length (children_from l.t.settings.endian l.t.section.now l.t.rows.now l.t.attrs.now l.t.counts.rows l.end l.c)
