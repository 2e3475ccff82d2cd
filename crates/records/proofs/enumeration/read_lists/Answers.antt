use mathlib.Core.Path.{refl}
use Rattle.format.proofs.Laws.Said.{refused-here}
use Rattle.records.proofs.Laws.Enumeration.{lists-begin, lists-done, lists-countable, lists-less, lists-again, list-unread, lists-refused}
use Rattle.records.proofs.enumeration.read_lists.Goals as goal

pub loop-at-init : goal.loop-at-init
loop-at-init c = lists-begin _ _ _ _ _ _ _

pub returns-in_err-at : goal.returns-in_err-at
returns-in_err-at c =
    lists-refused _ _ _ _ _ c.loop-at.invariant c.scan_from.ensures c.in_err-at.was (refused-here c.scan_from.ensures c.in_err-at.was _ c.from_residual.ensures.1)

pub returns-then-at-run : goal.returns-then-at-run
returns-then-at-run c = lists-done _ _ _ _ _ c.loop-at.invariant c.scan_from.ensures c.in_ok-at.was c.if-at-run.true

pub list_at-requires : goal.list_at-requires
list_at-requires c = lists-countable _ _ _ _ _ c.loop-at.invariant c.scan_from.ensures c.in_ok-at.was c.requires c.if-at-run.false

pub returns-in_err-count : goal.returns-in_err-count
returns-in_err-count c =
    list-unread _ _ _ _ _ c.loop-at.invariant c.scan_from.ensures c.in_ok-at.was c.if-at-run.false c.list_at.ensures c.in_err-count.was
    (refused-here refl c.in_err-count.was _ c.from_residual-in_err-count.ensures.1)

pub loop-at-smaller : goal.loop-at-smaller
loop-at-smaller c = lists-less _ _ _ _ _ c.loop-at.invariant c.scan_from.ensures c.in_ok-at.was c.if-at-run.false

pub loop-at-preserved : goal.loop-at-preserved
loop-at-preserved c =
    lists-again _ _ _ _ _ c.loop-at.invariant c.scan_from.ensures c.in_ok-at.was c.if-at-run.false c.list_at.ensures c.requires c.in_ok-count.was
