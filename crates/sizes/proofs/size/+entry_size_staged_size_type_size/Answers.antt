use Rattle.sizes.specs.Size.{type_size}
use Rattle.sizes.proofs.Laws.Exit.{exit-said}
use Rattle.sizes.proofs.Laws.Size.{found-asked, entry-deep, entry_row, entry-missing, type-pointer, type-fundamental, type-user}
use Rattle.sizes.proofs.Laws.Stage.{waiting-begins, begin-staged, waiting-as, waiting-size, waiting-refused, type-unsaid, waiting-on, waiting-less}
use native.Mathlib.Omega.{arith}
use Rattle.std.specs.Prelude.{Ok}
use mathlib.Core.Path.{◌≡◌, ap, ◌∙◌}
use Rattle.sizes.proofs.size.+entry_size_staged_size_type_size.Goals as goal

pub entry_size-find_row-requires : goal.entry_size-find_row-requires
entry_size-find_row-requires t c = c.requires.table.rising

pub entry_size-returns-in_default : goal.entry_size-returns-in_default
entry_size-returns-in_default t c = entry-missing _ _ _ _ _ _ _ _ c.find_row.ensures c.in_default.is c.refused.ensures

pub entry_size-returns-then-levels-eq0 : goal.entry_size-returns-then-levels-eq0
entry_size-returns-then-levels-eq0 t c = entry-deep _ _ _ _ _ _ _ _ c.find_row.ensures c.in-Some.is c.if-levels-eq0.true c.refused-then-levels-eq0.ensures

pub entry_size-staged_size-requires : goal.entry_size-staged_size-requires
entry_size-staged_size-requires t c = (omega (arith, c.decreases, c.if-levels-eq0.false), found-asked c.requires _ c.find_row.ensures c.in-Some.is)

pub entry_size-returns : goal.entry_size-returns
entry_size-returns t c = entry_row _ _ _ _ _ _ _ _ c.find_row.ensures c.in-Some.is c.if-levels-eq0.false c.staged_size.ensures

pub staged_size-next_stage-requires : goal.staged_size-next_stage-requires
staged_size-next_stage-requires t c = begin-staged _ _ _ _ _ _ c.requires

pub staged_size-returns-in_err-wait : goal.staged_size-returns-in_err-wait
staged_size-returns-in_err-wait t c =
    exit-said _ _ c.from_residual.ensures.1
    ∙ waiting-refused _ _ _ _ _ _ _ (waiting-begins _ _ _ _ _ _ _ _ c.next_stage.ensures) c.in_err-wait.was

pub staged_size-loop-wait-init : goal.staged_size-loop-wait-init
staged_size-loop-wait-init t c = waiting-as _ _ _ _ _ _ _ (waiting-begins _ _ _ _ _ _ _ _ c.next_stage.ensures) c.in_ok-wait.was

pub staged_size-returns-in-Nothing : goal.staged_size-returns-in-Nothing
staged_size-returns-in-Nothing t c = waiting-size _ _ _ _ _ _ _ c.loop-wait.invariant (ap Ok c.in-Nothing.is)

pub staged_size-type_size-requires : goal.staged_size-type_size-requires
staged_size-type_size-requires t c = (omega (arith, c.decreases), record { table = c.requires.asked.table; short = c.requires.short })

pub staged_size-returns-in_err-size-in-Type : goal.staged_size-returns-in_err-size-in-Type
staged_size-returns-in_err-size-in-Type t c =
    exit-said _ _ c.from_residual-in_err-size-in-Type.ensures.1
    ∙ type-unsaid _ _ _ _ _ _ _ c.loop-wait.invariant (ap Ok c.in-Type.is) c.type_size.ensures c.in_err-size-in-Type.was

pub staged_size-next_stage-requires-in-Type : goal.staged_size-next_stage-requires-in-Type
staged_size-next_stage-requires-in-Type t c = c.loop-wait.invariant.staged (ap Ok c.in-Type.is)

pub staged_size-returns-in_err-wait-in-Type : goal.staged_size-returns-in_err-wait-in-Type
staged_size-returns-in_err-wait-in-Type t c =
    exit-said _ _ c.from_residual-in_err-wait-in-Type.ensures.1
    ∙ waiting-refused _ _ _ _ _ _ _
    (waiting-on _ _ _ _ _ _ _ c.loop-wait.invariant (ap Ok c.in-Type.is) c.type_size.ensures c.in_ok-size-in-Type.was c.next_stage-in-Type.ensures)
    c.in_err-wait-in-Type.was

pub staged_size-loop-wait-smaller : goal.staged_size-loop-wait-smaller
staged_size-loop-wait-smaller t c =
    waiting-less _ _ _ _ _ _ _ c.loop-wait.invariant (ap Ok c.in-Type.is) c.type_size.ensures c.in_ok-size-in-Type.was c.next_stage-in-Type.ensures c.in_ok-wait-in-Type.was

pub staged_size-loop-wait-preserved : goal.staged_size-loop-wait-preserved
staged_size-loop-wait-preserved t c =
    waiting-as _ _ _ _ _ _ _
    (waiting-on _ _ _ _ _ _ _ c.loop-wait.invariant (ap Ok c.in-Type.is) c.type_size.ensures c.in_ok-size-in-Type.was c.next_stage-in-Type.ensures)
    c.in_ok-wait-in-Type.was

pub type_size-returns-then-of : goal.type_size-returns-then-of
unfolding type_size
type_size-returns-then-of t c = type-pointer _ _ _ c.if-of.true

pub type_size-entry_size-requires : goal.type_size-entry_size-requires
type_size-entry_size-requires t c = (omega (arith, c.decreases), c.requires)

pub type_size-returns-in-Fundamental : goal.type_size-returns-in-Fundamental
unfolding type_size
type_size-returns-in-Fundamental t c = type-fundamental _ _ _ c.if-of.false c.in-Fundamental.is c.fundamental_size.ensures

pub type_size-returns-in-UserDefined : goal.type_size-returns-in-UserDefined
unfolding type_size
type_size-returns-in-UserDefined t c = type-user _ _ _ c.if-of.false c.in-UserDefined.is c.entry_size.ensures
