use borrow.Author.Tests.{not-true, not-false}
use Rattle.format.proofs.Laws.Settings.{vendors-low, vendors-bad, vendors-next, vendors-end}
use native.Mathlib.Omega.{arith}
use mathlib.Core.Path.{refl, sym, ◌∙◌}
use Rattle.format.proofs.settings.vendors_hold.Goals as goal

pub loop-n-init : goal.loop-n-init
loop-n-init c = (omega arith, refl)

pub returns-then-from-least : goal.returns-then-from-least
returns-then-from-least c = vendors-low _ _ _ c.loop-n-test.true (omega (arith, c.from.ensures)) ∙ c.loop-n.invariant.1

pub returns-then-not-vendor_number : goal.returns-then-not-vendor_number
returns-then-not-vendor_number c =
    vendors-bad _ _ _ c.loop-n-test.true (omega (arith, c.from.ensures)) (sym c.vendor_number.ensures ∙ not-true _ c.if-not-vendor_number.true-raw) ∙ c.loop-n.invariant.1

pub loop-n-preserved : goal.loop-n-preserved
loop-n-preserved c = (
  omega (arith, c.type_inv.vendors c.loop-n.n-index, c.from-least.ensures),
  rw c.from-least.ensures
      (vendors-next _ _ _ c.loop-n-test.true (omega (arith, c.from.ensures)) (sym c.vendor_number.ensures ∙ not-false _ c.if-not-vendor_number.false-raw) ∙ c.loop-n.invariant.1),
)

pub returns : goal.returns
returns c = vendors-end _ _ _ c.loop-n-test.false ∙ c.loop-n.invariant.1
