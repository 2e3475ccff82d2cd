-- What follows from `Gaps`.
use Rattle.std.specs.Prelude.{Option, Some, None}
use Prim.Native.Nat.{ℕ, ◌+◌, ◌-◌, ◌≤◌, ◌<◌}
use native.Mathlib.Omega.{arith}
use mathlib.Core.Path.{◌≡◌, sym, ap}
use lib.Dec.{ltb}
use borrow.Author.Tests.{lt-ltb, le-ltb, ltb-true, ltb-false}
use Rattle.numbers.proofs.Laws.Tests.{cond-all}
use Rattle.layouts.specs.declared.gaps.Gap.{Gap}
use Rattle.layouts.specs.Gaps.{gap, gap_between, reach_with}

-- the code's two ways, of each
pub gap-found : (reached place : ℕ) → reached < place → Some (gap reached (place - reached)) ≡ gap_between reached place
unfolding gap_between
gap-found reached place h = rw (lt-ltb reached place h)

pub no_gap : (reached place : ℕ) → place ≤ reached → None ≡ gap_between reached place
unfolding gap_between
no_gap reached place h = rw (le-ltb reached place h)

pub reach-grows : (reached offset size : ℕ) → reached < offset + size → offset + size ≡ reach_with reached offset size
unfolding reach_with
reach-grows reached offset size h = rw (lt-ltb reached (offset + size) h)

pub reach-stays : (reached offset size : ℕ) → offset + size ≤ reached → reached ≡ reach_with reached offset size
unfolding reach_with
reach-stays reached offset size h = rw (le-ltb reached (offset + size) h)

-- a hole has the bytes from what was reached to the place, no more and no less
pub hole-fills : (reached place at bytes : ℕ) → gap_between reached place ≡ Some (gap at bytes) → (at ≡ reached) × (at + bytes ≡ place)
unfolding gap_between
hole-fills reached place at bytes =
    cond-all
    (λ (g : Option Gap). g ≡ Some (gap at bytes) → (at ≡ reached) × (at + bytes ≡ place))
    (ltb reached place)
    (λ t p. let same : gap reached (place - reached) ≡ gap at bytes = cc in
    let a : reached ≡ at = ap (λ (g : Gap). g.at) same in
    let b : place - reached ≡ bytes = ap (λ (g : Gap). g.bytes) same in
    (sym a, omega (arith, ltb-true reached place t)))
    (λ t p. let z : ◌≡◌ {A = ℕ} 0 1 = cc in absurd (omega arith))

-- there is none only where the place is not past what was reached
pub none_left : (reached place : ℕ) → gap_between reached place ≡ None → place ≤ reached
unfolding gap_between
none_left reached place =
    cond-all
    (λ (g : Option Gap). g ≡ None → place ≤ reached)
    (ltb reached place)
    (λ t p. let z : ◌≡◌ {A = ℕ} 0 1 = cc in absurd (omega arith))
    (λ t p. ltb-false reached place t)

-- what is reached holds what was reached before and the member's end
pub reach-covers : (reached offset size : ℕ) → (reached ≤ reach_with reached offset size) × (offset + size ≤ reach_with reached offset size)
unfolding reach_with
reach-covers reached offset size =
    cond-all
    (λ (r : ℕ). (reached ≤ r) × (offset + size ≤ r))
    (ltb reached (offset + size))
    (λ t. let h : reached < offset + size = ltb-true reached (offset + size) t in (omega arith, omega arith))
    (λ t. let h : offset + size ≤ reached = ltb-false reached (offset + size) t in (omega arith, omega arith))
