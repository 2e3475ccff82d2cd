-- What follows from `Prefix`, by index.
use Prim.Native.Nat.{ℕ, ◌+◌, ◌≤◌, ◌<◌}
use native.Mathlib.Nat.{not-suc-le-zero, le_of_suc-le-suc}
use native.Mathlib.Numerals.{add-one}
use mathlib.Core.Path.{◌≡◌, refl, sym}
use mathlib.Core.Bool.{Bool, true, false, cond, ◌&&◌}
use mathlib.Core.List.{List, [], ◌∷◌}
use lib.ListN.{length, get_or, drop, drop_of_length-le}
use lib.Seq.{drop-cons}
use lib.Dec.{eqb}
use borrow.Author.Tests.{eq-eqb, ne_eqb}
use Rattle.numbers.proofs.Laws.Tests.{cond-all}
use Rattle.std.specs.List.{starts_with}
use Rattle.numbers.specs.Prefix.{begins_with}

-- what std's test comes to
pub starts : (fixed text : List ℕ) → starts_with eqb text fixed ≡ begins_with fixed text
unfolding begins_with
starts [] text = refl
starts (x ∷ fixed) [] = refl
starts (x ∷ fixed) (y ∷ text) = rw (starts fixed text) (chosen (eqb x y) (begins_with fixed text))
  where
    chosen : (b r : Bool) → b && r ≡ cond b r false
    chosen true r = refl
    chosen false r = refl

-- fewer bytes than the fixed ones do not begin with them
pub too_few : (fixed text : List ℕ) → length text < length fixed → false ≡ begins_with fixed text
unfolding begins_with
too_few [] text h = absurd (not-suc-le-zero h)
too_few (x ∷ fixed) [] h = refl
too_few (x ∷ fixed) (y ∷ text) h = cond-all (λ (r : Bool). false ≡ r) (eqb x y) (λ p. too_few fixed text (le_of_suc-le-suc h)) (λ p. refl)

module _ (fixed text : List ℕ) (i : ℕ) (in-fixed : i < length fixed) (in-text : i < length text) where
  -- from i on: an unequal byte decides, an equal one leaves the rest
  pub unequal : (get_or text i 0 ≡ get_or fixed i 0 → ⊥) → false ≡ begins_with (drop i fixed) (drop i text)
  unfolding begins_with
  unequal h = rw (drop-cons fixed i 0, drop-cons text i 0, ne_eqb (get_or fixed i 0) (get_or text i 0) (λ e. h (sym e)))

  pub equal : get_or text i 0 ≡ get_or fixed i 0 → begins_with (drop i fixed) (drop i text) ≡ begins_with (drop (i + 1) fixed) (drop (i + 1) text)
  unfolding begins_with
  equal h = rw (add-one, drop-cons fixed i 0, drop-cons text i 0, eq-eqb (get_or fixed i 0) (get_or text i 0) (sym h))

-- past the fixed bytes all are found
pub all-equal : (fixed text : List ℕ) (i : ℕ) → length fixed ≤ i → true ≡ begins_with (drop i fixed) (drop i text)
unfolding begins_with
all-equal fixed text i h = rw (drop_of_length-le fixed h)
