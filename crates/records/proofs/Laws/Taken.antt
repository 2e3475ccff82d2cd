-- What follows from `Taken`, for each way that the code comes to an answer.
use mathlib.Core.Path.{◌≡◌, sym, ap, ◌∙◌}
use mathlib.Core.Bool.{Bool, true, false, cond}

-- ---- for every definition: a case that a `match` told, and the two ways of a test

pub by-case : {A B : Type 0} (f : A → B) {x y : A} {r : B} → x ≡ y → r ≡ f y → r ≡ f x
by-case f p h = h ∙ ap f (sym p)

module _ {A : Type 0} {b test : Bool} {r : A} (is : b ≡ test) where
  pub test-passed : {x : A} (y : A) → b ≡ true → r ≡ x → r ≡ cond test x y
  test-passed {x} y t h = h ∙ ap (λ (c : Bool). cond c x y) (sym t ∙ is)

  pub test-failed : (x : A) {y : A} → b ≡ false → r ≡ y → r ≡ cond test x y
  test-failed x {y} t h = h ∙ ap (λ (c : Bool). cond c x y) (sym t ∙ is)
