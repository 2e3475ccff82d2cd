-- Tests of numbers as truth values, for every crate's laws.
use Prim.Native.Nat.{ℕ, ◌≤◌, ◌<◌}
use native.Mathlib.Nat.{lt_of_not-le}
use native.Mathlib.Decide.{dec_le}
use mathlib.Core.Path.{◌≡◌, refl, sym, ◌∙◌}
use mathlib.Core.Bool.{Bool, true, false, cond}
use lib.Dec.{leb}
use borrow.Author.Tests.{le-leb, lt-leb}

-- two orders that hold together are the same test
pub same_test : (a b c d : ℕ) → (a ≤ b → c ≤ d) → (b < a → d < c) → leb a b ≡ leb c d
same_test a b c d f g =
    elim (dec_le a b) [ yes h ↦ le-leb a b h ∙ sym (le-leb c d (f h)) | no h ↦ let k : b < a = lt_of_not-le h in lt-leb a b k ∙ sym (lt-leb c d (g k)) ]

-- what holds of both cases of a choice holds of the choice
pub cond-all : {A : Type 0} (P : A → Type 0) (b : Bool) {x y : A} → (b ≡ true → P x) → (b ≡ false → P y) → P (cond b x y)
cond-all P true f g = f refl
cond-all P false f g = g refl

-- a function of a choice is a choice of its results
pub cond_map : {A B : Type 0} (f : A → B) (b : Bool) (x y : A) → f (cond b x y) ≡ cond b (f x) (f y)
cond_map f true x y = refl
cond_map f false x y = refl
