-- A reason and its number: no two share one, and none has 14.
use Prim.Native.Nat.{ℕ, ◌≤◌, ◌<◌}
use native.Mathlib.Omega.{arith}
use mathlib.Core.Path.{◌≡◌, refl, sym, ap, ◌∙◌}
use mathlib.Core.Bool.{cond}
use mathlib.Core.List.{List, [], ◌∷◌, ◌++◌}
use lib.ListN.{take, drop, take-append-drop}
use lib.Dec.{eqb}
use borrow.Author.Tests.{ne_eqb}
use Rattle.format.specs.Lookup.{Line, ◌means◌, lookup}
use Rattle.format.specs.declared.refusal.Reason.{Reason}
use Rattle.format.specs.declared.refusal.Reason.TheVariants.{Settings, Long, Table, Short, Tag, Attribute, Nested, Room, Link, Depth, Entry, Kind, Extra, Missing, Child, Block, Number, Bound, Big}
use Rattle.format.specs.Refusal.{number_of, reasons, reason_of}

-- a reason is that of its number
pub reason-of-number : (why : Reason) → reason_of (number_of why) ≡ why
unfolding reason_of number_of reasons lookup
reason-of-number Settings = refl
reason-of-number Long = refl
reason-of-number Table = refl
reason-of-number Short = refl
reason-of-number Tag = refl
reason-of-number Attribute = refl
reason-of-number Nested = refl
reason-of-number Room = refl
reason-of-number Link = refl
reason-of-number Depth = refl
reason-of-number Entry = refl
reason-of-number Kind = refl
reason-of-number Extra = refl
reason-of-number Missing = refl
reason-of-number Child = refl
reason-of-number Block = refl
reason-of-number Number = refl
reason-of-number Bound = refl
reason-of-number Big = refl

-- no reason's number is 0, and each is small
pub number-some : (why : Reason) → (0 < number_of why) × (number_of why ≤ 20)
unfolding number_of
number-some Settings = ((omega arith), (omega arith))
number-some Long = ((omega arith), (omega arith))
number-some Table = ((omega arith), (omega arith))
number-some Short = ((omega arith), (omega arith))
number-some Tag = ((omega arith), (omega arith))
number-some Attribute = ((omega arith), (omega arith))
number-some Nested = ((omega arith), (omega arith))
number-some Room = ((omega arith), (omega arith))
number-some Link = ((omega arith), (omega arith))
number-some Depth = ((omega arith), (omega arith))
number-some Entry = ((omega arith), (omega arith))
number-some Kind = ((omega arith), (omega arith))
number-some Extra = ((omega arith), (omega arith))
number-some Missing = ((omega arith), (omega arith))
number-some Child = ((omega arith), (omega arith))
number-some Block = ((omega arith), (omega arith))
number-some Number = ((omega arith), (omega arith))
number-some Bound = ((omega arith), (omega arith))
number-some Big = ((omega arith), (omega arith))

-- 14 is no reason's number, so that no later reason can take it
pub never-fourteen : (why : Reason) → number_of why ≡ 14 → ⊥
unfolding number_of
never-fourteen Settings p = absurd (omega (arith, p))
never-fourteen Long p = absurd (omega (arith, p))
never-fourteen Table p = absurd (omega (arith, p))
never-fourteen Short p = absurd (omega (arith, p))
never-fourteen Tag p = absurd (omega (arith, p))
never-fourteen Attribute p = absurd (omega (arith, p))
never-fourteen Nested p = absurd (omega (arith, p))
never-fourteen Room p = absurd (omega (arith, p))
never-fourteen Link p = absurd (omega (arith, p))
never-fourteen Depth p = absurd (omega (arith, p))
never-fourteen Entry p = absurd (omega (arith, p))
never-fourteen Kind p = absurd (omega (arith, p))
never-fourteen Extra p = absurd (omega (arith, p))
never-fourteen Missing p = absurd (omega (arith, p))
never-fourteen Child p = absurd (omega (arith, p))
never-fourteen Block p = absurd (omega (arith, p))
never-fourteen Number p = absurd (omega (arith, p))
never-fourteen Bound p = absurd (omega (arith, p))
never-fourteen Big p = absurd (omega (arith, p))

-- it is read as any number that is none
pub fourteen-none : reason_of 14 ≡ reason_of 0
unfolding reason_of reasons lookup
fourteen-none = refl

-- ---- the other numbers are read as before

-- a line of a table says nothing of other numbers
line-out : {A : Type 0} (before after : List (Line A)) (l : Line A) (other : A) (n : ℕ) → (l.number ≡ n → ⊥)
    → lookup (before ++ (l ∷ after)) other n ≡ lookup (before ++ after) other n
unfolding lookup
line-out [] after l other n apart = rw (ne_eqb l.number n apart)
line-out (x ∷ before) after l other n apart = ap (cond (eqb x.number n) x.meaning) (line-out before after l other n apart)

-- with a line for 14 in its place, whatever it says, the table gives every other number the reason that it gives without
pub reason_kept : (why : Reason) (n : ℕ) → (n ≡ 14 → ⊥) → lookup (take 12 reasons ++ ((14 means why) ∷ drop 12 reasons)) Settings n ≡ reason_of n
unfolding reason_of reasons
reason_kept why n apart =
    line-out (take 12 reasons) (drop 12 reasons) (14 means why) Settings n (λ p. apart (sym p)) ∙ ap (λ (ls : List (Line Reason)). lookup ls Settings n) (take-append-drop 12 reasons)
