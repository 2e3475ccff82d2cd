-- What a look at n numbers of a list at once comes to.
use Prim.Native.Nat.{ℕ, zero, suc, ◌+◌, ◌-◌, ◌≤◌}
use native.Mathlib.Nat.{add-zero, add_assoc}
use native.Mathlib.Omega.{arith}
use mathlib.Core.Path.{◌≡◌, refl, sym, ap, ◌∙◌}
use mathlib.Core.Bool.{Bool, ◌||◌, or_assoc, or-false, or_self, or_comm}
use mathlib.Core.List.{List, [], ◌∷◌}
use lib.ListN.{length, get_or, drop, drop_of_length-le}
use lib.Seq.{drop-drop}
use lib.Dec.{eqb}
use Rattle.format.specs.Lookup.{is_on}
use Rattle.format.proofs.Laws.Lookup.{member-step}
use Rattle.format.specs.Inside.Some.{some_is}

-- one by one, as the code has them
pub some-of-sixteen : (xs : List ℕ) (x i : ℕ)
    → (((((((((((((((eqb (get_or xs i 0) x || eqb (get_or xs (i + 1) 0) x) || eqb (get_or xs (i + 2) 0) x) || eqb (get_or xs (i + 3) 0) x) || eqb (get_or xs (i + 4) 0) x) || eqb (get_or xs (i + 5) 0) x) || eqb (get_or xs (i + 6) 0) x) || eqb (get_or xs (i + 7) 0) x) || eqb (get_or xs (i + 8) 0) x) || eqb (get_or xs (i + 9) 0) x) || eqb (get_or xs (i + 10) 0) x) || eqb (get_or xs (i + 11) 0) x) || eqb (get_or xs (i + 12) 0) x) || eqb (get_or xs (i + 13) 0) x) || eqb (get_or xs (i + 14) 0) x) || eqb (get_or xs (i + 15) 0) x)
    ≡ some_is xs x i 16
unfolding some_is
some-of-sixteen xs x i = simp (or_assoc, or-false, add_assoc)

module _ (xs : List ℕ) (x : ℕ) where
  -- from i on: one of the n numbers, or one after them
  some-step : (n i : ℕ) → i + n ≤ length xs → is_on x (drop i xs) ≡ (some_is xs x i n || is_on x (drop (i + n) xs))
  unfolding some_is
  some-step zero i h = ap (λ (k : ℕ). is_on x (drop k xs)) (sym (add-zero i))
  some-step (suc n) i h =
      let after : i + 1 + n ≡ i + suc n = omega arith in
      member-step xs i x (omega arith)
      ∙ ap (λ (b : Bool). eqb (get_or xs i 0) x || b) (some-step n (i + 1) (omega arith) ∙ ap (λ (k : ℕ). some_is xs x (i + 1) n || is_on x (drop k xs)) after)
      ∙ sym (or_assoc (eqb (get_or xs i 0) x) _ _)

  -- so many numbers up to the list's end
  some-last : (n i : ℕ) → i + n ≡ length xs → some_is xs x i n ≡ is_on x (drop i xs)
  unfolding is_on
  some-last n i h =
      let whole : i + n ≤ length xs = omega arith in
      let past : length xs ≤ i + n = omega arith in
      sym (or-false (some_is xs x i n)) ∙ sym (some-step n i whole ∙ ap (λ (l : List ℕ). some_is xs x i n || is_on x l) (drop_of_length-le xs past))

-- what stands in a rest of the list stands in it
absorbed : (xs : List ℕ) (x k : ℕ) → (is_on x xs || is_on x (drop k xs)) ≡ is_on x xs
unfolding is_on
absorbed xs x zero = or_self (is_on x xs)
absorbed [] x (suc k) = refl
absorbed (y ∷ xs) x (suc k) = or_assoc (eqb y x) _ _ ∙ ap (λ (b : Bool). eqb y x || b) (absorbed xs x k)

-- what was found so far, all from `last` on being looked at: with what stands from i on it comes to the whole list
pub record Sought (xs : List ℕ) (x last i : ℕ) (found : Bool) : Type 0 where
  pub reached : last + 16 ≡ length xs
  pub ends : (found || is_on x (drop last xs)) ≡ found
  pub left : (found || is_on x (drop i xs)) ≡ is_on x xs

module _ {xs : List ℕ} {x last : ℕ} where
  pub sought-first : {found : Bool} → last + 16 ≡ length xs → found ≡ some_is xs x last 16 → Sought xs x last 0 found
  sought-first {found} h f =
      let found-last : found ≡ is_on x (drop last xs) = f ∙ some-last xs x 16 last h in
      record {
        reached = h;
        ends = ap (λ (b : Bool). found || b) (sym found-last) ∙ or_self found;
        left = ap (λ (b : Bool). b || is_on x xs) found-last ∙ or_comm (is_on x (drop last xs)) (is_on x xs) ∙ absorbed xs x last;
      }

  module _ {i : ℕ} {found : Bool} (so : Sought xs x last i found) where
    pub sought-next : {more : Bool} → i + 16 ≤ length xs → more ≡ some_is xs x i 16 → Sought xs x last (i + 16) (found || more)
    sought-next {more} h m =
        record {
          reached = so.reached;
          ends =
              or_assoc found more _ ∙ ap (λ (b : Bool). found || b) (or_comm more (is_on x (drop last xs))) ∙ sym (or_assoc found _ more)
              ∙ ap (λ (b : Bool). b || more) so.ends;
          left =
              or_assoc found more _ ∙ ap (λ (b : Bool). found || (b || is_on x (drop (i + 16) xs))) m
              ∙ ap (λ (b : Bool). found || b) (sym (some-step xs x 16 i h)) ∙ so.left;
        }

    pub sought-end : last ≤ i → found ≡ is_on x xs
    sought-end h =
        let past : last + (i - last) ≡ i = omega arith in
        let behind : drop (i - last) (drop last xs) ≡ drop i xs = drop-drop (i - last) last xs ∙ ap (λ (k : ℕ). drop k xs) past in
        let within : (is_on x (drop last xs) || is_on x (drop i xs)) ≡ is_on x (drop last xs) =
        ap (λ (l : List ℕ). is_on x (drop last xs) || is_on x l) (sym behind) ∙ absorbed (drop last xs) x (i - last) in
        sym so.ends ∙ ap (λ (b : Bool). found || b) (sym within) ∙ sym (or_assoc found _ _)
        ∙ ap (λ (b : Bool). b || is_on x (drop i xs)) so.ends ∙ so.left
