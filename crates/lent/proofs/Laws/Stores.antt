-- Elements stored one after the other: `sets t i vs` is what a room t holds once vs are stored from place i on, as far as they fit.
use Prim.Native.Nat.{ℕ, suc, ◌+◌, ◌-◌, ◌≤◌, ◌<◌}
use native.Mathlib.Nat.{add-zero, ne_of_lt}
use native.Mathlib.Numerals.{add-one}
use native.Mathlib.Omega.{arith}
use mathlib.Core.Path.{◌≡◌, refl, sym, ap, ◌∙◌}
use mathlib.Core.List.{List, [], ◌∷◌, ◌++◌, append-nil, append_assoc}
use lib.ListN.{length, get_or, take, drop, set, length-set, length-drop, take-append-drop, drop_of_length-le, get_or-append, get_or-eq_default}
use lib.Seq.{set_out, set-set, set_comm, drop-cons, drop-set-add, take-set-le, take_all, get_or-set_other, get_or-append-add, length-take-le, sets, sets-eq}

-- what lies past the end is 0
pub word_none : (t : List ℕ) (i : ℕ) → length t ≤ i → 0 ≡ get_or t i 0
word_none t i h = sym (get_or-eq_default t 0 h)

-- ---- runs of stores

-- one run after the other is one run
pub sets-append : {A : Type 0} (t : List A) (i : ℕ) (xs ys : List A) → sets t i (xs ++ ys) ≡ sets (sets t i xs) (i + length xs) ys
sets-append t i [] ys = rw add-zero
sets-append t i (x ∷ xs) ys =
    let next : suc i + length xs ≡ i + suc (length xs) = omega arith in
    sets-append (set t i x) (suc i) xs ys ∙ ap (λ (k : ℕ). sets (sets (set t i x) (suc i) xs) k ys) next

-- past the end nothing is stored
pub sets-out : (t : List ℕ) (i : ℕ) (vs : List ℕ) → length t ≤ i → sets t i vs ≡ t
sets-out t i [] h = refl
sets-out t i (v ∷ vs) h = rw (set_out t i v h) (sets-out t (suc i) vs (omega arith))

-- what lies before a run is as it was
pub sets-before : (t : List ℕ) (i : ℕ) (vs : List ℕ) (k : ℕ) → k < i → get_or (sets t i vs) k 0 ≡ get_or t k 0
sets-before t i [] k h = refl
sets-before t i (v ∷ vs) k h = sets-before (set t i v) (suc i) vs k (omega arith) ∙ get_or-set_other t i k v 0 (ne_of_lt h)

-- what lies after a run is as it was
pub sets-after : (t : List ℕ) (i : ℕ) (vs : List ℕ) (k : ℕ) → i + length vs ≤ k → get_or (sets t i vs) k 0 ≡ get_or t k 0
sets-after t i [] k h = refl
sets-after t i (v ∷ vs) k h = sets-after (set t i v) (suc i) vs k (omega arith) ∙ get_or-set_other t i k v 0 (omega arith)

-- a run that fits is read back
pub sets-back : (t : List ℕ) (i : ℕ) (vs : List ℕ) (k : ℕ) → i + length vs ≤ length t → k < length vs → get_or (sets t i vs) (i + k) 0 ≡ get_or vs k 0
sets-back t i vs k h l =
    let front : length (take i t) ≡ i = length-take-le i t (omega arith) in
    ap (λ (u : List ℕ). get_or u (i + k) 0) (sets-eq vs t i h ∙ append_assoc (take i t) vs (drop (i + length vs) t))
    ∙ ap (λ (p : ℕ). get_or (take i t ++ (vs ++ drop (i + length vs) t)) (p + k) 0) (sym front)
    ∙ get_or-append-add (take i t) (vs ++ drop (i + length vs) t) k 0
    ∙ get_or-append vs (drop (i + length vs) t) 0 k l

-- a store before a run, and the run, in either order
set-before-sets : (t : List ℕ) (i k : ℕ) (v : ℕ) (vs : List ℕ) → i < k → set (sets t k vs) i v ≡ sets (set t i v) k vs
set-before-sets t i k v [] h = refl
set-before-sets t i k v (x ∷ xs) h =
    set-before-sets (set t k x) i (suc k) v xs (omega arith)
    ∙ ap (λ (u : List ℕ). sets u (suc k) xs) (set_comm t k i x v (λ e. omega arith))

-- a run over another of as many elements: the other is gone
pub sets_over : (t : List ℕ) (i : ℕ) (vs ws : List ℕ) → length vs ≡ length ws → sets (sets t i vs) i ws ≡ sets t i ws
sets_over t i [] ws e = refl
sets_over t i (v ∷ vs) [] e = absurd (omega arith)
sets_over t i (v ∷ vs) (w ∷ ws) e =
    ap (λ (u : List ℕ). sets u (suc i) ws) (set-before-sets (set t i v) i (suc i) w vs (omega arith))
    ∙ ap (λ (u : List ℕ). sets (sets u (suc i) vs) (suc i) ws) (set-set t i v w)
    ∙ sets_over (set t i w) (suc i) vs ws (omega arith)

-- ---- a lent rest

sets-skip : (l : List ℕ) (n i : ℕ) (xs : List ℕ) → take n l ++ sets (drop n l) i xs ≡ sets l (n + i) xs
sets-skip l n i [] = take-append-drop n l
sets-skip l n i (x ∷ xs) =
    let far : n ≤ n + i = omega arith in
    let next : n + suc i ≡ suc (n + i) = omega arith in
    rw (← drop-set-add n l i x, ← take-set-le n l (n + i) x far) (sets-skip (set l (n + i) x) n (suc i) xs) ∙ ap (λ (k : ℕ). sets (set l (n + i) x) k xs) next

-- what is stored in the rest of a list is stored in the list, from the rest's place on
pub sets-rest : (l : List ℕ) (n : ℕ) (xs : List ℕ) {part : List ℕ} → part ≡ sets (take (length l - n) (drop n l)) 0 xs
    → take n l ++ (part ++ drop (length l - n) (drop n l)) ≡ sets l n xs
sets-rest l n xs {part} p =
    let rest-is : take (length l - n) (drop n l) ≡ drop n l = take_all (length l - n) (drop n l) (omega (arith, length-drop n l)) in
    let rest-ends : drop (length l - n) (drop n l) ≡ [] = drop_of_length-le (drop n l) {i = length l - n} (omega (arith, length-drop n l)) in
    rw (rest-ends, append-nil part, p, rest-is) (sets-skip l n 0 xs) ∙ ap (λ (k : ℕ). sets l k xs) (add-zero n)

-- ---- the loop that stores words: what is left to store comes to the whole

pub record Storing {A : Type 0} (t₀ : List A) (at : ℕ) (words t : List A) (i : ℕ) : Type 0 where
  pub same_length : length t ≡ length t₀
  pub left : sets t (at + i) (drop i words) ≡ sets t₀ at words

pub storing-begins : {A : Type 0} (t : List A) (at : ℕ) (words : List A) → Storing t at words t 0
storing-begins t at words = record { same_length = refl; left = ap (λ (k : ℕ). sets t k words) (add-zero at) }

module _ {A : Type 0} {t₀ : List A} {at : ℕ} {words t : List A} {i : ℕ} (w : Storing t₀ at words t i) where
  -- v is the element of the words at i, so that nothing needs to stand past their end
  pub storing-on : {t' : List A} {v : A} → i < length words → v ≡ get_or words i v → t' ≡ set t (at + i) v → Storing t₀ at words t' (i + 1)
  storing-on {t'} {v} h q p =
      let next : at + (i + 1) ≡ suc (at + i) = omega arith in
      record {
        same_length = ap length p ∙ length-set t (at + i) v ∙ w.same_length;
        left =
            ap (λ (u : List A). sets u (at + (i + 1)) (drop (i + 1) words)) p
            ∙ ap (λ (k : ℕ). sets (set t (at + i) v) k (drop (i + 1) words)) next
            ∙ ap (λ (k : ℕ). sets (set t (at + i) v) (suc (at + i)) (drop k words)) (add-one i)
            ∙ ap (λ (x : A). sets (set t (at + i) x) (suc (at + i)) (drop (suc i) words)) q
            ∙ sym (ap (λ (vs : List A). sets t (at + i) vs) (drop-cons words i v h))
            ∙ w.left;
      }

  pub storing-ends : length words ≤ i → t ≡ sets t₀ at words
  storing-ends h = sym (ap (λ (vs : List A). sets t (at + i) vs) (drop_of_length-le words h)) ∙ w.left
