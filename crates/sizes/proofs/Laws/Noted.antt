-- What follows from `Noted`, for each way that the code comes to an answer.
use Rattle.std.specs.Prelude.{Result}
use Prim.Native.Nat.{ℕ, suc, ◌+◌, ◌*◌, ◌%◌, ◌≤◌, ◌<◌}
use native.Mathlib.Nat.{add-zero}
use native.Mathlib.Decide.{dec_le}
use native.Mathlib.Omega.{arith}
use mathlib.Core.Logic.{◌⊎◌, inl, inr}
use mathlib.Core.Path.{◌≡◌, sym, ap, ap₂, ◌∙◌, subst}
use mathlib.Core.Bool.{true, false}
use mathlib.Core.List.{List, [], ◌∷◌}
use lib.ListN.{length, get_or, set, get_or-eq_default}
use lib.Seq.{sets, length-sets}
use lib.Dec.{eqb}
use borrow.Author.Tests.{eq-eqb, ne_eqb}
use Rattle.format.specs.Refusal.{number_of, reason_of}
use Rattle.format.proofs.Laws.Refusal.{reason-of-number, number-some}
use Rattle.format.specs.Said.{Said, gives, refuse, refusal, said}
use Rattle.format.specs.declared.refusal.Refusal.{Refusal}
use Rattle.format.specs.declared.refusal.Reason.{Reason}
use Rattle.lent.proofs.Laws.Stores.{sets-before, sets-after, sets-back}
use Rattle.sizes.specs.Inside.Noted.{noted_width, noted_at, PutNoted}

module _ (noted : List ℕ) (i : ℕ) where
  -- past the end a size is 0
  pub noted-past : length noted ≤ i → gives 0 ≡ noted_at noted i
  unfolding noted_at
  noted-past h =
      let none : get_or noted (i * 3) 0 ≡ 0 = get_or-eq_default noted 0 (omega arith) in
      let size : get_or noted (i * 3 + 1) 0 ≡ 0 = get_or-eq_default noted 0 (omega arith) in
      rw (none, size)

  module _ {number : ℕ} (is : number ≡ get_or noted (i * 3) 0) where
    pub noted-size : number ≡ 0 → {size : ℕ} → size ≡ get_or noted (i * 3 + 1) 0 → gives (size % 4294967296) ≡ noted_at noted i
    unfolding noted_at
    noted-size h {size} p =
        let test : eqb (get_or noted (i * 3) 0) 0 ≡ true = eq-eqb (get_or noted (i * 3) 0) 0 (sym is ∙ h) in
        rw test (ap (λ (x : ℕ). gives (x % 4294967296)) p)

    pub noted-refused : (number ≡ 0 → ⊥) → {why : Reason} {place : ℕ} → why ≡ reason_of (number % 4294967296) → place ≡ get_or noted (i * 3 + 2) 0
        → refuse why place ≡ noted_at noted i
    unfolding noted_at
    noted-refused h p q =
        let test : eqb (get_or noted (i * 3) 0) 0 ≡ false = ne_eqb (get_or noted (i * 3) 0) 0 (λ z. h (is ∙ z)) in
        rw test (ap₂ (λ (why : Reason) (place : ℕ). refuse why place) (p ∙ ap (λ (x : ℕ). reason_of (x % 4294967296)) is) q)

-- ---- the words of a size

pub three-put : (t : List ℕ) (at a b d : ℕ) {t₁ t₂ t₃ : List ℕ} → t₁ ≡ set t at a → t₂ ≡ set t₁ (at + 1) b → t₃ ≡ set t₂ (at + 2) d
    → t₃ ≡ sets t at (a ∷ b ∷ d ∷ [])
three-put t at a b d p q r =
    let one : at + 1 ≡ suc at = omega arith in
    let two : at + 2 ≡ suc (suc at) = omega arith in
    r ∙ rw (q, p, one, two)

pub noted-same : (a b : List ℕ) (i : ℕ) → get_or a (i * 3) 0 ≡ get_or b (i * 3) 0 → get_or a (i * 3 + 1) 0 ≡ get_or b (i * 3 + 1) 0
    → get_or a (i * 3 + 2) 0 ≡ get_or b (i * 3 + 2) 0 → noted_at a i ≡ noted_at b i
unfolding noted_at
noted-same a b i p q r = rw (p, q, r)

module _ (noted : List ℕ) {noted' : List ℕ} (i a b d : ℕ) (fits : i * noted_width + noted_width ≤ length noted)
    (p : noted' ≡ sets noted (i * noted_width) (a ∷ b ∷ d ∷ [])) where
  back : (k : ℕ) → k < 3 → get_or noted' (i * 3 + k) 0 ≡ get_or (a ∷ b ∷ d ∷ []) k 0
  back k l = ap (λ (u : List ℕ). get_or u (i * 3 + k) 0) p ∙ sets-back noted (i * 3) (a ∷ b ∷ d ∷ []) k fits l

  first_word : get_or noted' (i * 3) 0 ≡ a
  first_word = ap (λ (k : ℕ). get_or noted' k 0) (sym (add-zero (i * 3))) ∙ back 0 (omega arith)

  word-other : (k : ℕ) → (k < i * 3) ⊎ (i * 3 + 3 ≤ k) → get_or noted' k 0 ≡ get_or noted k 0
  word-other k (inl l) = ap (λ (u : List ℕ). get_or u k 0) p ∙ sets-before noted (i * 3) (a ∷ b ∷ d ∷ []) k l
  word-other k (inr l) = ap (λ (u : List ℕ). get_or u k 0) p ∙ sets-after noted (i * 3) (a ∷ b ∷ d ∷ []) k l

  row_other : (j : ℕ) → (j ≡ i → ⊥) → noted_at noted' j ≡ noted_at noted j
  row_other j h =
      elim (dec_le j i) [
        | yes l ↦ noted-same noted' noted j (word-other (j * 3) (inl (omega (arith, h)))) (word-other (j * 3 + 1) (inl (omega (arith, h))))
            (word-other (j * 3 + 2) (inl (omega (arith, h))))
        | no l ↦ noted-same noted' noted j (word-other (j * 3) (inr (omega arith))) (word-other (j * 3 + 1) (inr (omega arith)))
            (word-other (j * 3 + 2) (inr (omega arith)))
      ]

  put_as : {size : Said ℕ} → noted_at noted' i ≡ size → PutNoted i size noted noted'
  put_as q = record { here = q; others = row_other; same_long = ap length p ∙ length-sets noted (i * 3) (a ∷ b ∷ d ∷ []) }

pub put-size : (noted : List ℕ) {noted' : List ℕ} (i size : ℕ) → i * noted_width + noted_width ≤ length noted → size < 4294967296
    → noted' ≡ sets noted (i * noted_width) (0 ∷ size ∷ 0 ∷ []) → PutNoted i (gives size) noted noted'
unfolding noted_at
put-size noted {noted'} i size fits small p =
    let none : get_or noted' (i * 3) 0 ≡ 0 = first_word noted i 0 size 0 fits p in
    let one : get_or noted' (i * 3 + 1) 0 ≡ size = back noted i 0 size 0 fits p 1 (omega arith) in
    let less : size % 4294967296 ≡ size = omega arith in
    put_as noted i 0 size 0 fits p (rw (none, one) (ap gives less))

pub put-refusal : (noted : List ℕ) {noted' : List ℕ} (i number : ℕ) (why : Refusal) → i * noted_width + noted_width ≤ length noted → number ≡ number_of why.reason
    → noted' ≡ sets noted (i * noted_width) (number ∷ 0 ∷ why.place ∷ []) → PutNoted i (refusal why) noted noted'
unfolding noted_at
put-refusal noted {noted'} i number why fits is p =
    let some : (0 < number_of why.reason) × (number_of why.reason ≤ 20) = number-some why.reason in
    let more : 0 < number_of why.reason = some.0 in
    let few : number_of why.reason ≤ 20 = some.1 in
    let head : get_or noted' (i * 3) 0 ≡ number = first_word noted i number 0 why.place fits p in
    let last : get_or noted' (i * 3 + 2) 0 ≡ why.place = back noted i number 0 why.place fits p 2 (omega arith) in
    let test : eqb number 0 ≡ false = ne_eqb number 0 (λ z. omega (arith, z)) in
    let less : number % 4294967296 ≡ number_of why.reason = omega arith in
    put_as noted i number 0 why.place fits p (rw (head, test, last, less, reason-of-number why.reason))

pub put_same : {i : ℕ} {size size' : Result ℕ Refusal} {noted noted' : List ℕ} → size ≡ size' → PutNoted i (said size') noted noted'
    → PutNoted i (said size) noted noted'
put_same {i} {size} {size'} {noted} {noted'} p g = subst (λ (x : Result ℕ Refusal). PutNoted i (said x) noted noted') (sym p) g
