-- Things of so many words each, one after the other in a table: what holds of rows and of attributes alike. `Row` says it of each.
use Prim.Native.Nat.{ℕ, zero, suc, ◌+◌, ◌*◌, ◌≤◌, ◌<◌}
use native.Mathlib.Nat.{le_refl, add-mul, zero-mul, suc-mul}
use native.Mathlib.Numerals.{add-one}
use native.Mathlib.Omega.{arith}
use mathlib.Core.Path.{◌≡◌, sym, ap, ap₂, ◌∙◌}
use mathlib.Core.List.{List, [], ◌∷◌, ◌++◌, append_assoc}
use lib.ListN.{length, get_or, length-append}
use lib.Seq.{sets, length-sets}
use Rattle.lent.proofs.Laws.Stores.{sets-append, sets-before, sets-back}

-- how a thing is written in words, and a list of them; how the thing at a place is read, and so many from there on
pub record Kind (A : Type 0) : Type 0 where
  pub width : ℕ
  pub words : A → List ℕ
  pub all : List A → List ℕ
  pub one : List ℕ → ℕ → A
  pub from : List ℕ → ℕ → ℕ → List A
  pub words_length : (x : A) → length (words x) ≡ width
  pub all_none : all [] ≡ []
  pub all_more : (x : A) (xs : List A) → all (x ∷ xs) ≡ words x ++ all xs
  pub from_none : (t : List ℕ) (i : ℕ) → from t i zero ≡ []
  pub from_more : (t : List ℕ) (i n : ℕ) → from t i (suc n) ≡ one t i ∷ from t (suc i) n
  -- only the words at its place are read, and they say it
  pub one_same : (t u : List ℕ) (i : ℕ) → ((k : ℕ) → k < width → get_or t (i * width + k) 0 ≡ get_or u (i * width + k) 0) → one t i ≡ one u i
  pub one_is : (t : List ℕ) (i : ℕ) (x : A) → ((k : ℕ) → k < width → get_or t (i * width + k) 0 ≡ get_or (words x) k 0) → one t i ≡ x

module _ {A : Type 0} (kind : Kind A) where
  -- a table with thing i stored
  abbrev put : List ℕ → ℕ → A → List ℕ
  put t i x = sets t (i * kind.width) (kind.words x)

  one_more : (i : ℕ) → (i + 1) * kind.width ≡ i * kind.width + kind.width
  one_more i = rw (add-one i, suc-mul i kind.width)

  -- a list takes so many words
  pub length-all : (xs : List A) → length (kind.all xs) ≡ length xs * kind.width
  length-all [] = ap length kind.all_none ∙ sym (zero-mul kind.width)
  length-all (x ∷ xs) =
      ap length (kind.all_more x xs) ∙ length-append (kind.words x) (kind.all xs)
      ∙ rw (kind.words_length x, length-all xs, suc-mul (length xs) kind.width) (omega arith)

  all_append : (xs ys : List A) → kind.all (xs ++ ys) ≡ kind.all xs ++ kind.all ys
  all_append [] ys = rw kind.all_none
  all_append (x ∷ xs) ys = rw (kind.all_more x (xs ++ ys), all_append xs ys, kind.all_more x xs, append_assoc)

  -- a stored thing and a run after it are one run
  put-append : (t : List ℕ) (i : ℕ) (x : A) (xs : List A)
      → sets (put t i x) ((i + 1) * kind.width) (kind.all xs) ≡ sets t (i * kind.width) (kind.all (x ∷ xs))
  put-append t i x xs =
      let after : i * kind.width + length (kind.words x) ≡ (i + 1) * kind.width = rw (kind.words_length x, one_more i) in
      sym (ap (λ (vs : List ℕ). sets t (i * kind.width) vs) (kind.all_more x xs)
      ∙ sets-append t (i * kind.width) (kind.words x) (kind.all xs)
      ∙ ap (λ (k : ℕ). sets (put t i x) k (kind.all xs)) after)

  -- two runs, one after the other, are one run
  pub runs_append : (t : List ℕ) (i : ℕ) (xs ys : List A)
      → sets t (i * kind.width) (kind.all (xs ++ ys))
      ≡ sets (sets t (i * kind.width) (kind.all xs)) ((i + length xs) * kind.width) (kind.all ys)
  runs_append t i xs ys =
      let after : i * kind.width + length (kind.all xs) ≡ (i + length xs) * kind.width = rw (length-all xs, add-mul i (length xs) kind.width) in
      ap (λ (vs : List ℕ). sets t (i * kind.width) vs) (all_append xs ys)
      ∙ sets-append t (i * kind.width) (kind.all xs) (kind.all ys)
      ∙ ap (λ (k : ℕ). sets (sets t (i * kind.width) (kind.all xs)) k (kind.all ys)) after

  -- a thing that fits is read back
  one-back : (t : List ℕ) (i : ℕ) (x : A) → (i + 1) * kind.width ≤ length t → kind.one (put t i x) i ≡ x
  one-back t i x h =
      let long : length (kind.words x) ≡ kind.width = kind.words_length x in
      let room : (i + 1) * kind.width ≡ i * kind.width + kind.width = one_more i in
      kind.one_is (put t i x) i x (λ k l. sets-back t (i * kind.width) (kind.words x) k (omega arith) (omega arith))

  -- what is stored behind it does not change it
  one_kept : (t : List ℕ) (i at : ℕ) (vs : List ℕ) → (i + 1) * kind.width ≤ at → kind.one (sets t at vs) i ≡ kind.one t i
  one_kept t i at vs h =
      let room : (i + 1) * kind.width ≡ i * kind.width + kind.width = one_more i in
      kind.one_same (sets t at vs) t i (λ k l. sets-before t at vs (i * kind.width + k) (omega arith))

  -- a list that fits is read back
  pub all_back : (t : List ℕ) (i : ℕ) (xs : List A) → (i + length xs) * kind.width ≤ length t
      → kind.from (sets t (i * kind.width) (kind.all xs)) i (length xs) ≡ xs
  all_back t i [] h = kind.from_none (sets t (i * kind.width) (kind.all [])) i
  all_back t i (x ∷ xs) h =
      let stored : List ℕ = sets (put t i x) ((i + 1) * kind.width) (kind.all xs) in
      let turn : i + suc (length xs) ≡ i + 1 + length xs = omega arith in
      let room : (i + suc (length xs)) * kind.width ≡ (i + 1 + length xs) * kind.width = ap (λ (k : ℕ). k * kind.width) turn in
      let both : (i + 1 + length xs) * kind.width ≡ (i + 1) * kind.width + length xs * kind.width = add-mul (i + 1) (length xs) kind.width in
      let long : length (put t i x) ≡ length t = length-sets t (i * kind.width) (kind.words x) in
      let head : kind.one stored i ≡ x =
      one_kept (put t i x) i ((i + 1) * kind.width) (kind.all xs) (le_refl ((i + 1) * kind.width)) ∙ one-back t i x (omega arith)
      in
      let rest : kind.from stored (suc i) (length xs) ≡ xs =
      ap (λ (k : ℕ). kind.from stored k (length xs)) (sym (add-one i)) ∙ all_back (put t i x) (i + 1) xs (omega arith)
      in
      ap (λ (u : List ℕ). kind.from u i (suc (length xs))) (sym (put-append t i x xs))
      ∙ kind.from_more stored i (length xs)
      ∙ ap₂ (λ (y : A) (ys : List A). y ∷ ys) head rest
