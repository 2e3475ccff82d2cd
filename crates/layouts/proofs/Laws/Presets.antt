-- What follows from `Presets`.
use Prim.Native.Nat.{ℕ}
use native.Mathlib.Omega.{arith}
use mathlib.Core.Path.{◌≡◌, refl}
use mathlib.Core.Bool.{Bool, true, false}
use mathlib.Core.List.{List, [], ◌∷◌}
use lib.ListN.{length}
use lib.Dec.{eqb}
use borrow.Author.Tests.{eqb-true}
use Rattle.numbers.specs.Prefix.{begins_with}
use Rattle.numbers.proofs.Laws.Tests.{cond-all}
use Rattle.numbers.specs.declared.Endian.TheVariants as endian
use Rattle.layouts.specs.Presets.{is_word, endian_chosen}

-- texts of one length: the word's bytes at the beginning are the word
pub begins : (text word : List ℕ) → length text ≡ length word → begins_with word text ≡ is_word text word
unfolding begins_with is_word
begins [] [] h = refl
begins [] (w ∷ ws) h = refl
begins (t ∷ ts) [] h = absurd (omega arith)
begins (t ∷ ts) (w ∷ ws) h = let k : length ts ≡ length ws = omega arith in rw (begins ts ws k)

pub other_length : (text word : List ℕ) → (length text ≡ length word → ⊥) → false ≡ is_word text word
unfolding is_word
other_length [] [] h = absurd (h refl)
other_length [] (w ∷ ws) h = refl
other_length (t ∷ ts) [] h = refl
other_length (t ∷ ts) (w ∷ ws) h =
    let k : length ts ≡ length ws → ⊥ = (λ e. h (omega arith)) in
    cond-all (λ (r : Bool). false ≡ r) (eqb w t) (λ p. other_length ts ws k) (λ p. refl)

-- the code's ways, with the endianness told by the answer of its function
pub little_endian : (little : Bool) → little ≡ true → endian.Little ≡ endian_chosen little
unfolding endian_chosen
little_endian little h = rw h

pub big_endian : (little : Bool) → little ≡ false → endian.Big ≡ endian_chosen little
unfolding endian_chosen
big_endian little h = rw h

-- a text is a word only if it has the word's bytes
pub same_bytes : (text word : List ℕ) → is_word text word ≡ true → text ≡ word
unfolding is_word
same_bytes [] [] h = refl
same_bytes [] (w ∷ ws) h = let z : ◌≡◌ {A = ℕ} 0 1 = cc in absurd (omega arith)
same_bytes (t ∷ ts) [] h = let z : ◌≡◌ {A = ℕ} 0 1 = cc in absurd (omega arith)
same_bytes (t ∷ ts) (w ∷ ws) h =
    cond-all
    (λ (r : Bool). r ≡ true → t ∷ ts ≡ w ∷ ws)
    (eqb w t)
    (λ p q. let a : w ≡ t = eqb-true w t p in let b : ts ≡ ws = same_bytes ts ws q in cc)
    (λ p q. let z : ◌≡◌ {A = ℕ} 0 1 = cc in absurd (omega arith))
    h
