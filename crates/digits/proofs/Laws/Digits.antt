-- What follows from `Digits`: how long the fields are, and how the code comes by them.
use Prim.Native.Nat.{ℕ, zero, suc, ◌+◌, ◌-◌, ◌*◌, ◌/◌, ◌%◌, ◌^◌, ◌≤◌, ◌<◌}
use native.Mathlib.Nat.{not-suc-le-zero, pow-suc, mod-lt, div-lt_iff_lt-mul}
use native.Mathlib.Omega.{arith}
use mathlib.Core.Path.{◌≡◌, refl, sym, ap, subst, ◌∙◌}
use mathlib.Core.List.{List, [], ◌∷◌}
use lib.ListN.{length, set, length-append}
use lib.Seq.{sets}
use borrow.Author.Tests.{lt-ltb, le-ltb, ltb-true, ltb-false}
use lib.Dec.{ltb}
use Rattle.numbers.proofs.Laws.Tests.{cond-all}
use Rattle.digits.specs.Digits.{glyph, digits, width_from, decimal_width, hex_text, decimal_text}
use Rattle.digits.specs.Put.{Put}
use Rattle.digits.proofs.Laws.Put.{sets_last}

-- ---- digits

pub digits-length : (b w v : ℕ) → length (digits b w v) ≡ w
unfolding digits
digits-length b zero v = refl
digits-length b (suc w) v = length-append (digits b w (v / b)) (glyph (v % b) ∷ []) ∙ omega (arith, digits-length b w (v / b))

-- the last digit is stored, and the others are left
pub digits_last : (l : List ℕ) (b i v : ℕ) {g : ℕ} {m : List ℕ} → 0 < i → g ≡ glyph (v % b) → m ≡ set l (i - 1) g
    → sets m 0 (digits b (i - 1) (v / b)) ≡ sets l 0 (digits b i v)
unfolding digits
digits_last l b zero v h d e = absurd (not-suc-le-zero h)
digits_last l b (suc i) v h d e =
    let back : suc i - 1 ≡ i = omega arith in
    let there : 0 + length (digits b i (v / b)) ≡ i = omega (arith, digits-length b i (v / b)) in
    rw (e, d, back, sets_last l 0 (digits b i (v / b)) (glyph (v % b)), there)

-- no digit is left
pub digits-none : (l : List ℕ) (b i v : ℕ) → i ≤ 0 → sets l 0 (digits b i v) ≡ l
unfolding digits
digits-none l b zero v h = refl
digits-none l b (suc i) v h = absurd (not-suc-le-zero h)

-- what the loop that stores digits stands on
pub ruleset by_digit = (digits_last, digits-none, mod-lt)

pub glyph-low : (d : ℕ) → d < 10 → 48 + d ≡ glyph d
unfolding glyph
glyph-low d h = rw (lt-ltb d 10 h)

pub glyph-high : (d : ℕ) → 10 ≤ d → 87 + d ≡ glyph d
unfolding glyph
glyph-high d h = rw (le-ltb d 10 h)

-- ---- the number of decimal digits

width-none : (v : ℕ) → width_from zero v ≡ 1
unfolding width_from
width-none v = refl

width_one : (f v : ℕ) → v < 10 → width_from f v ≡ 1
unfolding width_from
width_one zero v h = refl
width_one (suc f) v h = rw (lt-ltb v 10 h)

width-more : (f v : ℕ) → 10 ≤ v → width_from (suc f) v ≡ suc (width_from f (v / 10))
unfolding width_from
width-more f v h = rw (le-ltb v 10 h)

-- turns beyond those that are enough do not matter
width_same : (f g v : ℕ) → v ≤ f → v ≤ g → width_from f v ≡ width_from g v
width_same zero g v p q = width_one zero v (omega arith) ∙ sym (width_one g v (omega arith))
width_same (suc f) zero v p q = width_one (suc f) v (omega arith) ∙ sym (width_one zero v (omega arith))
width_same (suc f) (suc g) v p q =
    cond-all (λ (r : ℕ). width_from (suc f) v ≡ width_from (suc g) v) (ltb v 10) {x = 0} {y = 0}
    (λ t. let h : v < 10 = ltb-true v 10 t in width_one (suc f) v h ∙ sym (width_one (suc g) v h))
    (λ t. let h : 10 ≤ v = ltb-false v 10 t in
    width-more f v h ∙ ap suc (width_same f g (v / 10) (omega arith) (omega arith)) ∙ sym (width-more g v h))

pub decimal-one : (v : ℕ) → v < 10 → decimal_width v ≡ 1
unfolding decimal_width
decimal-one v h = width_one v v h

pub decimal-more : (v : ℕ) → 10 ≤ v → decimal_width v ≡ suc (decimal_width (v / 10))
unfolding decimal_width
decimal-more zero h = absurd (not-suc-le-zero h)
decimal-more (suc v) h = width-more v (suc v) h ∙ ap suc (width_same v (suc v / 10) (suc v / 10) (omega arith) (omega arith))

ten_pos : (k : ℕ) → 0 < 10 ^ k
ten_pos zero = omega arith
ten_pos (suc k) = rw (pow-suc 10 k) (omega (arith, ten_pos k))

-- the digits are one more than the whole logarithm
pub decimal-log : (k v : ℕ) → 10 ^ k ≤ v → v < 10 * 10 ^ k → decimal_width v ≡ k + 1
decimal-log zero v p q = decimal-one v (omega arith)
decimal-log (suc k) v p q =
    let more : 10 ^ suc k ≡ 10 ^ k * 10 = pow-suc 10 k in
    decimal-more v (omega (arith, ten_pos k)) ∙ ap suc (decimal-log k (v / 10) (omega arith) (omega arith)) ∙ omega arith

pub decimal-none : decimal_width 0 ≡ 1
decimal-none = decimal-one 0 (omega arith)

-- what counting the digits stands on
pub ruleset widths = (decimal-log, decimal-none)

-- a number below 10 ^ k has at most k digits
width-bound : (k f v : ℕ) → v < 10 ^ suc k → width_from f v ≤ suc k
width-bound k zero v h = omega (arith, width-none v)
width-bound zero (suc f) v h = omega (arith, width_one (suc f) v h)
width-bound (suc k) (suc f) v h =
    cond-all (λ (r : ℕ). width_from (suc f) v ≤ suc (suc k)) (ltb v 10) {x = 0} {y = 0} (λ t. omega (arith, width_one (suc f) v (ltb-true v 10 t)))
    (λ t.
    let less : v / 10 < 10 ^ suc k = (div-lt_iff_lt-mul (omega arith)).1 (subst (λ (n : ℕ). v < n) (pow-suc 10 (suc k)) h) in
    omega (arith, width-more f v (ltb-false v 10 t), width-bound k f (v / 10) less))

pub decimal-bound : (k v : ℕ) → v < 10 ^ suc k → decimal_width v ≤ suc k
unfolding decimal_width
decimal-bound k v h = width-bound k v v h

-- ---- the fields

-- what a field's length stands on
pub ruleset fields = (digits-length)

pub digits-put : (b w v : ℕ) {l m : List ℕ} → m ≡ sets l 0 (digits b w v) → Put (digits b w v) 0 w l m
digits-put b w v e = record { place_is = omega (arith, digits-length b w v); bytes_are = e }

pub decimal-put : (v : ℕ) {w : ℕ} {l m : List ℕ} → w ≡ decimal_width v → m ≡ sets l 0 (digits 10 w v) → Put (decimal_text v) 0 w l m
decimal-put v {w} {l} {m} h e = subst (λ (k : ℕ). Put (digits 10 k v) 0 w l m) h (digits-put 10 w v e)

-- no decimal number of 64 bits has more than 20 digits
pub decimal-length : (v : ℕ) → v < 2 ^ 64 → length (decimal_text v) ≤ 20
decimal-length v h = omega (arith, digits-length 10 (decimal_width v) v, decimal-bound 19 v (omega arith))

pub decimal-short : (v : ℕ) → v < 2 ^ 32 → length (decimal_text v) ≤ 10
decimal-short v h = omega (arith, digits-length 10 (decimal_width v) v, decimal-bound 9 v (omega arith))

-- ---- the places after the fields

pub hex-place : (w v : ℕ) {at r : ℕ} {a b : List ℕ} → Put (hex_text w v) at r a b → r ≡ at + w
hex-place w v f = omega (arith, digits-length 16 w v, f.place_is)

pub decimal-place : (v : ℕ) {at r : ℕ} {a b : List ℕ} → v < 2 ^ 64 → Put (decimal_text v) at r a b → r ≤ at + 20
decimal-place v h f = omega (arith, decimal-length v h, f.place_is)

pub short-place : (v : ℕ) {at r : ℕ} {a b : List ℕ} → v < 2 ^ 32 → Put (decimal_text v) at r a b → r ≤ at + 10
short-place v h f = omega (arith, decimal-short v h, f.place_is)
