-- Numbers written and read again: w bytes make up each number below 256 ^ w, and the bytes of a number are those it was read from.
use Prim.Native.Nat.{ℕ, zero, suc, ◌+◌, ◌*◌, ◌/◌, ◌%◌, ◌^◌, ◌≤◌, ◌<◌}
use native.Mathlib.Nat.{add-zero, mul_assoc, pow-suc}
use native.Mathlib.Omega.{arith}
use mathlib.Core.Path.{◌≡◌, refl, sym, ap, ◌∙◌}
use mathlib.Core.Bool.{true}
use mathlib.Core.List.{List, [], ◌∷◌}
use lib.ListN.{length, get_or, length-append}
use borrow.Author.Tests.{le-leb}
use Rattle.numbers.specs.Value.{value_of, there, read_at}
use Rattle.numbers.proofs.Laws.Value.{reads}
use Rattle.numbers.specs.declared.Endian.{Endian}
use Rattle.numbers.specs.declared.Endian.TheVariants.{Big, Little}
use Rattle.numbers.specs.Written.{bytes_of, Bytes}
use Rattle.numbers.proofs.Laws.Stands.{Stands, front-stands, back-stands, both-stand, byte-stands, stands-byte, none-stands}

pub bytes-length : (e : Endian) (w n : ℕ) → length (bytes_of e w n) ≡ w
unfolding bytes_of
bytes-length Big zero n = refl
bytes-length Big (suc w) n =
    let most : length (bytes_of Big w (n / 256)) ≡ w = bytes-length Big w (n / 256) in
    length-append (bytes_of Big w (n / 256)) (n % 256 ∷ []) ∙ omega arith
bytes-length Little zero n = refl
bytes-length Little (suc w) n = ap suc (bytes-length Little w (n / 256))

-- in Little the first byte counts least
little-first : (w : ℕ) (s : List ℕ) (at : ℕ) → value_of Little (suc w) s at ≡ value_of Little w s (at + 1) * 256 + get_or s at 0
unfolding value_of
little-first zero s at = let z : get_or s (at + 0) 0 ≡ get_or s at 0 = ap (λ (k : ℕ). get_or s k 0) (add-zero at) in omega arith
little-first (suc w) s at =
    let rest : value_of Little (suc w) s at ≡ value_of Little w s (at + 1) * 256 + get_or s at 0 = little-first w s at in
    let last : ℕ = get_or s (at + 1 + w) 0 in
    let place : at + suc w ≡ at + 1 + w = omega arith in
    let byte : get_or s (at + suc w) 0 * 256 ^ suc w ≡ last * 256 ^ w * 256 =
    ap (λ (k : ℕ). get_or s k 0 * 256 ^ suc w) place ∙ ap (λ (k : ℕ). last * k) (pow-suc 256 w) ∙ sym (mul_assoc last (256 ^ w) 256)
    in
    omega arith

-- without its least byte a number is 256 times smaller
fewer : (w n : ℕ) → n < 256 ^ suc w → n / 256 < 256 ^ w
fewer w n h = let bound : n < 256 ^ w * 256 = rw pow-suc at h in omega arith

-- what was written is read
pub number_read : (e : Endian) (w : ℕ) (s : List ℕ) (at n : ℕ) → n < 256 ^ w → Stands s at (bytes_of e w n) → value_of e w s at ≡ n
unfolding bytes_of value_of
number_read Big zero s at n h q = omega arith
number_read Big (suc w) s at n h q =
    let front : List ℕ = bytes_of Big w (n / 256) in
    let most : value_of Big w s at ≡ n / 256 = number_read Big w s at (n / 256) (fewer w n h) (front-stands s at front (n % 256 ∷ []) q) in
    let last : Stands s (at + w) (n % 256 ∷ []) = rw (bytes-length Big w (n / 256)) at (back-stands s at front (n % 256 ∷ []) q) in
    let byte : get_or s (at + w) 0 ≡ n % 256 = stands-byte s (at + w) (n % 256) [] last in
    omega arith
number_read Little zero s at n h q = omega arith
number_read Little (suc w) s at n h q =
    let rest : List ℕ = bytes_of Little w (n / 256) in
    let most : value_of Little w s (at + 1) ≡ n / 256 = number_read Little w s (at + 1) (n / 256) (fewer w n h) (back-stands s at (n % 256 ∷ []) rest q) in
    let byte : get_or s at 0 ≡ n % 256 = stands-byte s at (n % 256) rest q in
    let whole : value_of Little (suc w) s at ≡ value_of Little w s (at + 1) * 256 + get_or s at 0 = little-first w s at in
    omega arith

-- what is read is small
pub number_small : (e : Endian) (w : ℕ) (s : List ℕ) (at : ℕ) → Bytes s → value_of e w s at < 256 ^ w
unfolding value_of
number_small Big zero s at b = omega arith
number_small Big (suc w) s at b =
    let most : value_of Big w s at < 256 ^ w = number_small Big w s at b in
    let byte : get_or s (at + w) 0 < 256 = b.small (at + w) in
    rw pow-suc (omega arith)
number_small Little zero s at b = omega arith
number_small Little (suc w) s at b =
    let most : value_of Little w s (at + 1) < 256 ^ w = number_small Little w s (at + 1) b in
    let byte : get_or s at 0 < 256 = b.small at in
    let whole : value_of Little (suc w) s at ≡ value_of Little w s (at + 1) * 256 + get_or s at 0 = little-first w s at in
    rw pow-suc (omega arith)

-- one byte more, behind the others in Big, before them in Little
big-written : (w : ℕ) (s : List ℕ) (at n : ℕ) → at + suc w ≤ length s → Stands s at (bytes_of Big w (n / 256)) → get_or s (at + w) 0 ≡ n % 256
    → Stands s at (bytes_of Big (suc w) n)
unfolding bytes_of
big-written w s at n h q p =
    both-stand s at (bytes_of Big w (n / 256)) (n % 256 ∷ []) q
    (rw (bytes-length Big w (n / 256)) (byte-stands s (at + w) (n % 256) (omega arith) p))

little-written : (w : ℕ) (s : List ℕ) (at n : ℕ) → at + suc w ≤ length s → Stands s (at + 1) (bytes_of Little w (n / 256)) → get_or s at 0 ≡ n % 256
    → Stands s at (bytes_of Little (suc w) n)
unfolding bytes_of
little-written w s at n h q p = both-stand s at (n % 256 ∷ []) (bytes_of Little w (n / 256)) (byte-stands s at (n % 256) (omega arith) p) q

-- what is read was so written
pub number-written : (e : Endian) (w : ℕ) (s : List ℕ) (at : ℕ) {n : ℕ} → Bytes s → at + w ≤ length s → value_of e w s at ≡ n → Stands s at (bytes_of e w n)
unfolding bytes_of value_of
number-written Big zero s at b h p = none-stands (omega arith)
number-written Big (suc w) s at {n} b h p =
    let byte : get_or s (at + w) 0 < 256 = b.small (at + w) in
    big-written w s at n h (number-written Big w s at b (omega arith) (omega arith)) (omega arith)
number-written Little zero s at b h p = none-stands (omega arith)
number-written Little (suc w) s at {n} b h p =
    let byte : get_or s at 0 < 256 = b.small at in
    let whole : value_of Little (suc w) s at ≡ value_of Little w s (at + 1) * 256 + get_or s at 0 = little-first w s at in
    little-written w s at n h (number-written Little w s (at + 1) b (omega arith) (omega arith)) (omega arith)

-- bytes that are inside are there
pub inside-there : (s : List ℕ) (at w : ℕ) → at + w ≤ length s → there s at w ≡ true
unfolding there
inside-there s at w h = le-leb (at + w) (length s) h

-- a number that stands there is what a reading answers
pub number-answers : {A : Type 0} (value : ℕ → A) (short : A) (e : Endian) (w : ℕ) (s : List ℕ) (at n : ℕ) → n < 256 ^ w → Stands s at (bytes_of e w n)
    → read_at value short e w s at ≡ value n
number-answers value short e w s at n h q =
    let count : length (bytes_of e w n) ≡ w = bytes-length e w n in
    let inside : at + length (bytes_of e w n) ≤ length s = q.fits in
    sym (reads value short e w s at (inside-there s at w (omega arith)) (sym (number_read e w s at n h q)))
