-- What follows from `Value`: neighbouring numbers make up one of twice the width, whatever the width and the endianness; and what a
-- reading says stays the same when bytes are put behind, and moves along when they are put in front.
use Prim.Native.Nat.{ℕ, zero, suc, ◌+◌, ◌*◌, ◌-◌, ◌^◌, ◌≤◌, ◌<◌}
use native.Mathlib.Nat.{add-zero, add-suc, add_assoc, mul_assoc, mul_comm, add-mul, pow-suc}
use native.Mathlib.Omega.{arith}
use lib.Pow.{pow-add}
use mathlib.Core.Path.{◌≡◌, sym, ap, ◌∙◌}
use mathlib.Core.Bool.{true, false, cond}
use mathlib.Core.List.{List}
use lib.ListN.{length, get_or}
use lib.Dec.{leb}
use borrow.Author.Tests.{lt-leb, leb-true}
use Rattle.numbers.proofs.Laws.Tests.{same_test, cond-all, cond_map}
use Rattle.numbers.specs.Value.{value_of, there, read_at}
use Rattle.numbers.specs.declared.Endian.{Endian}
use Rattle.numbers.specs.declared.Endian.TheVariants.{Big, Little}

-- one byte is its own number
pub one_byte : (e : Endian) (s : List ℕ) (at : ℕ) → value_of e 1 s at ≡ get_or s at 0
unfolding value_of
one_byte Big s at = let z : get_or s (at + 0) 0 ≡ get_or s at 0 = ap (λ (k : ℕ). get_or s k 0) (add-zero at) in omega arith
one_byte Little s at = let z : get_or s (at + 0) 0 ≡ get_or s at 0 = ap (λ (k : ℕ). get_or s k 0) (add-zero at) in omega arith

big-joins : (a b : ℕ) (s : List ℕ) (at : ℕ) → value_of Big (a + b) s at ≡ value_of Big a s at * 256 ^ b + value_of Big b s (at + a)
unfolding value_of
big-joins a zero s at = rw (add-zero a) (omega arith)
big-joins a (suc b) s at =
    let front : ℕ = value_of Big a s at in
    let whole : value_of Big (a + b) s at ≡ front * 256 ^ b + value_of Big b s (at + a) = big-joins a b s at in
    let unit : front * 256 ^ suc b ≡ front * 256 ^ b * 256 = ap (λ (k : ℕ). front * k) (pow-suc 256 b) ∙ sym (mul_assoc front (256 ^ b) 256) in
    let last : get_or s (at + (a + b)) 0 ≡ get_or s (at + a + b) 0 = ap (λ (k : ℕ). get_or s k 0) (sym (add_assoc at a b)) in
    rw add-suc (omega arith)

little-joins : (a b : ℕ) (s : List ℕ) (at : ℕ) → value_of Little (a + b) s at ≡ value_of Little b s (at + a) * 256 ^ a + value_of Little a s at
unfolding value_of
little-joins a zero s at = rw (add-zero a) (omega arith)
little-joins a (suc b) s at =
    let byte : ℕ = get_or s (at + a + b) 0 in
    let back : ℕ = value_of Little b s (at + a) in
    let whole : value_of Little (a + b) s at ≡ back * 256 ^ a + value_of Little a s at = little-joins a b s at in
    let units : 256 ^ (a + b) ≡ 256 ^ b * 256 ^ a = pow-add 256 a b ∙ mul_comm (256 ^ a) (256 ^ b) in
    let last : get_or s (at + (a + b)) 0 * 256 ^ (a + b) ≡ byte * 256 ^ b * 256 ^ a =
    ap (λ (k : ℕ). get_or s k 0 * 256 ^ (a + b)) (sym (add_assoc at a b))
    ∙ ap (λ (k : ℕ). byte * k) units
    ∙ sym (mul_assoc byte (256 ^ b) (256 ^ a))
    in
    let parts : (byte * 256 ^ b + back) * 256 ^ a ≡ byte * 256 ^ b * 256 ^ a + back * 256 ^ a = add-mul (byte * 256 ^ b) back (256 ^ a) in
    rw add-suc (omega arith)

-- two neighbours of w bytes each, in Big and in Little
pub joined-big : {e : Endian} (w : ℕ) (s : List ℕ) (at : ℕ) {first second : ℕ} → e ≡ Big → first ≡ value_of e w s at
    → second ≡ value_of e w s (at + w) → first * 256 ^ w + second ≡ value_of e (w + w) s at
joined-big w s at p f g = cc (big-joins w w s at)

pub joined-little : {e : Endian} (w : ℕ) (s : List ℕ) (at : ℕ) {first second : ℕ} → e ≡ Little → first ≡ value_of e w s at
    → second ≡ value_of e w s (at + w) → second * 256 ^ w + first ≡ value_of e (w + w) s at
joined-little w s at p f g = cc (little-joins w w s at)

-- what `fits` tests
pub fits-there : (s : List ℕ) (at w : ℕ) → at ≤ length s → leb w (length s - at) ≡ there s at w
unfolding there
fits-there s at w h = same_test w (length s - at) (at + w) (length s) (λ k. omega arith) (λ k. omega arith)

pub not_there : (s : List ℕ) (at w : ℕ) → length s < at → false ≡ there s at w
unfolding there
not_there s at w h = sym (lt-leb (at + w) (length s) (omega arith))

-- bytes that are there end inside
pub there-inside : (s : List ℕ) (at w : ℕ) → there s at w ≡ true → at + w ≤ length s
unfolding there
there-inside s at w h = leb-true (at + w) (length s) h

-- the two answers of a reading
module _ {A : Type 0} (value : ℕ → A) (short : A) (e : Endian) (w : ℕ) (s : List ℕ) (at : ℕ) where
  pub reads : {v : ℕ} → there s at w ≡ true → v ≡ value_of e w s at → value v ≡ read_at value short e w s at
  unfolding read_at
  reads h p = rw h (ap value p)

  pub reads_short : there s at w ≡ false → short ≡ read_at value short e w s at
  unfolding read_at
  reads_short h = rw h

  -- what holds of both answers holds of the reading
  pub read_all : (P : A → Type 0) → (there s at w ≡ true → P (value (value_of e w s at))) → (there s at w ≡ false → P short)
      → P (read_at value short e w s at)
  unfolding read_at
  read_all P f g = cond-all P (there s at w) f g

  -- a function of a reading is a reading of its results
  pub read-map : {B : Type 0} (f : A → B) → f (read_at value short e w s at) ≡ read_at (λ n. f (value n)) (f short) e w s at
  unfolding read_at
  read-map f = cond_map f (there s at w) (value (value_of e w s at)) short

  pub read_same : (value' : ℕ → A) → ((n : ℕ) → value n ≡ value' n) → read_at value short e w s at ≡ read_at value' short e w s at
  unfolding read_at
  read_same value' f = ap (λ v. cond (there s at w) v short) (f (value_of e w s at))
