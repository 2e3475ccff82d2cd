-- The number that bytes at a place make up, in either endianness, at any width.
use Rattle.std.specs.Prelude.{ℕ, zero, suc, ◌+◌, ◌*◌, ◌-◌, ◌/◌, ◌^◌, Bool, cond, List, length, get_or, leb, ltb, ℤ, pos, negsuc}
use Rattle.numbers.specs.declared.Endian.{Endian}
use Rattle.numbers.specs.declared.Endian.TheVariants.{Big, Little}

-- the number that the w bytes from `at` on make up: the last one counts least in Big and most in Little
unfoldable pub value_of : Endian → ℕ → List ℕ → ℕ → ℕ
value_of Big zero s at = 0
value_of Big (suc w) s at = value_of Big w s at * 256 + get_or s (at + w) 0
value_of Little zero s at = 0
value_of Little (suc w) s at = get_or s (at + w) 0 * 256 ^ w + value_of Little w s at

-- n below half, and n - 2 half from there on (negsuc k is - k - 1)
unfoldable pub signed_below : ℕ → ℕ → ℤ
signed_below half n = cond (ltb n half) (pos n) (negsuc (2 * half - 1 - n))

-- the signed number that w bytes say in two's complement, n being the number they make up
unfoldable pub signed_of : ℕ → ℕ → ℤ
signed_of w n = signed_below (256 ^ w / 2) n

-- are w bytes there from `at` on?
unfoldable pub there : List ℕ → ℕ → ℕ → Bool
there s at w = leb (at + w) (length s)

-- what reading w bytes at a place answers: what the caller makes of their number, or short where they are not there
unfoldable pub read_at : {A : Type 0} → (ℕ → A) → A → Endian → ℕ → List ℕ → ℕ → A
read_at value short e w s at = cond (there s at w) (value (value_of e w s at)) short
