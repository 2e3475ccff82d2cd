-- The 28 fundamental types of the Rust's `FundType`, in its order, which is that of the settings' sizes.
use Rattle.std.specs.Prelude.{Option, Some, None}
use Rattle.std.specs.Prelude.{ℕ, ◌/◌, ◌%◌, cond, List, [], ◌∷◌, eqb}
use Rattle.format.specs.Lookup.{is_on}

abbrev pub wide_char : ℕ
wide_char = 0x0000

abbrev pub char : ℕ
char = 0x0001

abbrev pub signed_char : ℕ
signed_char = 0x0002

abbrev pub unsigned_char : ℕ
unsigned_char = 0x0003

abbrev pub short : ℕ
short = 0x0004

abbrev pub signed_short : ℕ
signed_short = 0x0005

abbrev pub unsigned_short : ℕ
unsigned_short = 0x0006

abbrev pub integer : ℕ
integer = 0x0007

abbrev pub signed_integer : ℕ
signed_integer = 0x0008

abbrev pub unsigned_integer : ℕ
unsigned_integer = 0x0009

abbrev pub long : ℕ
long = 0x000a

abbrev pub signed_long : ℕ
signed_long = 0x000b

abbrev pub unsigned_long : ℕ
unsigned_long = 0x000c

abbrev pub pointer : ℕ
pointer = 0x000d

abbrev pub float : ℕ
float = 0x000e

abbrev pub dbl_prec_float : ℕ
dbl_prec_float = 0x000f

abbrev pub ext_prec_float : ℕ
ext_prec_float = 0x0010

abbrev pub complex : ℕ
complex = 0x0011

abbrev pub dbl_prec_complex : ℕ
dbl_prec_complex = 0x0012

abbrev pub void : ℕ
void = 0x0014

abbrev pub boolean : ℕ
boolean = 0x0015

abbrev pub ext_prec_complex : ℕ
ext_prec_complex = 0x0016

abbrev pub label : ℕ
label = 0x0017

abbrev pub long_long : ℕ
long_long = 0x8008

abbrev pub signed_long_long : ℕ
signed_long_long = 0x8108

abbrev pub unsigned_long_long : ℕ
unsigned_long_long = 0x8208

abbrev pub int128 : ℕ
int128 = 0xa510

abbrev pub vec2x32_float : ℕ
vec2x32_float = 0xac00

-- every fundamental type, in the order of the sizes
unfoldable pub fund_types : List ℕ
fund_types =
    wide_char ∷ char ∷ signed_char ∷ unsigned_char ∷ short ∷ signed_short ∷ unsigned_short ∷ integer ∷
    signed_integer ∷ unsigned_integer ∷ long ∷ signed_long ∷ unsigned_long ∷ pointer ∷ float ∷ dbl_prec_float ∷
    ext_prec_float ∷ complex ∷ dbl_prec_complex ∷ void ∷ boolean ∷ ext_prec_complex ∷ label ∷ long_long ∷
    signed_long_long ∷ unsigned_long_long ∷ int128 ∷ vec2x32_float ∷ []

-- the type that a number names as it stands, or nothing known
unfoldable pub fund_type_of : ℕ → (Option ℕ)
fund_type_of n = cond (is_on n fund_types) (Some n) None

-- `parse_int`: of a number whose high byte is 1 only the low byte counts
unfoldable pub parse_int : ℕ → (Option ℕ)
parse_int n = fund_type_of (cond (eqb (n / 256) 1) (n % 256) n)
