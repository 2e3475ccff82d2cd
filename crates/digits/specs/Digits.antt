-- A number's digits, as bytes.
use Rattle.std.specs.Prelude.{ℕ, zero, suc, ◌+◌, ◌/◌, ◌%◌, cond, List, [], ◌∷◌, ◌++◌, ltb}

-- the ASCII code of a digit below 16: `0` to `9`, then `a` to `f`
unfoldable pub glyph : ℕ → ℕ
glyph d = cond (ltb d 10) (48 + d) (87 + d)

-- the last w digits of v in base b, the most significant first
unfoldable pub digits : ℕ → ℕ → ℕ → List ℕ
digits b zero v = []
digits b (suc w) v = digits b w (v / b) ++ (glyph (v % b) ∷ [])

-- how many decimal digits a number has, 1 for 0; f turns are enough where v ≤ f
unfoldable pub width_from : ℕ → ℕ → ℕ
width_from zero v = 1
width_from (suc f) v = cond (ltb v 10) 1 (suc (width_from f (v / 10)))

-- v turns are enough
unfoldable pub decimal_width : ℕ → ℕ
decimal_width v = width_from v v

-- a number in w hexadecimal digits
abbrev pub hex_text : ℕ → ℕ → List ℕ
hex_text w v = digits 16 w v

-- a number in decimal, with no zeros in front
abbrev pub decimal_text : ℕ → List ℕ
decimal_text v = digits 10 (decimal_width v) v
