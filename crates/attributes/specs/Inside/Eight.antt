-- A look at n bytes at once: is one of them zero (`some_is`), and where is the first?
use Rattle.std.specs.Prelude.{ℕ, zero, suc, ◌+◌, cond, List, get_or, eqb}

-- i where it holds a zero, else a later place
unfoldable pub here_or : List ℕ → ℕ → ℕ → ℕ
here_or s i later = cond (eqb (get_or s i 0) 0) i later

-- the place of the first zero among them, or the place after them
unfoldable pub first_zero : List ℕ → ℕ → ℕ → ℕ
first_zero s i zero = i
first_zero s i (suc n) = here_or s i (first_zero s (i + 1) n)
