-- A look at n numbers of a list at once: is one of them x?
use Rattle.std.specs.Prelude.{ℕ, zero, suc, ◌+◌, Bool, false, ◌||◌, List, get_or, eqb}

-- one of the n numbers from i on is x
unfoldable pub some_is : List ℕ → ℕ → ℕ → ℕ → Bool
some_is xs x i zero = false
some_is xs x i (suc n) = eqb (get_or xs i 0) x || some_is xs x (i + 1) n
