-- A text's first bytes against fixed bytes.
use Rattle.std.specs.Prelude.{ℕ, Bool, true, false, cond, List, [], ◌∷◌, eqb}

-- the text begins with the fixed bytes
unfoldable pub begins_with : List ℕ → List ℕ → Bool
begins_with [] text = true
begins_with (x ∷ fixed) [] = false
begins_with (x ∷ fixed) (y ∷ text) = cond (eqb x y) (begins_with fixed text) false
