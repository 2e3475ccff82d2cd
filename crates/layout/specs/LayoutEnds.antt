-- Members that end inside a size.
use Rattle.std.specs.Prelude.{ℕ, ◌+◌, ◌≤◌, List, [], ◌∷◌}
use Rattle.layout.specs.Layout.{Laid}

-- every member ends at or before `size`
unfoldable pub EndInside : ℕ → List Laid → Type 0
EndInside size [] = Unit
EndInside size (x ∷ xs) = (x.offset + x.size ≤ size) × EndInside size xs
