-- The modifiers of a type.
use Rattle.std.specs.Prelude.{ℕ, ◌%◌, List, [], ◌∷◌}
use Rattle.format.specs.Lookup.{Line, ◌means◌, lookup}
use Rattle.format.specs.declared.modifier.Modifier.{Modifier}
use Rattle.format.specs.declared.modifier.Modifier.TheVariants.{MwPointerTo, PointerTo, ReferenceTo, Const, Volatile, Unknown}

-- the number of each; 0 is Metrowerks' own
unfoldable pub modifiers : List (Line Modifier)
modifiers =
    0x00 means MwPointerTo ∷
    0x01 means PointerTo ∷
    0x02 means ReferenceTo ∷
    0x03 means Const ∷
    0x04 means Volatile ∷ []

-- the modifier that a byte says, its high bit dropped
unfoldable pub modifier_of : ℕ → Modifier
unfolding modifiers
modifier_of n = lookup modifiers Unknown (n % 128)
