-- Modifiers (document 01, 'Types, records, sizes'): each byte says one, its high bit dropped; one that is not known is 18.
use Rattle.std.specs.Prelude.{ℕ, Bool, true, false, ◌&&◌, ◌||◌, List, [], ◌∷◌}
use Rattle.format.specs.Modifier.{modifier_of}
use Rattle.format.specs.declared.modifier.Modifier.{Modifier}
use Rattle.format.specs.declared.modifier.Modifier.TheVariants.{MwPointerTo, PointerTo, ReferenceTo, Const, Volatile, Unknown}
use Rattle.format.specs.declared.refusal.Reason.TheVariants as reason
use Rattle.format.specs.Said.{Said, gives, must, ◌>>◌}

-- a modifier that document 01 names
unfoldable pub is_known : Modifier → Bool
is_known MwPointerTo = true
is_known PointerTo = true
is_known ReferenceTo = true
is_known Const = true
is_known Volatile = true
is_known Unknown = false

-- a pointer or a reference
unfoldable pub is_pointer : Modifier → Bool
is_pointer MwPointerTo = true
is_pointer PointerTo = true
is_pointer ReferenceTo = true
is_pointer Const = false
is_pointer Volatile = false
is_pointer Unknown = false

-- each byte says one that is known
unfoldable pub all_known : List ℕ → Bool
all_known [] = true
all_known (m ∷ rest) = is_known (modifier_of m) && all_known rest

-- a pointer or a reference stands among them
unfoldable pub any_pointer : List ℕ → Bool
any_pointer [] = false
any_pointer (m ∷ rest) = is_pointer (modifier_of m) || any_pointer rest

-- `process_modifiers`
unfoldable pub process_modifiers : List ℕ → Said Bool
process_modifiers block = do
  must (all_known block) reason.Number 0
  gives (any_pointer block)
