-- What the program `layouts` reads a section with: settings that two words of its arguments choose. The vendor numbers, roles and
-- sizes are the presets of `format`.
use Rattle.std.specs.Prelude.{ℕ, Bool, true, false, cond, List, [], ◌∷◌, length, eqb}
use Rattle.numbers.specs.declared.Endian.{Endian}
use Rattle.numbers.specs.declared.Endian.TheVariants as endian
use Rattle.format.specs.Presets.{mw_vendors, mw_roles, no_roles}
use Rattle.format.specs.declared.settings.Producer.TheVariants as producer
use Rattle.layouts.specs.declared.presets.Preset.{Preset}

-- an argument is this word: the same bytes
unfoldable pub is_word : List ℕ → List ℕ → Bool
is_word [] [] = true
is_word [] (w ∷ ws) = false
is_word (t ∷ ts) [] = false
is_word (t ∷ ts) (w ∷ ws) = cond (eqb w t) (is_word ts ws) false

-- `little` or `big`
unfoldable pub endian_chosen : Bool → Endian
endian_chosen little = cond little endian.Little endian.Big

-- `mw`: the 47 vendor numbers that complete the Rust's, with their four roles; `none`: no vendor numbers. Erased entries stay out
unfoldable pub preset_of : Bool → Bool → Preset
preset_of little true =
    record {
      settings = record { endian = endian_chosen little; erased = false; producer = producer.Mwcc; roles = mw_roles };
      vendors = length mw_vendors;
    }
preset_of little false =
    record { settings = record { endian = endian_chosen little; erased = false; producer = producer.Other; roles = no_roles }; vendors = 0 }
