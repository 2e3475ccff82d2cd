-- Document 01's example: input A, and the settings that it is read with. The crates above compute with it.
use Rattle.std.specs.Prelude.{ℕ, false, List, [], ◌∷◌}
use Rattle.numbers.specs.declared.Endian.TheVariants.{Big}
use Rattle.format.specs.declared.settings.Settings.{Settings}
use Rattle.format.specs.declared.settings.Producer.TheVariants.{Other}

-- its 42 bytes: a structure of 4 bytes, its one member of type 7 at offset 0, a null entry
abbrev pub input_a : List ℕ
input_a =
    0x00 ∷ 0x00 ∷ 0x00 ∷ 0x12 ∷ 0x00 ∷ 0x13 ∷ 0x00 ∷ 0x12 ∷ 0x00 ∷ 0x00 ∷ 0x00 ∷ 0x2A ∷ 0x00 ∷ 0xB6 ∷ 0x00 ∷ 0x00 ∷ 0x00 ∷ 0x04 ∷
    0x00 ∷ 0x00 ∷ 0x00 ∷ 0x14 ∷ 0x00 ∷ 0x0D ∷ 0x00 ∷ 0x55 ∷ 0x00 ∷ 0x07 ∷ 0x00 ∷ 0x23 ∷ 0x00 ∷ 0x06 ∷ 0x04 ∷ 0x00 ∷ 0x00 ∷ 0x00 ∷ 0x00 ∷ 0x07 ∷
    0x00 ∷ 0x00 ∷ 0x00 ∷ 0x04 ∷ []

-- big-endian, erased entries out, no vendor numbers
abbrev pub settings_a : Settings
settings_a =
    record { endian = Big; erased = false; producer = Other; roles = record { global_ref = 0; mangled = 0; overlay_name = 0; overlay_id = 0 } }
