-- The producer (document 01, 'Settings and limits'): a text beginning with the bytes MW is MWCC, else with GNU C is GCC, else other.
use Rattle.std.specs.Prelude.{ℕ, cond, List, [], ◌∷◌}
use Rattle.numbers.specs.Prefix.{begins_with}
use Rattle.format.specs.declared.settings.Producer.{Producer}
use Rattle.format.specs.declared.settings.Producer.TheVariants.{Mwcc, Gcc, Other}

-- the bytes MW
abbrev pub mw : List ℕ
mw = 0x4D ∷ 0x57 ∷ []

-- the bytes GNU C
abbrev pub gnu_c : List ℕ
gnu_c = 0x47 ∷ 0x4E ∷ 0x55 ∷ 0x20 ∷ 0x43 ∷ []

-- the producer of a text
unfoldable pub parse_producer : List ℕ → Producer
parse_producer text = cond (begins_with mw text) Mwcc (cond (begins_with gnu_c text) Gcc Other)
