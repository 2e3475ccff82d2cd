-- The 57 attribute numbers as bits, a way to ask for them that is fast: bit n % 32 of word n / 32 is set where document 01 names n. Nothing here has to be
-- believed: `is_named` promises the list itself.
use Rattle.std.specs.Prelude.{ℕ, List, [], ◌∷◌}
use Rattle.format.specs.Lookup.{Line, ◌means◌}

-- words 0 to 23; word 24 is the last that has a bit
unfoldable pub named_words : List (Line ℕ)
named_words =
    0 means 0x00040000 ∷
    1 means 0x01000008 ∷
    2 means 0x00200000 ∷
    3 means 0x00040008 ∷
    4 means 0x00200008 ∷
    5 means 0x00400008 ∷
    6 means 0x00400020 ∷
    7 means 0x00100000 ∷
    8 means 0x00020040 ∷
    9 means 0x00400002 ∷
    10 means 0x00040004 ∷
    11 means 0x00000008 ∷
    12 means 0x00080000 ∷
    13 means 0x01000004 ∷
    14 means 0x000401f8 ∷
    15 means 0x000801a2 ∷
    16 means 0x01000100 ∷
    17 means 0x010000e4 ∷
    18 means 0x01000100 ∷
    19 means 0x01000100 ∷
    20 means 0x01000100 ∷
    21 means 0x00040008 ∷
    22 means 0x00000040 ∷
    23 means 0x00e40040 ∷ []
