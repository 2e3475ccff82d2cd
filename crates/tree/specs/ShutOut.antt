-- The sections on which the wrong readers of document 01 ('Holding each promise to account') are tried: small, with the listing program's settings.
use Rattle.std.specs.Prelude.{ℕ, List, [], ◌∷◌, replicate}
use Rattle.lent.specs.Outcome.{Outcomes}
use Rattle.format.specs.InputA.{settings_a as settings}
use Rattle.format.specs.Said.{Said}
use Rattle.tables.specs.declared.row.Counts.{Counts}
use Rattle.entries.specs.Section.{read_debug_section}

-- each size is 4, as in the listing program
unfoldable pub four_each : List ℕ
four_each = replicate 28 4

-- what reading a section into lent tables must come to
abbrev pub reading : List ℕ → List ℕ → List ℕ → Outcomes (Said Counts) ℕ ℕ
reading s rows attrs = read_debug_section settings [] four_each s rows attrs

-- ---- three sections, and the entries that reading finds in them

-- a null entry
abbrev pub null_section : List ℕ
null_section = 0x00 ∷ 0x00 ∷ 0x00 ∷ 0x00 ∷ []

-- a structure and a subroutine, each with an empty name: an ordinary entry has an attribute, and this is the shortest
abbrev pub two_section : List ℕ
two_section =
    0x00 ∷ 0x00 ∷ 0x00 ∷ 0x09 ∷ 0x00 ∷ 0x13 ∷ 0x00 ∷ 0x38 ∷ 0x00 ∷
    0x00 ∷ 0x00 ∷ 0x00 ∷ 0x09 ∷ 0x00 ∷ 0x14 ∷ 0x00 ∷ 0x38 ∷ 0x00 ∷ []
