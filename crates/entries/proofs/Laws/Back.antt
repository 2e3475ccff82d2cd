-- What is said leads back to the enums.
use Rattle.std.specs.Prelude.{Result, Ok, Err}
use mathlib.Core.Path.{◌≡◌, refl, ap}
use mathlib.Core.List.{[], ◌∷◌}
use Rattle.format.specs.Said.{Said, gives, refuses}
use Rattle.format.proofs.Laws.Said.{Back, refusal_of, refusal-same}
use Rattle.format.specs.declared.refusal.Refusal.{Refusal}
use Rattle.tables.specs.declared.row.Counts.{Counts}
use Rattle.entries.specs.declared.section.CountError.{CountError}
use Rattle.entries.specs.declared.section.CountError.TheVariants as count
use Rattle.entries.specs.declared.section.SectionError.{SectionError}
use Rattle.entries.specs.declared.section.SectionError.TheVariants as section
use Rattle.entries.specs.Section.{said_count, said_section}

abbrev as_count : Said Counts → Result Counts CountError
as_count (gives counts) = Ok counts
as_count (refuses number place []) = Err (count.Refused (refusal_of number place))
as_count (refuses number place (byte ∷ more)) = Err (count.Unread (refusal_of number place) byte)

count_same : (r : Result Counts CountError) → as_count (said_count r) ≡ r
unfolding said_count
count_same (Ok counts) = refl
count_same (Err (count.Refused why)) = ap (λ (w : Refusal). Err (count.Refused w)) (refusal-same why)
count_same (Err (count.Unread why byte)) = ap (λ (w : Refusal). Err (count.Unread w byte)) (refusal-same why)

pub count-back : Back said_count
count-back = record { back = as_count; same = count_same }

-- 4 to 6 are known by the byte, 8 by its counts
abbrev as_section : Said Counts → Result Counts SectionError
as_section (gives counts) = Ok counts
as_section (refuses number place []) = Err (section.Refused (refusal_of number place))
as_section (refuses number place (byte ∷ [])) = Err (section.Unread (refusal_of number place) byte)
as_section (refuses number place (rows ∷ attrs ∷ more)) = Err (section.Room (record { rows = rows; attrs = attrs }))

section-same : (r : Result Counts SectionError) → as_section (said_section r) ≡ r
unfolding said_section
section-same (Ok counts) = refl
section-same (Err (section.Refused why)) = ap (λ (w : Refusal). Err (section.Refused w)) (refusal-same why)
section-same (Err (section.Unread why byte)) = ap (λ (w : Refusal). Err (section.Unread w byte)) (refusal-same why)
section-same (Err (section.Room counts)) = refl

pub section-back : Back said_section
section-back = record { back = as_section; same = section-same }
