-- What an answer says leads back to it.
use Rattle.std.specs.Prelude.{Result, Ok, Err}
use mathlib.Core.Path.{◌≡◌, refl, ap}
use mathlib.Core.List.{[], ◌∷◌}
use Rattle.format.specs.Said.{Said, gives, refuses}
use Rattle.format.specs.declared.refusal.Refusal.{Refusal}
use Rattle.format.specs.declared.refusal.Unfilled.{Unfilled}
use Rattle.format.specs.declared.refusal.Unfilled.TheVariants as unfilled
use Rattle.format.proofs.Laws.Said.{Back, refusal_of, refusal-same}
use Rattle.layout.specs.All.{said_all_layouts}
use Rattle.layout.specs.declared.all.LayoutCounts.{LayoutCounts}

abbrev as_all_layouts : Said LayoutCounts → Result LayoutCounts (Unfilled LayoutCounts)
as_all_layouts (gives x) = Ok x
as_all_layouts (refuses number place []) = Err (unfilled.Refused (refusal_of number place))
as_all_layouts (refuses number place (structures ∷ [])) = Err (unfilled.Refused (refusal_of number place))
as_all_layouts (refuses number place (structures ∷ members ∷ counts)) = Err (unfilled.Room (record { structures = structures; members = members }))

all_same : (r : Result LayoutCounts (Unfilled LayoutCounts)) → as_all_layouts (said_all_layouts r) ≡ r
unfolding said_all_layouts
all_same (Ok x) = refl
all_same (Err (unfilled.Refused why)) = ap (λ (w : Refusal). Err (unfilled.Refused w)) (refusal-same why)
all_same (Err (unfilled.Room counts)) = refl

pub all-layouts-back : Back said_all_layouts
all-layouts-back = record { back = as_all_layouts; same = all_same }
