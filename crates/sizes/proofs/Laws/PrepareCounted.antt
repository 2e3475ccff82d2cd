-- What is wrong with a structure's members, by what counting its children tells.
use Rattle.std.specs.Prelude.{Option, Some, None}
use Prim.Native.Nat.{ℕ}
use mathlib.Core.Path.{◌≡◌, ap, ◌∙◌}
use mathlib.Core.List.{List, []}
use Rattle.format.specs.Said.{Said, refusal}
use Rattle.format.specs.declared.settings.Settings.{Settings}
use Rattle.format.specs.declared.refusal.Refusal.{Refusal}
use Rattle.format.specs.declared.refusal.Reason.TheVariants as reason
use Rattle.tables.specs.Table.{lent_rows}
use Rattle.tables.specs.Row.{row_at}
use Rattle.tables.specs.Inside.Keyed.{refused_at}
use Rattle.tables.specs.declared.row.Row.{Row}
use Rattle.links.specs.Links.{child_walk}
use Rattle.links.specs.Inside.EachChild.{children_at}
use Rattle.links.proofs.Laws.EachChild.{walk-children, counted-walk, endless-walk}
use Rattle.links.specs.Inside.Children.{gathered_into}
use Rattle.records.proofs.Laws.Taken.{by-case}
use Rattle.sizes.specs.Inside.Prepare.{members_fault, walk_fault, structure_fault}

module _ (settings : Settings) (s rows attrs : List ℕ) (n : ℕ) where
  module _ (i : ℕ) {told : Option ℕ} (is : told ≡ (gathered_into rows 0 [] (child_walk (lent_rows settings.endian s rows attrs n) i)).answer) where
    pub structure-walked : {k : ℕ} {z : Said Unit} → told ≡ Some k → z ≡ members_fault settings s rows attrs n (children_at settings.endian s rows attrs n i)
        → z ≡ structure_fault settings s rows attrs n i
    unfolding structure_fault walk_fault
    structure-walked p h =
        by-case (walk_fault settings s rows attrs n i) (counted-walk settings.endian s rows attrs n i is p)
        (h ∙ ap (members_fault settings s rows attrs n) (walk-children settings.endian s rows attrs n i (counted-walk settings.endian s rows attrs n i is p)))

    pub structure-endless : {row : Row} {why : Refusal} → told ≡ None → row ≡ row_at rows i → why ≡ refused_at row.key reason.Link
        → refusal why ≡ structure_fault settings s rows attrs n i
    unfolding structure_fault walk_fault
    structure-endless p at q =
        by-case (walk_fault settings s rows attrs n i) (endless-walk settings.endian s rows attrs n i is p)
        (ap refusal (q ∙ ap (λ (x : Row). refused_at x.key reason.Link) at))
