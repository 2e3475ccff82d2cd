-- Whether a row has children, by how many there are: what counting them tells of a record that allows none.
use Rattle.std.specs.Prelude.{Option, Some, None}
use Prim.Native.Nat.{ℕ}
use mathlib.Core.Path.{◌≡◌, refl, sym, ap, ◌∙◌}
use mathlib.Core.List.{List, []}
use lib.ListN.{length}
use borrow.Author.Tests.{eq-eqb, ne_eqb}
use Rattle.numbers.specs.declared.Endian.{Endian}
use Rattle.format.specs.declared.refusal.Refusal.{Refusal}
use Rattle.format.specs.declared.refusal.Reason.TheVariants as reason
use Rattle.tables.specs.Table.{lent_rows}
use Rattle.tables.specs.Row.{row_at}
use Rattle.tables.specs.Inside.Keyed.{refused_at}
use Rattle.tables.specs.declared.row.Row.{Row}
use Rattle.links.specs.Links.{child_walk, non_null}
use Rattle.links.specs.Inside.EachChild.{rows_met}
use Rattle.links.specs.Inside.Children.{gathered_into}
use Rattle.links.proofs.Laws.EachChild.{walk-children, counted-walk, counted-children, endless-walk}
use Rattle.records.proofs.Laws.Taken.{by-case, test-passed, test-failed}
use Rattle.format.specs.Said.{gives, refusal, must}
use Rattle.records.specs.Front.{childless_fault}

module _ (e : Endian) (s rows attrs : List ℕ) (n i : ℕ) {told : Option ℕ} (is : told ≡ (gathered_into rows 0 [] (child_walk (lent_rows e s rows attrs n) i)).answer) where
  module _ {k : ℕ} (p : told ≡ Some k) where
    count-met : k ≡ length (non_null rows (rows_met (child_walk (lent_rows e s rows attrs n) i)))
    count-met = counted-children e s rows attrs n i is p ∙ ap length (walk-children e s rows attrs n i (counted-walk e s rows attrs n i is p))

    pub childless : k ≡ 0 → gives tt ≡ childless_fault rows i (child_walk (lent_rows e s rows attrs n) i)
    unfolding childless_fault must
    childless h =
        by-case (childless_fault rows i) (counted-walk e s rows attrs n i is p)
        (test-passed refl _ (eq-eqb (length (non_null rows (rows_met (child_walk (lent_rows e s rows attrs n) i)))) 0 (sym count-met ∙ h)) refl)

    pub has-children : {row : Row} {why : Refusal} → (k ≡ 0 → ⊥) → row ≡ row_at rows i → why ≡ refused_at row.key reason.Child
        → refusal why ≡ childless_fault rows i (child_walk (lent_rows e s rows attrs n) i)
    unfolding childless_fault must
    has-children h at q =
        by-case (childless_fault rows i) (counted-walk e s rows attrs n i is p)
        (test-failed refl _ (ne_eqb (length (non_null rows (rows_met (child_walk (lent_rows e s rows attrs n) i)))) 0 (λ z. h (count-met ∙ z)))
        (ap refusal (q ∙ ap (λ (x : Row). refused_at x.key reason.Child) at)))

  pub endless-children : {row : Row} {why : Refusal} → told ≡ None → row ≡ row_at rows i → why ≡ refused_at row.key reason.Link
      → refusal why ≡ childless_fault rows i (child_walk (lent_rows e s rows attrs n) i)
  unfolding childless_fault must
  endless-children p at q =
      by-case (childless_fault rows i) (endless-walk e s rows attrs n i is p) (ap refusal (q ∙ ap (λ (x : Row). refused_at x.key reason.Link) at))
