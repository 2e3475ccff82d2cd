-- `children` is refused by 9 exactly where the walk of the row would never end.
use Prim.Native.Nat.{ℕ}
use native.Mathlib.Omega.{arith}
use mathlib.Core.Path.{◌≡◌, refl, sym, ap, ◌∙◌}
use mathlib.Core.Logic.{◌↔◌}
use mathlib.Core.Bool.{Bool, true, false, ◌||◌}
use mathlib.Core.List.{List, [], ◌∷◌}
use lib.ListN.{length}
use lib.Dec.{leb}
use borrow.Author.Tests.{eqb-false, ne_eqb, lt-leb}
use Rattle.format.specs.Refusal.{number_of}
use Rattle.format.specs.Said.{Said, gives, refuses, refuse, ◌>>=◌, in_room, fills_room}
use Rattle.format.specs.declared.refusal.Reason.TheVariants as reason
use Rattle.tables.specs.Table.{Table, Rows, table_rows}
use Rattle.tables.specs.Keyed.{row_of}
use Rattle.links.specs.Walk.{Walk, ends, endless, stops, walked}
use Rattle.links.specs.Links.{next_row, sibling_row, child_walk}
use Rattle.links.specs.Children.{children_met, child_rows_of, children_of_key}
use Rattle.links.specs.Endless.{NeverEnds}
use Rattle.links.proofs.Laws.Endless.{on_below, endless-never, never-endless}

or_left : (a b : Bool) → (a || b) ≡ false → a ≡ false
or_left true b p = p
or_left false b p = refl

module _ (t : Rows) (i : ℕ) where
  abbrev first : ℕ
  first = next_row t.rows t.count i

  never-then : child_walk t i ≡ endless → NeverEnds t i
  unfolding child_walk stops
  never-then p k =
      let on = endless-never t.count (sibling_row t) (sibling_row t i) first p k in
      (on_below t.count (sibling_row t) (sibling_row t i) (walked (sibling_row t) first k) on, eqb-false _ _ (or_left _ _ on))

  never-when : NeverEnds t i → child_walk t i ≡ endless
  unfolding child_walk stops
  never-when never =
      never-endless t.count (sibling_row t) (sibling_row t i) first
      (λ k. rw (ne_eqb (walked (sibling_row t) first k) (sibling_row t i) (never k).1, lt-leb t.count (walked (sibling_row t) first k) (never k).0))

abbrev number_said : Said ℕ → ℕ
number_said (gives x) = 0
number_said (refuses number place counts) = number

-- room that is wanting is 8 and not 9
not-nine : (fits : Bool) (n : ℕ) (counts words room : List ℕ) {key : ℕ} → (fills_room fits n counts words room).answer ≡ refuse reason.Link key → ⊥
unfolding fills_room number_of
not-nine true n counts words room p = let z : ◌≡◌ {A = ℕ} 0 9 = ap number_said p in absurd (omega arith)
not-nine false n counts words room p = let z : ◌≡◌ {A = ℕ} 8 9 = ap number_said p in absurd (omega arith)

module _ (t : Table) (key i : ℕ) (row : row_of t key ≡ gives i) (room : List ℕ) where
  by-walk : (w : Walk) → child_walk (table_rows t) i ≡ w
      → ((in_room room (children_met t.rows key w) (λ cs. fills_room (leb (length cs) (length room)) (length cs) (length cs ∷ []) cs room)).answer
      ≡ refuse reason.Link key)
      ↔ NeverEnds (table_rows t) i
  unfolding children_met in_room
  by-walk (ends cs) p = (λ q. absurd (not-nine _ _ _ _ room q), λ never. absurd (apart (sym p ∙ never-when (table_rows t) i never)))
    where
      apart : {cs : List ℕ} → ends cs ≡ endless → ⊥
      apart {cs} q = let z : ◌≡◌ {A = ℕ} 0 1 = ap (λ (w : Walk). elim w [ ends xs ↦ 0 | endless ↦ 1 ]) q in absurd (omega arith)
  by-walk endless p = (λ q. never-then (table_rows t) i p, λ never. refl)

  -- the theorem
  pub nine-exactly : ((children_of_key t key room).answer ≡ refuse reason.Link key) ↔ NeverEnds (table_rows t) i
  unfolding children_of_key child_rows_of ◌>>=◌
  nine-exactly = rw row (by-walk (child_walk (table_rows t) i) refl)
