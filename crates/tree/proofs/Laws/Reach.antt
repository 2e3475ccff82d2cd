-- What follows from `Reach`, for each way that the code comes to an answer; and that every end is 0, or later and within the table.
use Rattle.std.specs.Prelude.{Option, Some, None}
use Prim.Native.Nat.{ℕ, suc, ◌≤◌, ◌<◌}
use native.Mathlib.Omega.{arith}
use mathlib.Core.Path.{◌≡◌, refl, sym, ap, ◌∙◌}
use mathlib.Core.Logic.{◌⊎◌, inl, inr, ⊎_elim}
use mathlib.Core.List.{List}
use lib.ListN.{length}
use lib.Dec.{ltb, eqb}
use borrow.Author.Tests.{lt-ltb, eq-eqb, ne_eqb, ltb-true}
use Rattle.numbers.proofs.Laws.Tests.{cond-all}
use Rattle.numbers.specs.declared.Endian.{Endian}
use Rattle.tables.specs.Table.{Table, lent_rows, table_rows}
use Rattle.tables.specs.Find.{row_of_key}
use Rattle.tables.proofs.Laws.Find.{row-found}
use Rattle.links.specs.Attribute.{sibling_number, reference_of}
use Rattle.tree.specs.Reach.{later_row, reach_by, reach_end}
use Rattle.tree.proofs.Laws.Ends.{Reaching}

pub later-named : (i : ℕ) {found told : Option ℕ} → found ≡ told → {j : ℕ} → found ≡ Some j → i < j → j ≡ later_row i told
unfolding later_row
later-named i is {j} p h = sym (ap (later_row i) (sym is ∙ p) ∙ rw (lt-ltb i j h))

module _ (e : Endian) (s rows attrs : List ℕ) (n i : ℕ) {told : Option ℕ} (is : told ≡ reference_of e s rows attrs i sibling_number) where
  pub reach-all : {key : ℕ} → told ≡ Some key → key ≡ length s → n ≡ reach_end (lent_rows e s rows attrs n) i
  unfolding reach_end reach_by
  reach-all {key} p h = sym (ap (reach_by s rows n i) (sym is ∙ p) ∙ rw (eq-eqb key (length s) h))

  pub reach-row : {key r : ℕ} → told ≡ Some key → (key ≡ length s → ⊥) → r ≡ later_row i (row_of_key rows n key) → r ≡ reach_end (lent_rows e s rows attrs n) i
  unfolding reach_end reach_by
  reach-row {key} p h q = q ∙ sym (ap (reach_by s rows n i) (sym is ∙ p) ∙ rw (ne_eqb key (length s) h))

  pub reach-alone : told ≡ None → suc i ≡ reach_end (lent_rows e s rows attrs n) i
  unfolding reach_end reach_by
  reach-alone p = ap (reach_by s rows n i) (sym p ∙ is)

-- ---- an end is 0, or later than its row and within the table

abbrev Reaches : ℕ → ℕ → ℕ → Type 0
Reaches n i r = (r ≡ 0) ⊎ ((i < r) × (r ≤ n))

later-reaches : (rows : List ℕ) (n i key : ℕ) (found : Option ℕ) → row_of_key rows n key ≡ found → Reaches n i (later_row i found)
unfolding later_row
later-reaches rows n i key (Some j) p =
    cond-all (Reaches n i) (ltb i j)
    (λ h. let low : i < j = ltb-true i j h in let high : j < n = (row-found rows n key p).0 in inr (low, omega arith)) (λ h. inl refl)
later-reaches rows n i key None p = inl refl

by-reaches : (s rows : List ℕ) (n i : ℕ) → i < n → (told : Option ℕ) → Reaches n i (reach_by s rows n i told)
unfolding reach_by
by-reaches s rows n i h (Some key) =
    cond-all (Reaches n i) (eqb key (length s)) (λ p. inr (h, omega arith)) (λ p. later-reaches rows n i key (row_of_key rows n key) refl)
by-reaches s rows n i h None = inr (omega arith, omega arith)

pub reaching : (e : Endian) (s rows attrs : List ℕ) (n : ℕ) → Reaching n (λ i. reach_end (lent_rows e s rows attrs n) i)
unfolding reach_end
reaching e s rows attrs n = record { bad_or_later = λ i h. by-reaches s rows n i h (reference_of e s rows attrs i sibling_number) }

pub reach-within : (e : Endian) (s rows attrs : List ℕ) (n i : ℕ) {r : ℕ} → i < n → r ≡ reach_end (lent_rows e s rows attrs n) i → r ≤ n
reach-within e s rows attrs n i h is =
    ⊎_elim (λ bad. omega arith) (λ good. omega (arith, good.1)) ((reaching e s rows attrs n).bad_or_later i h)

-- ---- of a whole table

-- the same of a table and what it is asked with
abbrev pub reach_in : Table → ℕ → ℕ
reach_in t i = reach_end (table_rows t) i
