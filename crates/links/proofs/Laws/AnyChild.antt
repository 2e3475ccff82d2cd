-- What follows from `AnyChild`: for each way that the code comes to an answer, and what an answer tells of the walk.
use Rattle.std.specs.Prelude.{Option, Some, None}
use Prim.Native.Nat.{ℕ, zero, suc, ◌+◌, ◌-◌, ◌≤◌, ◌<◌}
use native.Mathlib.Omega.{arith}
use mathlib.Core.Path.{◌≡◌, refl, sym, ap, ◌∙◌, subst}
use mathlib.Core.Bool.{Bool, true, false, not, ◌||◌, or-false, true≢false}
use mathlib.Core.List.{List, ◌∷◌}
use lib.ListN.{length}
use lib.Dec.{eqb}
use borrow.Author.Tests.{ne_eqb}
use Rattle.numbers.specs.declared.Endian.{Endian}
use Rattle.tables.specs.Table.{lent_rows}
use Rattle.tables.specs.Row.{row_at}
use Rattle.tables.specs.declared.row.Row.{Row}
use Rattle.links.specs.Walk.{Walk, ends, endless, meets, stops, walk_from}
use Rattle.links.specs.Links.{null_row, non_null, next_row, sibling_row, child_walk}
use Rattle.links.specs.Inside.Links.{RowsHold}
use Rattle.links.specs.Inside.EachChild.{rows_met, is_ending, walk_on, Ends}
use Rattle.links.specs.Inside.AnyChild.{gone_over}
use Rattle.links.proofs.Laws.Children.{at-end, past-last, goes, stopped, unended, met}

-- ---- one turn of the walk

turned : (rows cs : List ℕ) (before : Bool) (c : ℕ) (null : Bool) → null_row rows c ≡ null
    → (before || not (eqb (length (non_null rows (c ∷ cs))) 0)) ≡ ((before || not null) || not (eqb (length (non_null rows cs)) 0))
unfolding non_null
turned rows cs true c null h = refl
turned rows cs false c true h = rw h
turned rows cs false c false h = rw (h, ne_eqb (suc (length (non_null rows cs))) 0 (λ z. omega arith))

-- a row that is met turns what is left into what is left after it
over-met : (rows : List ℕ) (before : Bool) (c : ℕ) (w : Walk) → gone_over rows before (meets c w) ≡ gone_over rows (before || not (null_row rows c)) w
unfolding gone_over meets
over-met rows before c (ends cs) = ap Some (turned rows cs before c (null_row rows c) refl)
over-met rows before c endless = refl

-- ---- the loop: what is left of the walk comes to the whole

pub record GoingOver (rows : List ℕ) (n : ℕ) (next : ℕ → ℕ) (end from c : ℕ) (before : Bool) (turns : ℕ) : Type 0 where
  pub in_time : turns ≤ n
  pub left : gone_over rows before (walk_from n next end (n - turns) c) ≡ gone_over rows false (walk_from n next end n from)

module _ {rows : List ℕ} {n : ℕ} {next : ℕ → ℕ} {end from c : ℕ} {before : Bool} {turns : ℕ} (w : GoingOver rows n next end from c before turns) where
  -- the walk has stopped: what was met by then is all
  over-stopped : stops n next end c ≡ true → Some before ≡ gone_over rows false (walk_from n next end n from)
  unfolding gone_over non_null
  over-stopped h = ap Some (sym (or-false before)) ∙ ap (gone_over rows before) (sym (stopped n next end c h (n - turns))) ∙ w.left

  pub over-end : c ≡ end → Some before ≡ gone_over rows false (walk_from n next end n from)
  over-end h = over-stopped (at-end n next end c h)

  pub over-past : n ≤ c → Some before ≡ gone_over rows false (walk_from n next end n from)
  over-past h = over-stopped (past-last n next end c h)

  module _ (h : c ≡ end → ⊥) (l : c < n) where
    -- all rows' turns are used up, and it has not
    pub over-never : n ≤ turns → None ≡ gone_over rows false (walk_from n next end n from)
    unfolding gone_over
    over-never t =
        let none : n - turns ≡ zero = omega arith in
        ap (gone_over rows before) (sym (ap (λ (f : ℕ). walk_from n next end f c) none ∙ unended n next end c (goes n next end c h l))) ∙ w.left

    pub over-on : turns < n → {row : Row} {c' : ℕ} → row ≡ row_at rows c → c' ≡ next c
        → GoingOver rows n next end from c' (before || not (eqb row.kind 0)) (turns + 1)
    unfolding null_row
    over-on t {row} {c'} p q =
        let one : n - turns ≡ suc (n - (turns + 1)) = omega arith in
        record {
          in_time = omega arith;
          left =
              ap (λ (r : Row). gone_over rows (before || not (eqb r.kind 0)) (walk_from n next end (n - (turns + 1)) c')) p
              ∙ ap (λ (x : ℕ). gone_over rows (before || not (null_row rows c)) (walk_from n next end (n - (turns + 1)) x)) q
              ∙ sym (over-met rows before c (walk_from n next end (n - (turns + 1)) (next c)))
              ∙ ap (gone_over rows before) (sym (ap (λ (f : ℕ). walk_from n next end f c) one ∙ met n next end c (goes n next end c h l) (n - (turns + 1))))
              ∙ w.left;
        }

-- ---- what going over a walk tells of it

abbrev IsEnded : Bool → Option Bool → Type 0
IsEnded b (Some x) = b ≡ x
IsEnded b None = ⊥

abbrev IsEndless : Option Bool → Type 0
IsEndless (Some x) = ⊥
IsEndless None = Unit

ended_by : (rows : List ℕ) (w : Walk) {told : Option Bool} → told ≡ gone_over rows false w → {any : Bool} → told ≡ Some any
    → (is_ending w ≡ true) × (any ≡ not (eqb (length (non_null rows (rows_met w))) 0))
unfolding gone_over is_ending rows_met
ended_by rows (ends cs) p {any} q = (refl, subst (IsEnded any) (sym q ∙ p) refl)
ended_by rows endless p {any} q = absurd (subst (IsEnded any) (sym q ∙ p) refl)

endless-by : (rows : List ℕ) (w : Walk) {told : Option Bool} → told ≡ gone_over rows false w → told ≡ None → w ≡ endless
unfolding gone_over
endless-by rows (ends cs) p q = absurd (subst IsEndless (sym q ∙ p) tt)
endless-by rows endless p q = refl

ending-walk : (w : Walk) → is_ending w ≡ true → w ≡ ends (rows_met w)
unfolding is_ending rows_met
ending-walk (ends cs) h = refl
ending-walk endless h = absurd (true≢false (sym h))

module _ (e : Endian) (s rows attrs : List ℕ) (n i : ℕ) {told : Option Bool}
    (is : told ≡ gone_over rows false (child_walk (lent_rows e s rows attrs n) i)) where
  module _ {any : Bool} (p : told ≡ Some any) where
    pub ended-ends : RowsHold rows n → Ends e s rows attrs n (sibling_row (lent_rows e s rows attrs n) i) (next_row rows n i)
    unfolding walk_on child_walk
    ended-ends table = record { table = table; ending = (ended_by rows _ is p).0 }

    pub ended-walk : child_walk (lent_rows e s rows attrs n) i ≡ ends (rows_met (child_walk (lent_rows e s rows attrs n) i))
    ended-walk = ending-walk (child_walk (lent_rows e s rows attrs n) i) (ended_by rows _ is p).0

    pub ended-any : any ≡ not (eqb (length (non_null rows (rows_met (child_walk (lent_rows e s rows attrs n) i)))) 0)
    ended-any = (ended_by rows _ is p).1

  pub endless-walk : told ≡ None → child_walk (lent_rows e s rows attrs n) i ≡ endless
  endless-walk p = endless-by rows _ is p
