-- What follows from `Children` and its ways, for each way that the code comes to an answer.
use Rattle.std.specs.Prelude.{Option, Some, None, Result, Ok, Err}
use Rattle.format.specs.declared.refusal.Refusal.{Refusal}
use Rattle.format.specs.declared.refusal.Unfilled.TheVariants.{Refused, Room}
use Rattle.format.specs.Said.{said_counted, Said, gives, refuses, ◌>>=◌, in_room, fills_room}
use Prim.Native.Nat.{ℕ, zero, suc, ◌+◌, ◌-◌, ◌≤◌, ◌<◌}
use native.Mathlib.Nat.{add-zero}
use native.Mathlib.Omega.{arith}
use mathlib.Core.Path.{◌≡◌, refl, sym, ap, ◌∙◌, subst}
use mathlib.Core.Bool.{Bool, true, false, cond, or-true}
use mathlib.Core.List.{List, [], ◌∷◌}
use lib.ListN.{length, set, length-set}
use lib.Dec.{leb, eqb}
use borrow.Author.Tests.{le-leb, lt-leb, eq-eqb, ne_eqb}
use Rattle.tables.specs.Table.{Table, table, table_rows}
use Rattle.tables.specs.Keyed.{row_of}
use Rattle.tables.specs.Inside.Keyed.{refused_at}
use Rattle.lent.specs.Outcome.{Outcome, Given}
use Rattle.numbers.proofs.Laws.Tests.{cond-all}
use Rattle.links.specs.Walk.{Walk, ends, endless, meets, stops, walk_from}
use Rattle.tables.specs.Holds.{TableHolds}
use Rattle.tables.proofs.Laws.Held.{held-rising, held-rows-few}
use Rattle.tables.specs.Tests.{Tells}
use Rattle.tables.proofs.Laws.Tests.{passed-held}
use Rattle.tables.specs.declared.row.Counts.{Counts}
use Rattle.format.specs.declared.settings.Settings.{Settings}
use Rattle.format.specs.declared.refusal.Reason.TheVariants as reason
use Rattle.links.specs.Links.{null_row, non_null, child_walk}
use Rattle.links.specs.Inside.Links.{RowsHold}
use Rattle.links.specs.Children.{children_met, child_rows_of, children_of_key}
use Rattle.links.specs.Inside.Children.{gathered_into, Gathers, TakesChild, listed_into}

-- ---- one turn of the walk

module _ (rows : List ℕ) {c k r : ℕ} {room room' : List ℕ} where
  null-taken : null_row rows c ≡ true → TakesChild rows c k r room room' → (r ≡ k) × (room' ≡ room)
  null-taken h t = (t.count_is ∙ rw h, t.room_is ∙ rw h)

  row-taken : null_row rows c ≡ false → TakesChild rows c k r room room' → (r ≡ k + 1) × (room' ≡ set room k c)
  row-taken h t = (t.count_is ∙ rw h, t.room_is ∙ rw h)

  taken-by : (b : Bool) → null_row rows c ≡ b → TakesChild rows c k r room room' → (cs : List ℕ)
      → gathered_into rows k room (ends (c ∷ cs)) ≡ gathered_into rows r room' (ends cs)
  unfolding gathered_into non_null
  taken-by true h t cs =
      let same : (r ≡ k) × (room' ≡ room) = null-taken h t in
      rw (h, same.0, same.1)
  taken-by false h t cs =
      let more : (r ≡ k + 1) × (room' ≡ set room k c) = row-taken h t in
      let count : k + suc (length (non_null rows cs)) ≡ k + 1 + length (non_null rows cs) = omega arith in
      let place : suc k ≡ k + 1 = omega arith in
      rw (h, more.0, more.1, count, ← place)

  -- taking a row turns what is left into what is left after it
  taken : TakesChild rows c k r room room' → (w : Walk) → gathered_into rows k room (meets c w) ≡ gathered_into rows r room' w
  unfolding meets gathered_into
  taken t (ends cs) = taken-by (null_row rows c) refl t cs
  taken t endless = refl

module _ (n : ℕ) (next : ℕ → ℕ) (end c : ℕ) where
  pub at-end : c ≡ end → stops n next end c ≡ true
  unfolding stops
  at-end h = rw (eq-eqb c end h)

  pub past-last : n ≤ c → stops n next end c ≡ true
  unfolding stops
  past-last h = rw (le-leb n c h) (or-true (eqb c end))

  pub goes : (c ≡ end → ⊥) → c < n → stops n next end c ≡ false
  unfolding stops
  goes h l = rw (ne_eqb c end h, lt-leb n c l)

  pub stopped : stops n next end c ≡ true → (f : ℕ) → walk_from n next end f c ≡ ends []
  unfolding walk_from
  stopped h zero = rw h
  stopped h (suc f) = rw h

  pub unended : stops n next end c ≡ false → walk_from n next end zero c ≡ endless
  unfolding walk_from
  unended h = rw h

  pub met : stops n next end c ≡ false → (f : ℕ) → walk_from n next end (suc f) c ≡ meets c (walk_from n next end f (next c))
  unfolding walk_from
  met h f = rw h

-- ---- the loop: what is left of the walk comes to the whole

pub record Walking (rows : List ℕ) (n : ℕ) (next : ℕ → ℕ) (end from : ℕ) (room₀ room : List ℕ) (c k turns : ℕ) : Type 0 where
  pub in_time : turns ≤ n
  pub counted : k ≤ turns
  pub same_room : length room ≡ length room₀
  pub left : gathered_into rows k room (walk_from n next end (n - turns) c) ≡ gathered_into rows 0 room₀ (walk_from n next end n from)

abbrev pub IsEndless : Option ℕ → Type 0
IsEndless (Some k) = ⊥
IsEndless None = Unit

length_taken : (b : Bool) (room : List ℕ) (k c : ℕ) → length (cond b room (set room k c)) ≡ length room
length_taken true room k c = refl
length_taken false room k c = length-set room k c

module _ {rows : List ℕ} {n : ℕ} {next : ℕ → ℕ} {end from : ℕ} {room₀ room : List ℕ} {c k turns : ℕ}
    (w : Walking rows n next end from room₀ room c k turns) where
  -- the walk has stopped: all is gathered
  gathered : stops n next end c ≡ true → Gathers (gathered_into rows 0 room₀ (walk_from n next end n from)) (Some k) room
  unfolding gathered_into non_null
  gathered h =
      let rest : gathered_into rows k room (ends []) ≡ gathered_into rows 0 room₀ (walk_from n next end n from) =
      ap (gathered_into rows k room) (sym (stopped n next end c h (n - turns))) ∙ w.left
      in
      record {
        answer_is = ap Some (sym (add-zero k)) ∙ ap (λ (o : Outcome (Option ℕ) ℕ). o.answer) rest;
        room_is = λ m p. ap (λ (o : Outcome (Option ℕ) ℕ). o.room) rest;
      }

  pub gathered-end : c ≡ end → Gathers (gathered_into rows 0 room₀ (walk_from n next end n from)) (Some k) room
  gathered-end h = gathered (at-end n next end c h)

  pub gathered-past : n ≤ c → Gathers (gathered_into rows 0 room₀ (walk_from n next end n from)) (Some k) room
  gathered-past h = gathered (past-last n next end c h)

  -- all rows' turns are used up, and it has not
  pub gathered-never : (c ≡ end → ⊥) → c < n → n ≤ turns → Gathers (gathered_into rows 0 room₀ (walk_from n next end n from)) None room
  unfolding gathered_into
  gathered-never h l t =
      let none : n - turns ≡ zero = omega arith in
      let rest : gathered_into rows k room endless ≡ gathered_into rows 0 room₀ (walk_from n next end n from) =
      ap (gathered_into rows k room) (sym (ap (λ (f : ℕ). walk_from n next end f c) none ∙ unended n next end c (goes n next end c h l))) ∙ w.left
      in
      record { answer_is = ap (λ (o : Outcome (Option ℕ) ℕ). o.answer) rest; room_is = λ m p. absurd (subst IsEndless p tt) }

  pub walking_on : (c ≡ end → ⊥) → c < n → turns < n → {r c' : ℕ} {room' : List ℕ} → TakesChild rows c k r room room' → c' ≡ next c
      → Walking rows n next end from room₀ room' c' r (turns + 1)
  walking_on h l t {r} {c'} {room'} takes p =
      let one : n - turns ≡ suc (n - (turns + 1)) = omega arith in
      let most : r ≤ k + 1 =
      subst (λ (x : ℕ). x ≤ k + 1) (sym takes.count_is) (cond-all (λ (x : ℕ). x ≤ k + 1) (null_row rows c) (λ q. omega arith) (λ q. omega arith))
      in
      let counted' : k ≤ turns = w.counted in
      record {
        in_time = omega arith;
        counted = omega arith;
        same_room = ap length takes.room_is ∙ length_taken (null_row rows c) room k c ∙ w.same_room;
        left =
            ap (λ (x : ℕ). gathered_into rows r room' (walk_from n next end (n - (turns + 1)) x)) p
            ∙ sym (taken rows takes (walk_from n next end (n - (turns + 1)) (next c)))
            ∙ ap (gathered_into rows k room) (sym (ap (λ (f : ℕ). walk_from n next end f c) one ∙ met n next end c (goes n next end c h l) (n - (turns + 1))))
            ∙ w.left;
      }

-- ---- the calls around the child walk of a row

abbrev pub IsCount : ℕ → Option ℕ → Type 0
IsCount k (Some m) = k ≡ m
IsCount k None = ⊥

module _ (rows : List ℕ) (key : ℕ) (room : List ℕ) where
  listed_by : (w : Walk) (told : Option ℕ) → told ≡ (gathered_into rows 0 [] w).answer → (k : ℕ) → told ≡ Some k → k ≤ length room
      → {r : Option ℕ} {room' : List ℕ} → Gathers (gathered_into rows 0 room w) r room' → Given (listed_into rows key room w) (said_counted (Ok k)) room'
  unfolding gathered_into listed_into children_met in_room fills_room said_counted
  listed_by (ends cs) told p k q h {r} g =
      let told-many : k ≡ 0 + length (non_null rows cs) = subst (IsCount k) (sym q ∙ p) refl in
      let many : k ≡ length (non_null rows cs) = omega arith in
      let fit : leb (length (non_null rows cs)) (length room) ≡ true = le-leb (length (non_null rows cs)) (length room) (omega arith) in
      record { answer_is = rw (fit, many); room_is = rw fit (g.room_is (0 + length (non_null rows cs)) g.answer_is) }
  listed_by endless told p k q h g = absurd (subst (IsCount k) (sym q ∙ p) refl)

  unfit-by : (w : Walk) (told : Option ℕ) → told ≡ (gathered_into rows 0 [] w).answer → (k : ℕ) → told ≡ Some k → length room < k
      → Given (listed_into rows key room w) (said_counted (Err (Room k))) room
  unfolding gathered_into listed_into children_met in_room fills_room said_counted
  unfit-by (ends cs) told p k q h =
      let told-many : k ≡ 0 + length (non_null rows cs) = subst (IsCount k) (sym q ∙ p) refl in
      let many : k ≡ length (non_null rows cs) = omega arith in
      let fit : leb (length (non_null rows cs)) (length room) ≡ false = lt-leb (length (non_null rows cs)) (length room) (omega arith) in
      record { answer_is = rw (fit, many); room_is = rw fit }
  unfit-by endless told p k q h = absurd (subst (IsCount k) (sym q ∙ p) refl)

  never-by : (w : Walk) (told : Option ℕ) → told ≡ (gathered_into rows 0 [] w).answer → told ≡ None
      → Given (listed_into rows key room w) (said_counted (Err (Refused (refused_at key reason.Link)))) room
  unfolding gathered_into listed_into children_met in_room said_counted
  never-by (ends cs) told p q = absurd (subst IsEndless (sym q ∙ p) tt)
  never-by endless told p q = record { answer_is = refl; room_is = refl }

  module _ (w : Walk) {told : Option ℕ} (p : told ≡ (gathered_into rows 0 [] w).answer) where
    pub given-listed : {k : ℕ} → told ≡ Some k → k ≤ length room → {r : Option ℕ} {room' : List ℕ} → Gathers (gathered_into rows 0 room w) r room'
        → Given (listed_into rows key room w) (said_counted (Ok k)) room'
    given-listed {k} q h g = listed_by w told p k q h g

    pub given-unfit : {k : ℕ} → told ≡ Some k → length room < k → Given (listed_into rows key room w) (said_counted (Err (Room k))) room
    given-unfit {k} q h = unfit-by w told p k q h

    pub given-never : told ≡ None → Given (listed_into rows key room w) (said_counted (Err (Refused (refused_at key reason.Link)))) room
    given-never q = never-by w told p q

pub tested-rows : {settings : Settings} {vendors sizes s rows attrs : List ℕ} {counts : Counts} {told : Result Unit Refusal}
    → Tells (table s settings vendors sizes rows attrs counts) told → told ≡ Ok tt → RowsHold rows counts.rows
tested-rows {s = s} {rows = rows} {attrs = attrs} {counts = counts} is p =
    let c : TableHolds s _ rows attrs counts = passed-held is p in record { rising = held-rising c; few = held-rows-few c }

-- a room after a step is one room for both
in-bind : {A B C E : Type 0} (room : List E) (d : Said A) (f : A → Said B) (next : B → Outcome (Said C) E)
    → in_room room d (λ x. in_room room (f x) next) ≡ in_room room (d >>= f) next
unfolding in_room ◌>>=◌
in-bind room (gives x) f next = refl
in-bind room (refuses number place counts) f next = refl

-- from what the row of a key comes to
pub children-keyed : (t : Table) (key : ℕ) (room : List ℕ) {z : Said ℕ} {room' : List ℕ}
    → Given (in_room room (row_of t key) (λ i. listed_into t.rows key room (child_walk (table_rows t) i))) z room' → Given (children_of_key t key room) z room'
unfolding children_of_key child_rows_of listed_into
children-keyed t key room {z} {room'} = subst (λ o. Given o z room') (in-bind room (row_of t key) _ _)
