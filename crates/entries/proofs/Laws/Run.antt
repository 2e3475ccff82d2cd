-- What follows from `Run`: the loop over an entry's attributes. Its invariant says what was read so far, and that what is left comes to the whole.
use Prim.Native.Nat.{ℕ, zero, suc, ◌+◌, ◌*◌, ◌-◌, ◌^◌, ◌≤◌, ◌<◌}
use native.Mathlib.Omega.{arith}
use Rattle.std.specs.Prelude.{Option, Some, None, Result, Ok, Err, IsErrAnd, ok_or}
use Rattle.std.proofs.lemmas.Option.{none-some}
use Rattle.std.specs.Result.{MatchResult}
use Rattle.std.proofs.lemmas.Result.{err_from_is_err_and}
use mathlib.Core.Path.{◌≡◌, refl, sym, ap, ap₂, ◌∙◌, subst}
use mathlib.Core.Bool.{Bool, true, false, ◌&&◌, ◌||◌}
use mathlib.Core.List.{List, [], ◌∷◌, ◌++◌, append_assoc, append-nil}
use lib.ListN.{length, length-append}
use lib.Seq.{sets, length-sets}
use lib.Dec.{ltb, eqb}
use borrow.Author.Tests.{lt-ltb, le-ltb}
use Rattle.entries.specs.Source.{source}
use Rattle.numbers.specs.declared.Endian.{Endian}
use Rattle.format.specs.AttributeKind as number
use Rattle.format.specs.Said.{Said, gives, refuses, unread, ◌>>=◌, placed}
use Rattle.format.specs.declared.refusal.Reason.TheVariants as reason
use Rattle.attributes.specs.Read.{read_attribute}
use Rattle.attributes.specs.Ahead.{ReadInside}
use Rattle.attributes.proofs.Laws.Inside.{read-inside}
use Rattle.attributes.specs.declared.read.Attribute.{Attribute}
use Rattle.attributes.specs.declared.value.Unread.{Unread}
use Rattle.attributes.specs.declared.value.Unread.TheVariants as missing
use Rattle.tables.specs.Row.{attr_width, attr_words, attrs_words, put_attr}
use Rattle.tables.proofs.Laws.Row.{attrs-append}
use Rattle.tables.specs.declared.row.Attr.{Attr}
use Rattle.entries.specs.Run.{AttrsRead, ran, attr, run_ends, read_on, read_run}
use Rattle.entries.specs.Inside.Promise.{RunReady, RunStores, RunRead, said_run, run_answer}
use Rattle.entries.specs.declared.run.AttrsRead as run

-- what a `?` returns
pub exit-is : {A E : Type 0} {why : E} (z : Result A E) → IsErrAnd z (λ e. e ≡ why) → z ≡ Err why
exit-is z exits = let x = err_from_is_err_and z exits in x.1 ∙ ap Err x.2

-- what an `ok_or` was made of
module _ {A E : Type 0} (o : Option A) (why : E) {r : Result A E} (is : r ≡ ok_or o why) where
  pub kept-some : {x : A} → r ≡ Ok x → o ≡ Some x
  kept-some {x} was = go o (sym was ∙ is)
    where
      go : (o : Option A) → Ok x ≡ ok_or o why → o ≡ Some x
      go None p = cc
      go (Some y) p = cc

  pub told-none : {d : E} → r ≡ Err d → (o ≡ None) × (d ≡ why)
  told-none {d} was = go o (sym was ∙ is)
    where
      go : (o : Option A) → Err d ≡ ok_or o why → (o ≡ None) × (d ≡ why)
      go None p = (refl, cc)
      go (Some y) p = let none : None ≡ Some y = cc in absurd (none-some y none)

-- what a `map_err` was made of
module _ {A E D : Type 0} (o : Result A E) (post : E → D → Type 0) {r : Result A D} (is : MatchResult o (λ x. r ≡ Ok x) (λ e. IsErrAnd r (post e))) where
  pub mapped-ok : {x : A} → r ≡ Ok x → o ≡ Ok x
  mapped-ok {x} was = go o is
    where
      go : (o : Result A E) → MatchResult o (λ x. r ≡ Ok x) (λ e. IsErrAnd r (post e)) → o ≡ Ok x
      go (Ok y) p = cc
      go (Err e) p = let d = err_from_is_err_and r p in let same : Ok x ≡ Err d.0 = sym was ∙ d.1 in cc

  pub mapped-err : {d : D} → r ≡ Err d → (e : E) × (o ≡ Err e) × post e d
  mapped-err {d} was = go o is
    where
      go : (o : Result A E) → MatchResult o (λ x. r ≡ Ok x) (λ e. IsErrAnd r (post e)) → (e : E) × (o ≡ Err e) × post e d
      go (Ok y) p = let same : Err d ≡ Ok y = sym was ∙ p in cc
      go (Err e) p = let x = err_from_is_err_and r p in let same : x.0 ≡ d = cc in (e, refl, subst (λ (y : D). post e y) same x.2)

-- what reading comes to at an attribute that is not read
abbrev cut : Unread → Said AttrsRead
cut (missing.Short field) = unread reason.Short field field
cut (missing.Unknown field) = unread reason.Attribute field field

-- what the code answers where it was read
abbrev pub ran_to : ℕ → ℕ → Bool → run.AttrsRead
ran_to place n high = record { at = place; attrs = n; high = high }

-- ---- attributes read before others

unfoldable pub before : List Attr → Said AttrsRead → Said AttrsRead
before xs r = r >>= (λ later. gives (ran (xs ++ later.attrs) later.high later.stopped))

before-none : (r : Said AttrsRead) → before [] r ≡ r
unfolding before ◌>>=◌
before-none (gives later) = refl
before-none (refuses number place counts) = refl

before-one : (xs : List Attr) (a : Attr) (r : Said AttrsRead) → before (xs ++ (a ∷ [])) r ≡ before xs (before (a ∷ []) r)
unfolding before ◌>>=◌
before-one xs a (gives later) = ap (λ (l : List Attr). gives (ran l later.high later.stopped)) (append_assoc xs (a ∷ []) later.attrs)
before-one xs a (refuses number place counts) = refl

before_last : (xs : List Attr) (high : Bool) (at : ℕ) → before xs (gives (ran [] high at)) ≡ gives (ran xs high at)
unfolding before ◌>>=◌
before_last xs high at = ap (λ (l : List Attr). gives (ran l high at)) (append-nil xs)

-- ---- the loop

module _ (vendors : List ℕ) (global : ℕ) (s : List ℕ) (e : Endian) (root : Bool) (end : ℕ) where
  -- the whole, from `at` on
  abbrev pub whole : ℕ → Said AttrsRead
  whole at = read_run (source vendors global s) e root end (suc (length s)) false at

  -- xs were read and stored, f turns are left at least, and what is left comes to the whole
  pub record Loop (at attrs : ℕ) (table₀ table : List ℕ) (place n : ℕ) (high : Bool) : Type 0 where
    pub turns : ℕ
    pub xs : List Attr
    pub ready : RunReady s at attrs
    pub fuel : length s < place + turns
    pub here : place ≤ length s
    pub forward : at ≤ place
    pub few : n ≤ place
    pub count : n ≡ attrs + length xs
    pub words : table ≡ sets table₀ (attrs * attr_width) (attrs_words xs)
    pub rest : before xs (read_run (source vendors global s) e root end turns high place) ≡ whole at

  pub begin : {at attrs : ℕ} (table : List ℕ) → RunReady s at attrs → Loop at attrs table table at attrs false
  unfolding attrs_words
  begin {at} {attrs} table r =
      record {
        turns = suc (length s);
        xs = [];
        ready = r;
        fuel = omega arith;
        here = r.here;
        forward = omega arith;
        few = r.few;
        count = omega arith;
        words = refl;
        rest = before-none (whole at);
      }

  -- one turn of the definition
  turn-read : (f : ℕ) (high : Bool) (place : ℕ) {a : Attribute} → place < end → run_ends global s e high place ≡ false
      → read_attribute vendors e s place ≡ Ok a
      → read_run (source vendors global s) e root end (suc f) high place
      ≡ before (attr a.number a.value ∷ []) (read_run (source vendors global s) e root end f (high || (root && eqb a.number number.high_pc)) a.next)
  unfolding read_run read_on before
  turn-read f high place h k p = rw (lt-ltb place end h, k, p, read_run)

  turn-failed : (f : ℕ) (high : Bool) (place : ℕ) (why : Unread) → place < end → run_ends global s e high place ≡ false
      → read_attribute vendors e s place ≡ Err why → read_run (source vendors global s) e root end (suc f) high place ≡ cut why
  unfolding read_run read_on
  turn-failed f high place (missing.Short field) h k p = rw (lt-ltb place end h, k, p, read_run)
  turn-failed f high place (missing.Unknown field) h k p = rw (lt-ltb place end h, k, p, read_run)

  -- where nothing is read any more, whatever turns are left
  turn-ends : (t : ℕ) (high : Bool) (place : ℕ) → run_ends global s e high place ≡ true
      → read_run (source vendors global s) e root end t high place ≡ gives (ran [] high place)
  unfolding read_run
  turn-ends zero high place k = refl
  turn-ends (suc f) high place k = go (ltb place end) refl
    where
      go : (b : Bool) → ltb place end ≡ b → read_run (source vendors global s) e root end (suc f) high place ≡ gives (ran [] high place)
      go true p = rw (p, k, read_run)
      go false p = rw (p, read_run)

  turn-past : (t : ℕ) (high : Bool) (place : ℕ) → end ≤ place → read_run (source vendors global s) e root end t high place ≡ gives (ran [] high place)
  unfolding read_run
  turn-past zero high place h = refl
  turn-past (suc f) high place h = rw (le-ltb place end h, read_run)

  module _ {at attrs place n : ℕ} {high : Bool} {table₀ table : List ℕ} (l : Loop at attrs table₀ table place n high) where
    -- a turn is left wherever the place is in the section
    one_left : (t : ℕ) → length s < place + t → (f : ℕ) × (t ≡ suc f)
    one_left zero h = let k : place ≤ length s = l.here in absurd (omega arith)
    one_left (suc f) h = (f, refl)

    -- an attribute was read and stored
    pub again : {a : Attribute} {table₁ : List ℕ} → place < end → run_ends global s e high place ≡ false → read_attribute vendors e s place ≡ Ok a
        → table₁ ≡ put_attr table n (attr a.number a.value) → Loop at attrs table₀ table₁ a.next (n + 1) (high || (root && eqb a.number number.high_pc))
    unfolding attrs_words attr_words
    again {a} h k p w =
        let left = one_left l.turns l.fuel in
        let f : ℕ = left.0 in
        let turns : l.turns ≡ suc f = left.1 in
        let inside : ReadInside vendors s place a.number a.value a.next = read-inside vendors e s place p in
        let value : a.value ≡ place + 2 = inside.value_place in
        let ahead : a.value < a.next = inside.forward in
        let fuel : length s < place + l.turns = l.fuel in
        let count : length (l.xs ++ (attr a.number a.value ∷ [])) ≡ length l.xs + 1 = length-append l.xs (attr a.number a.value ∷ []) in
        record {
          turns = f;
          xs = l.xs ++ (attr a.number a.value ∷ []);
          ready = l.ready;
          fuel = omega arith;
          here = inside.inside;
          forward = omega (arith, l.forward);
          few = omega (arith, l.few);
          count = omega (arith, l.count);
          words =
              w
              ∙ ap₂ (λ (u : List ℕ) (i : ℕ). sets u (i * attr_width) (attrs_words (attr a.number a.value ∷ []))) l.words l.count
              ∙ sym (attrs-append table₀ attrs l.xs (attr a.number a.value ∷ []));
          rest =
              before-one l.xs (attr a.number a.value) (read_run (source vendors global s) e root end f (high || (root && eqb a.number number.high_pc)) a.next)
              ∙ ap (before l.xs) (sym (turn-read f high place h k p))
              ∙ ap (λ (t : ℕ). before l.xs (read_run (source vendors global s) e root end t high place)) (sym turns)
              ∙ l.rest;
        }

    -- how the whole comes out, where what is left comes to r
    comes-to : {r : Said AttrsRead} → read_run (source vendors global s) e root end l.turns high place ≡ r → before l.xs r ≡ whole at
    comes-to p = ap (before l.xs) (sym p) ∙ l.rest

    stopped : read_run (source vendors global s) e root end l.turns high place ≡ gives (ran [] high place)
        → RunRead s at attrs (whole at) (Ok (ran_to place n high)) table₀ table
    unfolding said_run placed ◌>>=◌
    stopped p =
        let all : gives (ran l.xs high place) ≡ whole at = sym (before_last l.xs high place) ∙ comes-to p in
        record {
          answer = λ key. ap (λ (k : ℕ). gives (ran_to place k high)) l.count ∙ ap (λ (w : Said AttrsRead). run_answer attrs (placed key w)) all;
          stores =
              subst (λ (r : Said AttrsRead). RunStores s at attrs r table₀ table) all
              (record { words = l.words; few = omega (arith, l.count, l.few); forward = l.forward; here = l.here });
        }

    -- the entry's end is reached; an erased root's attributes end
    pub done : end ≤ place → RunRead s at attrs (whole at) (Ok (ran_to place n high)) table₀ table
    done h = stopped (turn-past l.turns high place h)

    pub ends : run_ends global s e high place ≡ true → RunRead s at attrs (whole at) (Ok (ran_to place n high)) table₀ table
    ends k = stopped (turn-ends l.turns high place k)

    refused : (why : Unread) {z : Result run.AttrsRead Unread} → read_run (source vendors global s) e root end l.turns high place ≡ cut why → z ≡ Err why
        → RunRead s at attrs (whole at) z table₀ table
    unfolding said_run placed before ◌>>=◌
    refused (missing.Short field) p q =
        let all : cut (missing.Short field) ≡ whole at = comes-to p in
        record {
          answer = λ key. ap (said_run key) q ∙ ap (λ (w : Said AttrsRead). run_answer attrs (placed key w)) all;
          stores = subst (λ (r : Said AttrsRead). RunStores s at attrs r table₀ table) all tt;
        }
    refused (missing.Unknown field) p q =
        let all : cut (missing.Unknown field) ≡ whole at = comes-to p in
        record {
          answer = λ key. ap (said_run key) q ∙ ap (λ (w : Said AttrsRead). run_answer attrs (placed key w)) all;
          stores = subst (λ (r : Said AttrsRead). RunStores s at attrs r table₀ table) all tt;
        }

    pub failed : {why : Unread} → place < end → run_ends global s e high place ≡ false → read_attribute vendors e s place ≡ Err why
        → {z : Result run.AttrsRead Unread} → z ≡ Err why → RunRead s at attrs (whole at) z table₀ table
    failed {why} h k p q =
        let left = one_left l.turns l.fuel in
        refused why
        (ap (λ (t : ℕ). read_run (source vendors global s) e root end t high place) left.1 ∙ turn-failed left.0 high place why h k p) q

    -- the table keeps its length, and every turn goes forward
    pub kept : length table ≡ length table₀
    kept = ap length l.words ∙ length-sets table₀ (attrs * attr_width) (attrs_words l.xs)

    pub value-small : {a : Attribute} → read_attribute vendors e s place ≡ Ok a → a.value < 2 ^ 32
    value-small p =
        let inside = read-inside vendors e s place p in
        omega (arith, inside.forward, inside.inside, l.ready.small)

    pub falls : {a : Attribute} → place < end → read_attribute vendors e s place ≡ Ok a → end - a.next < end - place
    falls h p =
        let inside = read-inside vendors e s place p in
        omega (arith, inside.forward, inside.value_place)
