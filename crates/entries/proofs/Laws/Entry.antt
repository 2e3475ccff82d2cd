-- What follows from `Entry`, for each way that the code comes to an entry.
use Rattle.std.specs.Prelude.{Result, Ok, Err}
use Prim.Native.Nat.{ℕ, zero, suc, ◌+◌, ◌-◌, ◌^◌, ◌≤◌, ◌<◌}
use native.Mathlib.Nat.{add-zero}
use native.Mathlib.Omega.{arith}
use mathlib.Core.Path.{◌≡◌, refl, sym, ap, ap₂, ◌∙◌, subst}
use mathlib.Core.Bool.{Bool, true, false}
use mathlib.Core.List.{List}
use lib.ListN.{length}
use Rattle.entries.specs.Source.{source, mode}
use Rattle.numbers.specs.declared.Endian.{Endian}
use Rattle.format.specs.TagKind as tag
use Rattle.format.specs.Said.{Said, gives, refuses, refuse, unread, ◌>>=◌, placed}
use Rattle.format.proofs.Laws.Said.{case-said, given_is, given-refused}
use Rattle.format.specs.declared.refusal.Reason.TheVariants as reason
use Rattle.tables.specs.Row.{row_words, rows_words, attrs_words, put_row}
use Rattle.tables.specs.Unit.{no_unit}
use Rattle.tables.specs.declared.row.Attr.{Attr}
use Rattle.attributes.specs.declared.value.Unread.{Unread}
use Rattle.attributes.specs.declared.value.Unread.TheVariants as missing
use Rattle.entries.specs.Head.{head_at}
use Rattle.entries.specs.Run.{AttrsRead, ran}
use Rattle.entries.proofs.Laws.Run.{ran_to}
use Rattle.entries.specs.Entry.{Entry, flags_of, attributes, root_endian, entry_from, read_entry}
use Rattle.entries.specs.Inside.Promise.{kind_of, ordinary, rooted, HeadBounds, HeadRead, RunRead, RunStored, RunStores, said_run, run_answer, farthest, Ready, said_read, unread_at}
use Rattle.entries.specs.Inside.Promise.{advanced, NullRead, BodyReady, body_answer, BodyStores, BodyRead, entry_answer, EntryStores, EntryRead}
use Rattle.entries.specs.declared.head.Head.{Head}
use Rattle.entries.specs.declared.head.Head.TheVariants as head
use Rattle.entries.specs.declared.run.AttrsRead as run
use Rattle.entries.specs.declared.entry.State.{State}
use Rattle.entries.specs.declared.entry.Shape.{Shape}
use Rattle.entries.specs.declared.entry.EntryError.{EntryError}
use Rattle.entries.specs.declared.entry.EntryError.TheVariants as error
use Rattle.entries.specs.declared.entry.Entry.TheVariants as entry
use Rattle.entries.specs.declared.head.HeadError.{HeadError}

-- ---- an error: what it says of whatever was to be read

err-gives : {A : Type 0} (why : EntryError) {x : A} → said_read (Err why) ≡ gives x → ⊥
unfolding said_read
err-gives (error.Nested key) p = given-refused (sym p)
err-gives (error.Unread why key byte) p = given-refused (sym p)

err-refuses : {A B : Type 0} (why : EntryError) {number place : ℕ} {told : List ℕ} → said_read {A = A} (Err why) ≡ refuses number place told
    → refuses number place told ≡ said_read {A = B} (Err why)
unfolding said_read
err-refuses {A} (error.Nested key) {number} {place} {told} p = let same : ◌≡◌ {A = Said A} (refuse reason.Nested key) (refuses number place told) = p in cc
err-refuses {A} (error.Unread why key byte) {number} {place} {told} p = let same : ◌≡◌ {A = Said A} (unread why key byte) (refuses number place told) = p in cc

-- what would have followed it
pub err-bind : {A B : Type 0} (why : EntryError) (next : A → Said B) → (said_read (Err why) >>= next) ≡ said_read (Err why)
unfolding said_read ◌>>=◌
err-bind (error.Nested key) next = refl
err-bind (error.Unread why key byte) next = refl

-- so what is answered of what was said tells that
pub told-error : {A B : Type 0} (what : Said A) (answer : A → B) {r : Result B EntryError} {why : EntryError} → said_read r ≡ (what >>= (λ x. gives (answer x)))
    → r ≡ Err why → what ≡ said_read (Err why)
unfolding ◌>>=◌
told-error (gives x) answer {why = why} a t = absurd (err-gives why (case-said said_read a t))
told-error (refuses number place told) answer {why = why} a t = err-refuses why (case-said said_read a t)

-- ---- the attributes, then the row

-- a run that was read told what it is
told-ran : (what : Said AttrsRead) (attrs : ℕ) {r : Result run.AttrsRead Unread} {x : run.AttrsRead}
    → ((key : ℕ) → said_run key r ≡ run_answer attrs (placed key what)) → r ≡ Ok x
    → (xs : List Attr) × (what ≡ gives (ran xs x.high x.at)) × (x.attrs ≡ attrs + length xs)
unfolding said_run placed ◌>>=◌
told-ran (gives y) attrs {x = x} a t =
    let same : gives x ≡ gives (ran_to y.stopped (attrs + length y.attrs) y.high) = case-said (said_run 0) (a 0) t in
    let is : x ≡ ran_to y.stopped (attrs + length y.attrs) y.high = given_is same in (
      y.attrs,
      ap₂ (λ (h : Bool) (p : ℕ). gives (ran y.attrs h p)) (ap (λ (z : run.AttrsRead). z.high) (sym is)) (ap (λ (z : run.AttrsRead). z.at) (sym is)),
      ap (λ (z : run.AttrsRead). z.attrs) is,
    )
told-ran (refuses number field counts) attrs {x = x} a t =
    let same : gives x ≡ refuses number 0 counts = case-said (said_run 0) (a 0) t in
    absurd (given-refused same)

-- and one that was refused is told at any place
pub told-failed : (what : Said AttrsRead) (attrs : ℕ) {r : Result run.AttrsRead Unread} (why : Unread)
    → ((key : ℕ) → said_run key r ≡ run_answer attrs (placed key what)) → r ≡ Err why → (key : ℕ) → placed key what ≡ said_read (Err (unread_at key why))
unfolding said_run said_read unread_at placed ◌>>=◌
told-failed (gives x) attrs (missing.Short byte) a t key = absurd (given-refused (sym (case-said (said_run 0) (a 0) t)))
told-failed (gives x) attrs (missing.Unknown byte) a t key = absurd (given-refused (sym (case-said (said_run 0) (a 0) t)))
told-failed (refuses number field counts) attrs (missing.Short byte) a t key =
    let same : ◌≡◌ {A = Said run.AttrsRead} (unread reason.Short key byte) (refuses number key counts) = case-said (said_run key) (a key) t in
    cc
told-failed (refuses number field counts) attrs (missing.Unknown byte) a t key =
    let same : ◌≡◌ {A = Said run.AttrsRead} (unread reason.Attribute key byte) (refuses number key counts) = case-said (said_run key) (a key) t in
    cc

module _ (s : List ℕ) (from : State) (ready : BodyReady s from) (shape : Shape) (what : Said AttrsRead) {rows₀ rows₁ attrs₀ attrs₁ : List ℕ} where
  pub body-read : {r : Result run.AttrsRead Unread} {x : run.AttrsRead} {flags kind : ℕ} → RunRead s (from.at + 6) from.attrs what r attrs₀ attrs₁ → r ≡ Ok x
      → kind ≡ kind_of shape.root shape.kind x.high → flags ≡ flags_of shape.erased shape.root shape.endian
      → rows₁ ≡ put_row rows₀ from.rows (record { key = from.at; kind = kind; flags = flags; first = from.attrs; count = x.attrs - from.attrs; unit = no_unit })
      → BodyRead s from shape (placed from.at what) (Ok (record { at = x.at; rows = from.rows + 1; attrs = x.attrs })) rows₀ rows₁ attrs₀ attrs₁
  unfolding said_read placed ◌>>=◌ rows_words row_words
  body-read {r} {x} {flags} {kind} q t k f w =
      let place : ℕ = x.at in
      let n : ℕ = x.attrs in
      let high : Bool = x.high in
      let told = told-ran what from.attrs q.answer t in
      let xs : List Attr = told.0 in
      let is : placed from.at what ≡ gives (ran xs high place) = ap (placed from.at) told.1 in
      let count : n ≡ from.attrs + length xs = told.2 in
      let stored : RunStored s (from.at + 6) from.attrs xs place attrs₀ attrs₁ =
      subst (λ (u : Said AttrsRead). RunStores s (from.at + 6) from.attrs u attrs₀ attrs₁) told.1 q.stores
      in
      let same_count : n - from.attrs ≡ length xs = omega arith in
      let put : ℕ → ℕ → ℕ → List ℕ =
      λ x y z. put_row rows₀ from.rows (record { key = from.at; kind = x; flags = y; first = from.attrs; count = z; unit = no_unit })
      in
      let small : length s < 2 ^ 32 = ready.ready.small in
      let rows_few : from.rows ≤ from.at = ready.ready.rows_few in
      let here : place ≤ length s = stored.here in
      let ahead : from.at + 6 ≤ place = stored.forward in
      record {
        answer = ap (λ (m : ℕ). gives (record { at = place; rows = from.rows + 1; attrs = m })) count ∙ ap (λ (w : Said AttrsRead). body_answer from w) (sym is);
        stores =
            subst (λ (u : Said AttrsRead). BodyStores s from shape u rows₀ rows₁ attrs₀ attrs₁) (sym is) (
              record {
                row_cells =
                    w
                    ∙ ap (λ (x : ℕ). put x flags (n - from.attrs)) k
                    ∙ ap (λ (x : ℕ). put (kind_of shape.root shape.kind high) x (n - from.attrs)) f
                    ∙ ap (λ (x : ℕ). put (kind_of shape.root shape.kind high) (flags_of shape.erased shape.root shape.endian) x) same_count;
                attr_cells = stored.words;
                rows_few = omega arith;
                attrs_few = stored.few;
                forward = omega arith;
                near = omega arith;
              },
              record { there = omega (arith, ready.here); forward = omega arith },
            );
      }

  pub body_refused : (why : Unread) {r : Result run.AttrsRead Unread} → RunRead s (from.at + 6) from.attrs what r attrs₀ attrs₁ → r ≡ Err why
      → {z : Result State EntryError} → z ≡ Err (unread_at from.at why) → BodyRead s from shape (placed from.at what) z rows₀ rows₁ attrs₀ attrs₁
  unfolding said_read unread_at ◌>>=◌
  body_refused (missing.Short byte) q t {z} p =
      let is : placed from.at what ≡ unread reason.Short from.at byte = told-failed what from.attrs (missing.Short byte) q.answer t from.at in
      record {
        answer = ap said_read p ∙ ap (λ (w : Said AttrsRead). body_answer from w) (sym is);
        stores = subst (λ (u : Said AttrsRead). BodyStores s from shape u rows₀ rows₁ attrs₀ attrs₁) (sym is) tt;
      }
  body_refused (missing.Unknown byte) q t {z} p =
      let is : placed from.at what ≡ unread reason.Attribute from.at byte = told-failed what from.attrs (missing.Unknown byte) q.answer t from.at in
      record {
        answer = ap said_read p ∙ ap (λ (w : Said AttrsRead). body_answer from w) (sym is);
        stores = subst (λ (u : Said AttrsRead). BodyStores s from shape u rows₀ rows₁ attrs₀ attrs₁) (sym is) tt;
      }

-- a count of attributes fits: it is at most the place
pub run-few : (s : List ℕ) (at attrs : ℕ) (what : Said AttrsRead) {r : Result run.AttrsRead Unread} {x : run.AttrsRead} {table₀ table₁ : List ℕ}
    → length s < 2 ^ 32
    → RunRead s at attrs what r table₀ table₁ → r ≡ Ok x → (attrs ≤ x.attrs) × (x.attrs < 2 ^ 32)
run-few s at attrs what {x = x} {table₀} {table₁} small q t =
    let told = told-ran what attrs q.answer t in
    let xs : List Attr = told.0 in
    let count : x.attrs ≡ attrs + length xs = told.2 in
    let stored : RunStored s at attrs xs x.at table₀ table₁ = subst (λ (u : Said AttrsRead). RunStores s at attrs u table₀ table₁) told.1 q.stores in
    (omega arith, omega (arith, stored.few, stored.here))

-- ---- an ordinary entry and an erased root

abbrev pub ordinary_shape : Bool → Endian → ℕ → ℕ → Shape
ordinary_shape is_erased e kind end = record { erased = is_erased; root = false; endian = e; kind = kind; end = end }

abbrev pub root_shape : Endian → ℕ → Shape
root_shape e end = record { erased = true; root = true; endian = e; kind = tag.padding; end = end }

module _ (s : List ℕ) (from : State) {rows₀ rows₁ attrs₀ attrs₁ : List ℕ} where
  pub ordinary-read : (is_erased : Bool) (e : Endian) (kind end : ℕ) (what : Said AttrsRead) {b : Result State EntryError} {to : State}
      → BodyRead s from (ordinary_shape is_erased e kind end) what b rows₀ rows₁ attrs₀ attrs₁ → b ≡ Ok to
      → EntryRead s from (what >>= (λ run. gives (ordinary is_erased e from.at kind from.attrs run))) (Ok (entry.Next to)) rows₀ rows₁ attrs₀ attrs₁
  unfolding said_read kind_of entry_answer ◌>>=◌
  ordinary-read is_erased e kind end (gives x) {b} {to} q t =
      record { answer = ap (λ (state : State). gives (entry.Next state)) (given_is (case-said said_read q.answer t)); stores = q.stores }
  ordinary-read is_erased e kind end (refuses number place counts) {b} {to} q t = absurd (given-refused (case-said said_read q.answer t))

  pub rooted-read : (e : Endian) (end : ℕ) (what : Said AttrsRead) {b : Result State EntryError} {to : State} → end ≤ farthest
      → BodyRead s from (root_shape e end) what b rows₀ rows₁ attrs₀ attrs₁ → b ≡ Ok to
      → EntryRead s from (what >>= (λ run. gives (rooted e from.at end from.attrs run))) (Ok (entry.Inside to e end)) rows₀ rows₁ attrs₀ attrs₁
  unfolding said_read kind_of entry_answer ◌>>=◌
  rooted-read e end (gives x) {b} {to} near q t =
      record {
        answer = ap (λ (state : State). gives (entry.Inside state e end)) (given_is (case-said said_read q.answer t));
        stores = (q.stores.0, q.stores.1, near);
      }
  rooted-read e end (refuses number place counts) {b} {to} near q t = absurd (given-refused (case-said said_read q.answer t))

  -- a refusal that the entry is by its definition
  refused : {what : Said Entry} {r : Result entry.the_data EntryError} {number place : ℕ} {told : List ℕ} → what ≡ refuses number place told
      → said_read r ≡ refuses number place told → EntryRead s from what r rows₀ rows₁ attrs₀ attrs₁
  unfolding ◌>>=◌
  refused p q =
      record {
        answer = q ∙ ap (λ (w : Said Entry). w >>= (λ x. gives (entry_answer from x))) (sym p);
        stores = subst (λ (w : Said Entry). EntryStores s from w rows₀ rows₁ attrs₀ attrs₁) (sym p) tt;
      }

  pub stopped : (why : EntryError) {what : Said Entry} {z : Result entry.the_data EntryError} → what ≡ said_read (Err why) → z ≡ Err why
      → EntryRead s from what z rows₀ rows₁ attrs₀ attrs₁
  unfolding said_read
  stopped (error.Nested key) p q = refused p (ap said_read q)
  stopped (error.Unread why key byte) p q = refused p (ap said_read q)

  -- what refuses the attributes refuses the entry
  pub body-stops : (shape : Shape) (entry_of : AttrsRead → Entry) (what : Said AttrsRead) {b : Result State EntryError} {why : EntryError}
      {z : Result entry.the_data EntryError} → BodyRead s from shape what b rows₀ rows₁ attrs₀ attrs₁ → b ≡ Err why → z ≡ Err why
      → EntryRead s from (what >>= (λ run. gives (entry_of run))) z rows₀ rows₁ attrs₀ attrs₁
  body-stops shape entry_of what {why = why} q t p =
      stopped why
      (ap (λ (w : Said AttrsRead). w >>= (λ run. gives (entry_of run)))
      (told-error what (λ x. advanced from 1 (length x.attrs) x.stopped) q.answer t) ∙ err-bind why _) p

  -- the same entry under another name
  pub renamed : {what what' : Said Entry} {r : Result entry.the_data EntryError} → what ≡ what' → EntryRead s from what' r rows₀ rows₁ attrs₀ attrs₁
      → EntryRead s from what r rows₀ rows₁ attrs₀ attrs₁
  renamed {r = r} p q = subst (λ (w : Said Entry). EntryRead s from w r rows₀ rows₁ attrs₀ attrs₁) (sym p) q

-- ---- by head

module _ (vendors : List ℕ) (global : ℕ) (s : List ℕ) (is_erased : Bool) (e : Endian) (at a end : ℕ) where
  pub nested : (levels : ℕ) → levels ≡ 0 → entry_from (source vendors global s) levels (mode is_erased e) at a (Ok (head.Root end))
      ≡ said_read (Err (error.Nested at))
  unfolding entry_from said_read
  nested levels h = rw h

  pub root_is : (levels : ℕ) {r : Result Endian EntryError} {inner : Endian} → (levels ≡ 0 → ⊥) → said_read r ≡ root_endian vendors s is_erased e at
      → r ≡ Ok inner
      → entry_from (source vendors global s) levels (mode is_erased e) at a (Ok (head.Root end))
      ≡ (attributes (source vendors global s) inner true end at >>= (λ run. gives (rooted inner at end a run)))
  unfolding entry_from said_read ◌>>=◌
  root_is zero h is t = absurd (h refl)
  root_is (suc l) h is t = rw (← case-said said_read is t)

  pub root-stops : (levels : ℕ) {r : Result Endian EntryError} {why : EntryError} → (levels ≡ 0 → ⊥) → said_read r ≡ root_endian vendors s is_erased e at
      → r ≡ Err why
      → entry_from (source vendors global s) levels (mode is_erased e) at a (Ok (head.Root end)) ≡ said_read (Err why)
  unfolding entry_from
  root-stops zero h is t = absurd (h refl)
  root-stops (suc l) {why = why} h is t = rw (← case-said said_read is t) (err-bind why _)

-- ---- a null entry, and padding that is stepped over

pub null_read : (from : State) (is_erased : Bool) (e : Endian) (place : ℕ) {flags : ℕ} {rows₀ rows₁ : List ℕ} → flags ≡ flags_of is_erased false e
    → rows₁ ≡ put_row rows₀ from.rows (record { key = from.at; kind = tag.padding; flags = flags; first = from.attrs; count = 0; unit = no_unit })
    → NullRead from is_erased e place (entry.Next (record { at = place; rows = from.rows + 1; attrs = from.attrs })) rows₀ rows₁
unfolding rows_words row_words
null_read from is_erased e place {rows₀ = rows₀} f w =
    record {
      answer = ap (λ (n : ℕ). entry.Next (record { at = place; rows = from.rows + 1; attrs = n })) (sym (add-zero from.attrs));
      words =
          w ∙ ap (λ (x : ℕ). put_row rows₀ from.rows (record { key = from.at; kind = tag.padding; flags = x; first = from.attrs; count = 0; unit = no_unit })) f;
    }

module _ (vendors : List ℕ) (global : ℕ) (s : List ℕ) (levels : ℕ) (is_erased : Bool) (e : Endian) (from : State) (ready : Ready s from) (place : ℕ) where
  pub entry-null : {r : entry.the_data} {rows₀ rows₁ attrs₀ : List ℕ} → HeadBounds s from.at (Ok (head.Null place))
      → NullRead from is_erased e place r rows₀ rows₁
      → EntryRead s from (entry_from (source vendors global s) levels (mode is_erased e) from.at from.attrs (Ok (head.Null place))) (Ok r) rows₀ rows₁ attrs₀ attrs₀
  unfolding entry_from said_read entry_answer ◌>>=◌ attrs_words
  entry-null b q =
      record {
        answer = ap gives q.answer;
        stores = (
          record {
            row_cells = q.words;
            attr_cells = refl;
            rows_few = omega (arith, ready.rows_few, b.1);
            attrs_few = omega (arith, ready.attrs_few, b.1);
            forward = omega (arith, b.1);
            near = omega (arith, b.0, b.2, ready.small);
          },
          record { there = b.0; forward = b.1 },
        );
      }

  pub entry-skipped : {rows₀ attrs₀ : List ℕ} → HeadBounds s from.at (Ok (head.Skipped place))
      → EntryRead s from (entry_from (source vendors global s) levels (mode is_erased e) from.at from.attrs (Ok (head.Skipped place)))
      (Ok (entry.Next (record { at = place; rows = from.rows; attrs = from.attrs }))) rows₀ rows₀ attrs₀ attrs₀
  unfolding entry_from said_read entry_answer ◌>>=◌ attrs_words rows_words
  entry-skipped b =
      record {
        answer =
            ap₂ (λ (n m : ℕ). gives (entry.Next (record { at = place; rows = n; attrs = m }))) (sym (add-zero from.rows)) (sym (add-zero from.attrs));
        stores = (
          record {
            row_cells = refl;
            attr_cells = refl;
            rows_few = omega (arith, ready.rows_few, b.1);
            attrs_few = omega (arith, ready.attrs_few, b.1);
            forward = omega (arith, b.1);
            near = omega (arith, b.0, b.2, ready.small);
          },
          record { there = b.0; forward = b.1 },
        );
      }

-- what an entry is goes by its head
pub at_head : (vendors : List ℕ) (global : ℕ) (s : List ℕ) (erased : Bool) (levels : ℕ) (is_erased : Bool) (e : Endian) (at a : ℕ) {r h : Result Head HeadError}
    → r ≡ head_at erased s e at → r ≡ h
    → read_entry (source vendors global s) erased levels (mode is_erased e) at a ≡ entry_from (source vendors global s) levels (mode is_erased e) at a h
unfolding read_entry
at_head vendors global s erased levels is_erased e at a p q = ap (entry_from (source vendors global s) levels (mode is_erased e) at a) (sym p ∙ q)

pub head-bounds : (s : List ℕ) (at : ℕ) {what r h : Result Head HeadError} → HeadRead s at what r → r ≡ h → HeadBounds s at h
head-bounds s at q t = subst (HeadBounds s at) t q.bounds
