-- What follows from `Entries`: the loop over entries. Its invariant says what was read so far, and that what is left comes to the whole.
use Rattle.std.specs.Prelude.{Result, Ok, Err}
use Prim.Native.Nat.{ℕ, zero, suc, ◌+◌, ◌*◌, ◌-◌, ◌≤◌, ◌<◌}
use native.Mathlib.Nat.{add_assoc}
use native.Mathlib.Numerals.{sub-one}
use native.Mathlib.Omega.{arith}
use mathlib.Core.Path.{◌≡◌, refl, sym, ap, ap₂, ◌∙◌, subst}
use mathlib.Core.Bool.{Bool, true, false}
use mathlib.Core.List.{List, [], ◌∷◌, ◌++◌, append_assoc, append-nil}
use lib.ListN.{length, length-append}
use lib.Seq.{sets, length-sets}
use borrow.Author.Tests.{lt-ltb, le-ltb}
use Rattle.entries.specs.Source.{source, mode}
use Rattle.numbers.specs.declared.Endian.{Endian}
use Rattle.format.specs.Said.{Said, gives, refuses, refuse, ◌>>=◌}
use Rattle.format.proofs.Laws.Said.{case-said, given_is, given-refused}
use Rattle.format.specs.declared.refusal.Reason.TheVariants as reason
use Rattle.tables.specs.Row.{row_width, attr_width, rows_words, attrs_words}
use Rattle.tables.proofs.Laws.Row.{rows_append, attrs-append}
use Rattle.tables.specs.declared.row.Row.{Row}
use Rattle.tables.specs.declared.row.Attr.{Attr}
use Rattle.entries.specs.Head.{head_at}
use Rattle.entries.specs.Run.{AttrsRead}
use Rattle.entries.specs.Entry.{Entry, next, inside, attributes, entry_from, read_entry}
use Rattle.entries.specs.Walk.{Entries, entries, entries_then, whole_entry, entries_from, read_tags}
use Rattle.entries.specs.Inside.Promise.{ordinary, farthest, Ready, advanced, Stored, Taken}
use Rattle.entries.specs.Inside.Promise.{said_read, entry_answer, EntryStores, EntryRead, walked, WalkStores, WalkRead}
use Rattle.entries.specs.declared.head.Head.{Head}
use Rattle.entries.specs.declared.head.Head.TheVariants as head
use Rattle.entries.specs.declared.entry.State.{State}
use Rattle.entries.specs.declared.entry.Entry.TheVariants as entry
use Rattle.entries.specs.declared.entry.EntryError.{EntryError}
use Rattle.entries.specs.declared.entry.EntryError.TheVariants as error
use Rattle.entries.proofs.Laws.Entry.{err-bind, told-error}
use Rattle.entries.specs.declared.head.HeadError.{HeadError}

-- ---- rows and attributes read before others

unfoldable pub join : List Row → List Attr → Said Entries → Said Entries
join rs xs w = w >>= (λ back. gives (entries (rs ++ back.rows) (xs ++ back.attrs) back.stopped))

join-none : (w : Said Entries) → join [] [] w ≡ w
unfolding join ◌>>=◌
join-none (gives all) = refl
join-none (refuses number place counts) = refl

join-join : (rs : List Row) (xs : List Attr) (rs' : List Row) (xs' : List Attr) (w : Said Entries)
    → join (rs ++ rs') (xs ++ xs') w ≡ join rs xs (join rs' xs' w)
unfolding join ◌>>=◌
join-join rs xs rs' xs' (gives all) =
    ap₂ (λ (r : List Row) (x : List Attr). gives (entries r x all.stopped)) (append_assoc rs rs' all.rows) (append_assoc xs xs' all.attrs)
join-join rs xs rs' xs' (refuses number place counts) = refl

join_last : (rs : List Row) (xs : List Attr) (at : ℕ) → join rs xs (gives (entries [] [] at)) ≡ gives (entries rs xs at)
unfolding join ◌>>=◌
join_last rs xs at = ap₂ (λ (r : List Row) (x : List Attr). gives (entries r x at)) (append-nil rs) (append-nil xs)

-- ---- what an answer tells

-- what an entry's answer is by its definition
abbrev Answers : State → Said Entry → Result entry.the_data EntryError → Type 0
Answers from what r = said_read r ≡ (what >>= (λ x. gives (entry_answer from x)))

told-next : (from : State) (what : Said Entry) {r : Result entry.the_data EntryError} {to : State} → Answers from what r → r ≡ Ok (entry.Next to)
    → (rs : List Row) × (xs : List Attr) × (p : ℕ) × (what ≡ gives (next rs xs p)) × (to ≡ advanced from (length rs) (length xs) p)
unfolding said_read entry_answer ◌>>=◌
told-next from (gives (next rs xs p)) {to = to} a t =
    let same : entry.Next to ≡ entry.Next (advanced from (length rs) (length xs) p) = given_is (case-said said_read a t) in
    (rs, xs, p, refl, cc)
told-next from (gives (inside r xs p e end)) {to = to} a t =
    let same : entry.Next to ≡ entry.Inside (advanced from 1 (length xs) p) e end = given_is (case-said said_read a t) in
    let z : ◌≡◌ {A = ℕ} 0 1 = cc in
    absurd (omega arith)
told-next from (refuses number place counts) a t = absurd (given-refused (case-said said_read a t))

told-inside : (from : State) (what : Said Entry) {r : Result entry.the_data EntryError} {to : State} {e : Endian} {end : ℕ} → Answers from what r
    → r ≡ Ok (entry.Inside to e end)
    → (row : Row) × (xs : List Attr) × (p : ℕ) × (what ≡ gives (inside row xs p e end)) × (to ≡ advanced from 1 (length xs) p)
unfolding said_read entry_answer ◌>>=◌
told-inside from (gives (next rs xs p)) {to = to} {e} {end} a t =
    let same : entry.Inside to e end ≡ entry.Next (advanced from (length rs) (length xs) p) = given_is (case-said said_read a t) in
    let z : ◌≡◌ {A = ℕ} 0 1 = cc in
    absurd (omega arith)
told-inside from (gives (inside row xs p e' end')) {to = to} {e} {end} a t =
    let same : entry.Inside to e end ≡ entry.Inside (advanced from 1 (length xs) p) e' end' = given_is (case-said said_read a t) in
    (row, xs, p, cc, cc)
told-inside from (refuses number place counts) a t = absurd (given-refused (case-said said_read a t))

pub told-walked : (from : State) (what : Said Entries) {r : Result State EntryError} {to : State} → said_read r ≡ walked from what → r ≡ Ok to
    → (all : Entries) × (what ≡ gives all) × (to ≡ advanced from (length all.rows) (length all.attrs) all.stopped)
unfolding said_read walked ◌>>=◌
told-walked from (gives all) a t = (all, refl, given_is (case-said said_read a t))
told-walked from (refuses number place counts) a t = absurd (given-refused (case-said said_read a t))

pub told-refused : (from : State) (what : Said Entries) {r : Result State EntryError} {why : EntryError} → said_read r ≡ walked from what → r ≡ Err why
    → what ≡ said_read (Err why)
unfolding walked
told-refused from what a t = told-error what (λ all. advanced from (length all.rows) (length all.attrs) all.stopped) a t

-- ---- stores one after the other

stored-then : {from : State} {rs rs' : List Row} {xs xs' : List Attr} {p q : ℕ} {rows₀ rows₁ rows₂ attrs₀ attrs₁ attrs₂ : List ℕ}
    → Stored from rs xs p rows₀ rows₁ attrs₀ attrs₁ → Stored (advanced from (length rs) (length xs) p) rs' xs' q rows₁ rows₂ attrs₁ attrs₂
    → Stored from (rs ++ rs') (xs ++ xs') q rows₀ rows₂ attrs₀ attrs₂
stored-then {from} {rs} {rs'} {xs} {xs'} {p} {q} {rows₀ = rows₀} {attrs₀ = attrs₀} a b =
    let n : length (rs ++ rs') ≡ length rs + length rs' = length-append rs rs' in
    let m : length (xs ++ xs') ≡ length xs + length xs' = length-append xs xs' in
    record {
      row_cells =
          b.row_cells
          ∙ ap (λ (u : List ℕ). sets u ((from.rows + length rs) * row_width) (rows_words rs')) a.row_cells
          ∙ sym (rows_append rows₀ from.rows rs rs');
      attr_cells =
          b.attr_cells
          ∙ ap (λ (u : List ℕ). sets u ((from.attrs + length xs) * attr_width) (attrs_words xs')) a.attr_cells
          ∙ sym (attrs-append attrs₀ from.attrs xs xs');
      rows_few = omega (arith, b.rows_few);
      attrs_few = omega (arith, b.attrs_few);
      forward = omega (arith, a.forward, b.forward);
      near = b.near;
    }

-- ---- the levels

module _ (vendors : List ℕ) (global : ℕ) (erased : Bool) (s : List ℕ) where
  -- how the inside of a root is read, with so many levels still allowed outside it
  unfoldable pub within_of : ℕ → Endian → ℕ → ℕ → ℕ → Said Entries
  within_of zero e end b at = refuse reason.Nested at
  within_of (suc l) e end b at = read_tags (source vendors global s) erased l (mode true e) end b at

  pub walk-levels : (levels : ℕ) (is_erased : Bool) (e : Endian) (end a at : ℕ)
      → entries_from (source vendors global s) erased (within_of levels) levels (mode is_erased e) end (suc (length s)) a at ≡ read_tags (source vendors global s) erased levels (mode is_erased e) end a at
  unfolding within_of read_tags
  walk-levels zero is_erased e end a at = refl
  walk-levels (suc l) is_erased e end a at = refl

  within-less : (levels : ℕ) (e : Endian) (end b at : ℕ) → 0 < levels
      → within_of levels e end b at ≡ read_tags (source vendors global s) erased (levels - 1) (mode true e) end b at
  unfolding within_of
  within-less zero e end b at h = absurd (omega arith)
  within-less (suc l) e end b at h = ap (λ (k : ℕ). read_tags (source vendors global s) erased k (mode true e) end b at) (sym (sub-one (suc l)))

  -- a root is only read where a level is left
  inside-levels : (levels : ℕ) (is_erased : Bool) (e : Endian) (at a : ℕ) {row : Row} {xs : List Attr} {p : ℕ} {e' : Endian} {end' : ℕ}
      → read_entry (source vendors global s) erased levels (mode is_erased e) at a ≡ gives (inside row xs p e' end') → 0 < levels
  unfolding read_entry entry_from ◌>>=◌
  inside-levels zero is_erased e at a q = absurd (never (head_at erased s e at) q)
    where
      no_run : (kind : ℕ) (r : Said AttrsRead) {row : Row} {xs : List Attr} {p : ℕ} {e' : Endian} {end' : ℕ}
          → (r >>= (λ run. gives (ordinary is_erased e at kind a run))) ≡ gives (inside row xs p e' end') → ⊥
      no_run kind (gives run) t = let z : ◌≡◌ {A = ℕ} 0 1 = cc in omega arith
      no_run kind (refuses number place counts) t = let z : ◌≡◌ {A = ℕ} 0 1 = cc in omega arith

      never : (h : Result Head HeadError) {row : Row} {xs : List Attr} {p : ℕ} {e' : Endian} {end' : ℕ}
          → entry_from (source vendors global s) zero (mode is_erased e) at a h ≡ gives (inside row xs p e' end') → ⊥
      never (Ok (head.Null place)) t = let z : ◌≡◌ {A = ℕ} 0 1 = cc in omega arith
      never (Ok (head.Skipped place)) t = let z : ◌≡◌ {A = ℕ} 0 1 = cc in omega arith
      never (Ok (head.Root end)) t = let z : ◌≡◌ {A = ℕ} 0 1 = cc in omega arith
      never (Ok (head.Ordinary kind end)) t = no_run kind (attributes (source vendors global s) e false end at) t
      never (Err field) t = let z : ◌≡◌ {A = ℕ} 0 1 = cc in omega arith
  inside-levels (suc l) is_erased e at a q = omega arith

  -- ---- the loop

  module _ (levels : ℕ) (is_erased : Bool) (e : Endian) (end : ℕ) where
    abbrev pub whole : ℕ → ℕ → Said Entries
    whole a at = read_tags (source vendors global s) erased levels (mode is_erased e) end a at

    -- what is left with f turns
    abbrev left : ℕ → ℕ → ℕ → Said Entries
    left f a at = entries_from (source vendors global s) erased (within_of levels) levels (mode is_erased e) end f a at

    -- the entry at a place
    abbrev entry_here : ℕ → ℕ → Said Entry
    entry_here at a = read_entry (source vendors global s) erased levels (mode is_erased e) at a

    -- rs and xs were read and stored, some turns are left, and what is left comes to the whole
    pub record Loop (from : State) (rows₀ rows attrs₀ attrs : List ℕ) (now : State) : Type 0 where
      pub turns : ℕ
      pub rs : List Row
      pub xs : List Attr
      pub ready : Ready s now
      pub forward : from.at ≤ now.at
      pub some : 0 < turns
      pub fuel : length s < now.at + turns
      pub row_count : now.rows ≡ from.rows + length rs
      pub attr_count : now.attrs ≡ from.attrs + length xs
      pub row_cells : rows ≡ sets rows₀ (from.rows * row_width) (rows_words rs)
      pub attr_cells : attrs ≡ sets attrs₀ (from.attrs * attr_width) (attrs_words xs)
      pub rest : join rs xs (left turns now.attrs now.at) ≡ whole from.attrs from.at

    pub begin : {from : State} (rows attrs : List ℕ) → Ready s from → Loop from rows rows attrs attrs from
    unfolding rows_words attrs_words
    begin {from} rows attrs r =
        record {
          turns = suc (length s);
          rs = [];
          xs = [];
          ready = r;
          forward = omega arith;
          some = omega arith;
          fuel = omega arith;
          row_count = omega arith;
          attr_count = omega arith;
          row_cells = refl;
          attr_cells = refl;
          rest = join-none (left (suc (length s)) from.attrs from.at) ∙ walk-levels levels is_erased e end from.attrs from.at;
        }

    -- one turn of the definition
    abbrev behind : ℕ → ℕ → Said Entries → Said Entries
    behind f a w = w >>= (λ front. entries_then a front (λ b at'. left f b at'))

    abbrev onward : ℕ → ℕ → Said Entry → Said Entries
    onward f a x = x >>= (λ entry. behind f a (whole_entry (within_of levels) a entry))

    turn : (f a at : ℕ) → at < end → left (suc f) a at ≡ onward f a (entry_here at a)
    unfolding entries_from
    turn f a at h = rw (lt-ltb at end h, entries_from)

    past : (t a at : ℕ) → end ≤ at → left t a at ≡ gives (entries [] [] at)
    unfolding entries_from
    past zero a at h = refl
    past (suc f) a at h = rw (le-ltb at end h, entries_from)

    one_left : (t : ℕ) → 0 < t → (f : ℕ) × (t ≡ suc f)
    one_left zero h = absurd (omega arith)
    one_left (suc f) h = (f, refl)

    module _ {from now : State} {rows₀ rows attrs₀ attrs : List ℕ} (l : Loop from rows₀ rows attrs₀ attrs now) where
      -- more rows and attributes were read and stored, and what is left is what follows them
      extend : {rs : List Row} {xs : List Attr} {p : ℕ} {rows₁ attrs₁ : List ℕ} → Stored now rs xs p rows rows₁ attrs attrs₁ → Taken s now p
          → ((f : ℕ) → left (suc f) now.attrs now.at ≡ join rs xs (left f (now.attrs + length xs) p))
          → Loop from rows₀ rows₁ attrs₀ attrs₁ (advanced now (length rs) (length xs) p)
      extend {rs} {xs} {p} a taken step =
          let at_least_lem = one_left l.turns l.some in
          let f : ℕ = at_least_lem.0 in
          let turns : l.turns ≡ suc f = at_least_lem.1 in
          let there : now.at + 4 ≤ length s = taken.there in
          let forward : now.at + 4 ≤ p = taken.forward in
          let fuel : length s < now.at + l.turns = l.fuel in
          let n : length (l.rs ++ rs) ≡ length l.rs + length rs = length-append l.rs rs in
          let m : length (l.xs ++ xs) ≡ length l.xs + length xs = length-append l.xs xs in
          record {
            turns = f;
            rs = l.rs ++ rs;
            xs = l.xs ++ xs;
            ready = record { small = l.ready.small; rows_few = a.rows_few; attrs_few = a.attrs_few; near = a.near };
            forward = omega (arith, l.forward);
            some = omega arith;
            fuel = omega arith;
            row_count = omega (arith, l.row_count);
            attr_count = omega (arith, l.attr_count);
            row_cells =
                a.row_cells
                ∙ ap₂ (λ (u : List ℕ) (i : ℕ). sets u (i * row_width) (rows_words rs)) l.row_cells l.row_count
                ∙ sym (rows_append rows₀ from.rows l.rs rs);
            attr_cells =
                a.attr_cells
                ∙ ap₂ (λ (u : List ℕ) (i : ℕ). sets u (i * attr_width) (attrs_words xs)) l.attr_cells l.attr_count
                ∙ sym (attrs-append attrs₀ from.attrs l.xs xs);
            rest =
                join-join l.rs l.xs rs xs (left f (now.attrs + length xs) p)
                ∙ ap (join l.rs l.xs) (sym (step f))
                ∙ ap (λ (t : ℕ). join l.rs l.xs (left t now.attrs now.at)) (sym turns)
                ∙ l.rest;
          }

      -- how the whole comes out, where what is left comes to w
      comes-to : {w : Said Entries} → ((f : ℕ) → left (suc f) now.attrs now.at ≡ w) → join l.rs l.xs w ≡ whole from.attrs from.at
      comes-to step =
          let at_least_lem = one_left l.turns l.some in
          ap (join l.rs l.xs) (sym (step at_least_lem.0))
          ∙ ap (λ (t : ℕ). join l.rs l.xs (left t now.attrs now.at)) (sym at_least_lem.1)
          ∙ l.rest

      stops : (why : EntryError) {z : Result State EntryError} {rows₁ attrs₁ : List ℕ} → z ≡ Err why
          → ((f : ℕ) → left (suc f) now.attrs now.at ≡ said_read (Err why)) → WalkRead from (whole from.attrs from.at) z rows₀ rows₁ attrs₀ attrs₁
      unfolding said_read join walked ◌>>=◌
      stops (error.Nested key) {rows₁ = rows₁} {attrs₁} p step =
          let all : said_read (Err (error.Nested key)) ≡ whole from.attrs from.at = comes-to step in
          record {
            answer = ap said_read p ∙ ap (walked from) all;
            stores = subst (λ (w : Said Entries). WalkStores from w rows₀ rows₁ attrs₀ attrs₁) all tt;
          }
      stops (error.Unread why key byte) {rows₁ = rows₁} {attrs₁} p step =
          let all : said_read (Err (error.Unread why key byte)) ≡ whole from.attrs from.at = comes-to step in
          record {
            answer = ap said_read p ∙ ap (walked from) all;
            stores = subst (λ (w : Said Entries). WalkStores from w rows₀ rows₁ attrs₀ attrs₁) all tt;
          }

      -- the end is reached
      pub done : end ≤ now.at → WalkRead from (whole from.attrs from.at) (Ok now) rows₀ rows attrs₀ attrs
      unfolding said_read walked ◌>>=◌
      done h =
          let all : gives (entries l.rs l.xs now.at) ≡ whole from.attrs from.at =
          sym (join_last l.rs l.xs now.at) ∙ comes-to (λ f. past (suc f) now.attrs now.at h)
          in
          let here : now ≡ advanced from (length l.rs) (length l.xs) now.at =
          ap₂ (λ (n m : ℕ). record { at = now.at; rows = n; attrs = m }) l.row_count l.attr_count
          in
          record {
            answer = ap gives here ∙ ap (walked from) all;
            stores =
                subst (λ (w : Said Entries). WalkStores from w rows₀ rows attrs₀ attrs) all
                (record {
                  row_cells = l.row_cells;
                  attr_cells = l.attr_cells;
                  rows_few = omega (arith, l.row_count, l.ready.rows_few);
                  attrs_few = omega (arith, l.attr_count, l.ready.attrs_few);
                  forward = l.forward;
                  near = l.ready.near;
                });
          }

      module _ (h : now.at < end) {r : Result entry.the_data EntryError} {rows₁ attrs₁ : List ℕ}
          (q : EntryRead s now (entry_here now.at now.attrs) r rows rows₁ attrs attrs₁) where
        stores_as : {what : Said Entry} → entry_here now.at now.attrs ≡ what → EntryStores s now what rows rows₁ attrs attrs₁
        stores_as is = subst (λ (w : Said Entry). EntryStores s now w rows rows₁ attrs attrs₁) is q.stores

        -- an entry with nothing inside it
        pub again : {to : State} → r ≡ Ok (entry.Next to) → Loop from rows₀ rows₁ attrs₀ attrs₁ to
        unfolding whole_entry entries_then join ◌>>=◌
        again t =
            let told = told-next now (entry_here now.at now.attrs) q.answer t in
            let stored = stores_as told.3 in
            subst (λ (to : State). Loop from rows₀ rows₁ attrs₀ attrs₁ to) (sym told.4)
            (extend stored.0 stored.1
            (λ f. turn f now.attrs now.at h ∙ ap (λ (w : Said Entry). onward f now.attrs w) told.3))

        pub falls : {to : State} → r ≡ Ok (entry.Next to) → end - to.at < end - now.at
        falls {to} t =
            let told = told-next now (entry_here now.at now.attrs) q.answer t in
            let forward : now.at + 4 ≤ told.2 = (stores_as told.3).1.forward in
            let place : to.at ≡ told.2 = ap (λ (x : State). x.at) told.4 in
            omega arith

        -- an entry that is refused
        pub refused-here : {why : EntryError} {z : Result State EntryError} → r ≡ Err why → z ≡ Err why
            → WalkRead from (whole from.attrs from.at) z rows₀ rows₁ attrs₀ attrs₁
        refused-here {why} t p =
            let is = told-error (entry_here now.at now.attrs) (entry_answer now) q.answer t in
            stops why p (λ f. turn f now.attrs now.at h ∙ ap (λ (w : Said Entry). onward f now.attrs w) is ∙ err-bind why _)

        -- a root, of which the inside was read too
        module _ {to : State} {e' : Endian} {end' : ℕ} (t : r ≡ Ok (entry.Inside to e' end')) where
          pub inside-ready : Ready s to
          inside-ready =
              let told = told-inside now (entry_here now.at now.attrs) q.answer t in
              let stored = stores_as told.3 in
              subst (Ready s) (sym told.4)
              (record { small = l.ready.small; rows_few = stored.0.rows_few; attrs_few = stored.0.attrs_few; near = stored.0.near })

          pub inside-near : end' ≤ farthest
          inside-near = let told = told-inside now (entry_here now.at now.attrs) q.answer t in (stores_as told.3).2

          pub level_left : 0 < levels
          level_left =
              let told = told-inside now (entry_here now.at now.attrs) q.answer t in
              inside-levels levels is_erased e now.at now.attrs told.3

          module _ {r' : Result State EntryError} {rows₂ attrs₂ : List ℕ}
              (w : WalkRead to (read_tags (source vendors global s) erased (levels - 1) (mode true e') end' to.attrs to.at) r' rows₁ rows₂ attrs₁ attrs₂) where
            -- what is left after the root itself, given what its inside comes to
            turn_inside : (xs : List Attr) (p : ℕ) (row : Row) → entry_here now.at now.attrs ≡ gives (inside row xs p e' end') → (v : Said Entries)
                → read_tags (source vendors global s) erased (levels - 1) (mode true e') end' (now.attrs + length xs) p ≡ v → (f : ℕ)
                → left (suc f) now.attrs now.at ≡ behind f now.attrs (join (row ∷ []) xs v)
            unfolding whole_entry entries_then join ◌>>=◌
            turn_inside xs p row is v p' f =
                turn f now.attrs now.at h
                ∙ ap (λ (x : Said Entry). onward f now.attrs x) is
                ∙ ap (λ (u : Said Entries). behind f now.attrs (join (row ∷ []) xs u))
                (within-less levels e' end' (now.attrs + length xs) p level_left ∙ p')

            pub again-inside : {after : State} → r' ≡ Ok after → Loop from rows₀ rows₂ attrs₀ attrs₂ after
            unfolding entries_then join ◌>>=◌
            again-inside {after} t' =
                let told = told-inside now (entry_here now.at now.attrs) q.answer t in
                let row : Row = told.0 in
                let xs : List Attr = told.1 in
                let p : ℕ = told.2 in
                let mid : State = advanced now 1 (length xs) p in
                let nested : ℕ → ℕ → Said Entries = λ b at'. read_tags (source vendors global s) erased (levels - 1) (mode true e') end' b at' in
                let w' : WalkRead mid (nested (now.attrs + length xs) p) r' rows₁ rows₂ attrs₁ attrs₂ =
                subst (λ (x : State). WalkRead x (nested x.attrs x.at) r' rows₁ rows₂ attrs₁ attrs₂) told.4 w
                in
                let told' = told-walked mid (nested (now.attrs + length xs) p) w'.answer t' in
                let rs' : List Row = told'.0.rows in
                let xs' : List Attr = told'.0.attrs in
                let p' : ℕ = told'.0.stopped in
                let stored = stores_as told.3 in
                let stored' : Stored mid rs' xs' p' rows₁ rows₂ attrs₁ attrs₂ =
                subst (λ (u : Said Entries). WalkStores mid u rows₁ rows₂ attrs₁ attrs₂) told'.1 w'.stores
                in
                let attrs-sum : now.attrs + length xs + length xs' ≡ now.attrs + length (xs ++ xs') =
                add_assoc now.attrs (length xs) (length xs') ∙ ap (λ (k : ℕ). now.attrs + k) (sym (length-append xs xs'))
                in
                let rows-sum : now.rows + suc (length rs') ≡ now.rows + 1 + length rs' = omega arith in
                let arrived : advanced now (suc (length rs')) (length (xs ++ xs')) p' ≡ after =
                ap₂ (λ (n m : ℕ). record { at = p'; rows = n; attrs = m }) rows-sum (sym attrs-sum) ∙ sym told'.2
                in
                subst (λ (x : State). Loop from rows₀ rows₂ attrs₀ attrs₂ x) arrived
                (extend {rs = row ∷ rs'} {xs = xs ++ xs'} (stored-then stored.0 stored')
                (record { there = stored.1.there; forward = omega (arith, stored.1.forward, stored'.forward) })
                (λ f. turn_inside xs p row told.3 (gives told'.0) told'.1 f))

            pub falls-inside : {after : State} → r' ≡ Ok after → end - after.at < end - now.at
            falls-inside {after} t' =
                let told = told-inside now (entry_here now.at now.attrs) q.answer t in
                let forward : now.at + 4 ≤ told.2 = (stores_as told.3).1.forward in
                let place : to.at ≡ told.2 = ap (λ (x : State). x.at) told.4 in
                let nested : Said Entries = read_tags (source vendors global s) erased (levels - 1) (mode true e') end' to.attrs to.at in
                let told' = told-walked to nested w.answer t' in
                let stored' : Stored to told'.0.rows told'.0.attrs told'.0.stopped rows₁ rows₂ attrs₁ attrs₂ =
                subst (λ (u : Said Entries). WalkStores to u rows₁ rows₂ attrs₁ attrs₂) told'.1 w.stores
                in
                let forward' : to.at ≤ told'.0.stopped = stored'.forward in
                let place' : after.at ≡ told'.0.stopped = ap (λ (x : State). x.at) told'.2 in
                omega arith

            pub refused-inside : {why : EntryError} {z : Result State EntryError} → r' ≡ Err why → z ≡ Err why
                → WalkRead from (whole from.attrs from.at) z rows₀ rows₂ attrs₀ attrs₂
            unfolding join
            refused-inside {why} t' p =
                let told = told-inside now (entry_here now.at now.attrs) q.answer t in
                let is = told-refused to (read_tags (source vendors global s) erased (levels - 1) (mode true e') end' to.attrs to.at) w.answer t' in
                let same : read_tags (source vendors global s) erased (levels - 1) (mode true e') end' (now.attrs + length told.1) told.2 ≡ said_read (Err why) =
                ap (λ (x : State). read_tags (source vendors global s) erased (levels - 1) (mode true e') end' x.attrs x.at) (sym told.4) ∙ is
                in
                stops why p
                (λ f. turn_inside told.1 told.2 told.0 told.3 (said_read (Err why)) same f ∙ ap (behind f now.attrs) (err-bind why _) ∙ err-bind why _)

      -- every turn goes forward, and the tables keep their lengths
      pub rows_kept : length rows ≡ length rows₀
      rows_kept = ap length l.row_cells ∙ length-sets rows₀ (from.rows * row_width) (rows_words l.rs)

      pub attrs-kept : length attrs ≡ length attrs₀
      attrs-kept = ap length l.attr_cells ∙ length-sets attrs₀ (from.attrs * attr_width) (attrs_words l.xs)
