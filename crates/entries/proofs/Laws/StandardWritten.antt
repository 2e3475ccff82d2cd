-- What is accepted was so written: a section that is read with the erased flag off, in which every entry ends where its size says, is the standard's
-- written form of what was read.
use Prim.Native.Nat.{ℕ, zero, suc, ◌+◌, ◌≤◌, ◌<◌}
use native.Mathlib.Omega.{arith}
use mathlib.Core.Path.{◌≡◌, refl, sym, ap, ◌∙◌, subst}
use mathlib.Core.Bool.{false}
use mathlib.Core.List.{List, [], ◌∷◌, ◌++◌}
use lib.ListN.{length, length-append}
use borrow.Author.Tests.{lt-ltb}
use Rattle.numbers.specs.Value.{value_of}
use Rattle.numbers.specs.Written.{Bytes}
use Rattle.numbers.specs.declared.Endian.{Endian}
use Rattle.numbers.proofs.Laws.Stands.{Stands, none-stands, both-stand, stands-all}
use Rattle.standard.specs.Numbers.{OnList, padding_tag}
use Rattle.standard.specs.Numbers as standard
use Rattle.standard.specs.Entries.{Die, written_die, written_dies}
use Rattle.standard.specs.Exact.{Attributes, Exact}
use Rattle.standard.specs.Exact as exact
use Rattle.format.specs.Said.{Said, gives, placed}
use Rattle.format.specs.Lookup.{is_on}
use Rattle.format.specs.TagKind as tag
use Rattle.format.proofs.Laws.Said.{step-gave, given_is, given-refused}
use Rattle.tables.specs.Unit.{no_unit, with_units}
use Rattle.tables.specs.declared.row.Row.{Row}
use Rattle.tables.specs.declared.row.Attr.{Attr}
use Rattle.entries.specs.Source.{source, mode}
use Rattle.entries.specs.Entry.{Entry, next, read_entry}
use Rattle.entries.specs.Walk.{Entries, entries, entries_from, read_tags}
use Rattle.entries.specs.Standard.{taken, data_flag, rows_of, attrs_of, WrittenAs, StandardTags}
use Rattle.entries.specs.Standard as table
use Rattle.entries.proofs.Laws.KnownRun.{by-test}
use Rattle.entries.proofs.Laws.StandardEntry.{null-head, padding-head, ordinary-head, unknown-head, null_read, padding-read, ordinary-read, refused-read}
use Rattle.entries.proofs.Laws.StandardRead.{Walks, walks, walk_step, standard-read, standard-values}
use Rattle.entries.proofs.Laws.WrittenRun.{RunFound, run-found}
use Rattle.entries.proofs.Laws.WrittenEntry.{DieFound, null-found, padding-found, entry_found}

-- entries that stand at a place, up to the section's end
record DiesFound (numbers : List ℕ) (e : Endian) (s : List ℕ) (at : ℕ) : Type 0 where
  found : List (Die numbers e)
  stands : Stands s at (written_dies numbers e found)
  ends : at + length (written_dies numbers e found) ≡ length s

-- one entry more, before the others
first-die : {numbers : List ℕ} {e : Endian} {s : List ℕ} {at place : ℕ} → DieFound numbers e s at place → DiesFound numbers e s place → DiesFound numbers e s at
unfolding written_dies
first-die {numbers} {e} {s} {at} {place} d others =
    let front : List ℕ = written_die numbers e d.found in
    let back : List ℕ = written_dies numbers e others.found in
    let whole : length (front ++ back) ≡ length front + length back = length-append front back in
    let here : at + length front ≡ place = d.ends in
    let end : place + length back ≡ length s = others.ends in
    record { found = d.found ∷ others.found; stands = both-stand s at front back d.stands (rw here others.stands); ends = omega arith }

-- the first row's tag, and the others
tags-part : {r : Row} {rs : List Row} → StandardTags (r ∷ rs) → OnList r.kind standard.tags × StandardTags rs
tags-part (table.more r rs on others) = (on, others)

-- attributes told at another place
placed-gave : {A : Type 0} (place : ℕ) (d : Said A) {x : A} → placed place d ≡ gives x → d ≡ gives x
unfolding placed
placed-gave place (gives y) p = p
placed-gave place (Said.refuses number elsewhere counts) p = absurd (given-refused (sym p))

module _ (vendors : List ℕ) (global : ℕ) (e : Endian) (s : List ℕ) (small : Bytes s) (levels : ℕ) where
  module _ (at a : ℕ) (long : 8 ≤ value_of e 4 s at) (no-padding : value_of e 2 s (at + 4) ≡ padding_tag → ⊥) (fits : at + value_of e 4 s at ≤ length s)
      (attributes : Attributes e s (at + value_of e 4 s at) (at + 6)) where
    -- an entry of attributes that was read: its one row has its tag, its attributes were written
    record OrdinaryFound : Type 0 where
      row : Row
      xs : List Attr
      read : read_entry (source vendors global s) false levels (mode false e) at a ≡ gives (next (row ∷ []) xs (at + value_of e 4 s at))
      tag_is : row.kind ≡ value_of e 2 s (at + 4)
      run : RunFound (taken vendors) e s (at + 6) (at + value_of e 4 s at)

    ordinary-found : {x : Entry} → read_entry (source vendors global s) false levels (mode false e) at a ≡ gives x → OrdinaryFound
    ordinary-found read =
        by-test (is_on (value_of e 2 s (at + 4)) tag.tags)
        (λ k.
        let as_read = ordinary-read (source vendors global s) levels e at a (ordinary-head e s at refl fits refl long k no-padding) in
        let gave = step-gave _ _ (sym as_read ∙ read) in
        let found = run-found vendors global e s small (at + value_of e 4 s at) fits attributes (suc (length s)) (omega arith) (placed-gave at _ gave.1) in
        record {
          row = record { key = at; kind = value_of e 2 s (at + 4); flags = data_flag e; first = a; count = length gave.0.attrs; unit = no_unit };
          xs = gave.0.attrs;
          read = rw found.1 at (read ∙ sym gave.2);
          tag_is = refl;
          run = found.0;
        })
        (λ k. absurd (given-refused (sym read ∙ refused-read (source vendors global s) levels e at a (unknown-head e s at refl fits refl long k))))

  module _ (within : Endian → ℕ → ℕ → ℕ → Said Entries) where
    -- a walk from a place on gave these rows
    record Gives (f a at : ℕ) (rs : List Row) : Type 0 where
      xs : List Attr
      place : ℕ
      walked : entries_from (source vendors global s) false within levels (mode false e) (length s) f a at ≡ gives (entries rs xs place)

    -- its first entry was read
    entry-gave : (f a at : ℕ) {rs : List Row} → at < length s → Gives (suc f) a at rs
        → (x : Entry) × (read_entry (source vendors global s) false levels (mode false e) at a ≡ gives x)
    unfolding entries_from
    entry-gave f a at h gave =
        let first = step-gave (read_entry (source vendors global s) false levels (mode false e) at a) _ (rw (lt-ltb at (length s) h, entries_from) at gave.walked) in
        (first.0, first.1)

    -- and the others behind it
    others-gave : (f a at : ℕ) {rs first : List Row} {xs : List Attr} {place : ℕ} → at < length s
        → read_entry (source vendors global s) false levels (mode false e) at a ≡ gives (next first xs place) → Gives (suc f) a at rs
        → (others : List Row) × (rs ≡ first ++ others) × Gives f (a + length xs) place others
    others-gave f a at {xs = xs} {place} h read gave =
        let back = step-gave (entries_from (source vendors global s) false within levels (mode false e) (length s) f (a + length xs) place) _
        (sym (walk_step (source vendors global s) within levels e (length s) f a h read) ∙ gave.walked)
        in
        (back.0.rows, ap (λ (w : Entries). w.rows) (sym (given_is back.2)), record { xs = back.0.attrs; place = back.0.stopped; walked = back.1 })

    dies-found : {at : ℕ} → Exact e s at → (f a : ℕ) {rs : List Row} → length s < at + f → Gives f a at rs → StandardTags rs → DiesFound (taken vendors) e s at
    unfolding written_dies
    dies-found exact.ends f a h gave tags = record { found = []; stands = none-stands (omega arith); ends = omega arith }
    dies-found (exact.null at some few fits rest) zero a h gave tags = absurd (omega arith)
    dies-found (exact.null at some few fits rest) (suc f) a h gave tags =
        let others = others-gave f a at (omega arith) (null_read (source vendors global s) levels e at a (null-head e s at refl fits some few)) gave in
        first-die (null-found (taken vendors) e s small at fits some few)
        (dies-found rest f _ (omega arith) others.2 (tags-part (subst StandardTags others.1 tags)).1)
    dies-found (exact.padding at long tells fits rest) zero a h gave tags = absurd (omega arith)
    dies-found (exact.padding at long tells fits rest) (suc f) a h gave tags =
        let others = others-gave f a at (omega arith) (padding-read (source vendors global s) levels e at a (padding-head e s at refl fits tells long refl)) gave in
        first-die (padding-found (taken vendors) e s small at fits long tells) (dies-found rest f _ (omega arith) others.2 (subst StandardTags others.1 tags))
    dies-found (exact.entry at long no-padding fits attributes rest) zero a h gave tags = absurd (omega arith)
    dies-found (exact.entry at long no-padding fits attributes rest) (suc f) a h gave tags =
        let o : OrdinaryFound at a long no-padding fits attributes = ordinary-found at a long no-padding fits attributes (entry-gave f a at (omega arith) gave).1 in
        let others = others-gave f a at (omega arith) o.read gave in
        let parts = tags-part (subst StandardTags others.1 tags) in
        first-die (entry_found (taken vendors) e s small at fits long (rw o.tag_is at parts.0) no-padding o.run)
        (dies-found rest f _ (omega arith) others.2 parts.1)

-- the theorem
pub standard-written : (vendors : List ℕ) (global : ℕ) (e : Endian) (levels : ℕ) (s : List ℕ) → Bytes s → {rs : List Row} {xs : List Attr} {place : ℕ}
    → read_tags (source vendors global s) false levels (mode false e) (length s) 0 0 ≡ gives (entries rs xs place) → Exact e s 0 → StandardTags rs
    → WrittenAs vendors e s (with_units rs) xs
standard-written vendors global e levels s small {rs} {xs} {place} read is-exact tags =
    let numbers : List ℕ = taken vendors in
    let walk : Walks (source vendors global s) levels = walks (source vendors global s) levels in
    let d : DiesFound numbers e s 0 =
    dies-found vendors global e s small levels walk.within is-exact (suc (length s)) 0 (omega arith)
    (record { xs = xs; place = place; walked = sym (walk.same e (length s) 0 0) ∙ read }) tags
    in
    let same : written_dies numbers e d.found ≡ s = stands-all d.stands (omega arith) in
    let again = rw same at (standard-read vendors global e levels d.found) in
    let all : entries (rows_of numbers e 0 0 d.found) (attrs_of numbers e 0 d.found) (length s) ≡ entries rs xs place = cc in
    let attributes : attrs_of numbers e 0 d.found ≡ xs = ap (λ (w : Entries). w.attrs) all in
    record {
      dies = d.found;
      written = same;
      rows = ap (λ (w : Entries). with_units w.rows) all;
      attributes = attributes;
      values = rw (same, attributes) at (standard-values numbers e d.found);
    }
