-- With erased entries left out, no row that was read is erased.
use Rattle.std.specs.Prelude.{Result, Ok, Err}
use Rattle.format.proofs.Laws.Said.{rooms-gave}
use Prim.Native.Nat.{ℕ, zero, suc, ◌+◌, ◌<◌}
use native.Mathlib.Omega.{arith}
use mathlib.Core.Path.{◌≡◌, refl, ap, subst, ◌∙◌}
use mathlib.Core.Bool.{true, false}
use mathlib.Core.List.{List, [], ◌∷◌, ◌++◌}
use lib.ListN.{length}
use lib.Dec.{ltb, eqb}
use Rattle.entries.specs.Source.{source, mode}
use Rattle.numbers.proofs.Laws.Tests.{cond-all}
use Rattle.numbers.specs.Value.{value_of}
use Rattle.numbers.proofs.Laws.Value.{read_all}
use Rattle.numbers.specs.declared.Endian.{Endian}
use Rattle.numbers.specs.declared.Endian.TheVariants.{Big, Little}
use Rattle.format.specs.Lookup.{is_on}
use Rattle.format.specs.TagKind.{tags}
use Rattle.format.specs.TagKind as tag
use Rattle.format.specs.Limits.{erased_limit, section_limit}
use Rattle.format.specs.Settings.{settings_hold}
use Rattle.format.specs.Said.{Said, gives, refuses, refuse, ◌>>=◌}
use Rattle.format.specs.declared.settings.Settings.{Settings}
use Rattle.format.specs.declared.refusal.Reason.TheVariants as reason
use Rattle.tables.specs.Row.{erased_row, row_at, rows_from}
use Rattle.tables.specs.Unit.{no_unit, unit_of, in_unit, units_from, with_units}
use Rattle.tables.proofs.Laws.Unit.{units-length}
use Rattle.tables.specs.declared.row.Row.{Row}
use Rattle.tables.specs.declared.row.Attr.{Attr}
use Rattle.tables.specs.declared.row.Counts.{Counts}
use Rattle.entries.specs.Head.{headless, tag_head, size_head, head_at}
use Rattle.entries.specs.Run.{AttrsRead}
use Rattle.entries.specs.Entry.{Entry, next, inside, flag_of, flags_of, little_flag, attributes, entry_from, read_entry}
use Rattle.entries.specs.Inside.Promise.{ordinary}
use Rattle.entries.specs.Walk.{Entries, entries_then, whole_entry, entries_from, read_tags}
use Rattle.entries.specs.Section.{whole_walk, section_entries, read_debug_section}
use Rattle.entries.proofs.Laws.Walk.{join}
use Rattle.entries.proofs.Laws.Section.{section_gave}
use Rattle.entries.proofs.Laws.Filled.{answer-read}
use Rattle.entries.proofs.Laws.KnownRun.{by-test}
use Rattle.entries.specs.declared.head.Head.{Head}
use Rattle.entries.specs.declared.head.Head.TheVariants.{Null, Skipped, Root, Ordinary}
use Rattle.entries.specs.declared.head.HeadError.{HeadError}

-- none of the rows is erased
abbrev Plain : List Row → Type 0
Plain [] = Unit
Plain (r ∷ rs) = (erased_row r.flags ≡ false) × Plain rs

plain_then : (rs rs' : List Row) → Plain rs → Plain rs' → Plain (rs ++ rs')
plain_then [] rs' p q = q
plain_then (r ∷ rs) rs' p q = (p.0, plain_then rs rs' p.1 q)

plain-flags : (e : Endian) → erased_row (flags_of false false e) ≡ false
unfolding erased_row flags_of flag_of little_flag
plain-flags Big = refl
plain-flags Little = refl

-- ---- an entry: with the flag off there are no roots

abbrev NoRoot : Result Head HeadError → Type 0
NoRoot (Ok (Root end)) = ⊥
NoRoot (Ok (Null place)) = Unit
NoRoot (Ok (Skipped place)) = Unit
NoRoot (Ok (Ordinary kind end)) = Unit
NoRoot (Err field) = Unit

no-root : (s : List ℕ) (e : Endian) (at : ℕ) → NoRoot (head_at false s e at)
unfolding head_at size_head tag_head
no-root s e at =
    let size : ℕ = value_of e 4 s at in
    read_all (size_head false s e at) (headless reason.Short at) e 4 s at NoRoot
    (λ t. cond-all NoRoot (ltb size 8) (λ few. tt)
    (λ some. read_all (tag_head false (at + size) (at + 4)) (headless reason.Short (at + 4)) e 2 s (at + 4) NoRoot
    (λ u. cond-all NoRoot (is_on (value_of e 2 s (at + 4)) tags)
    (λ k. cond-all NoRoot (eqb (value_of e 2 s (at + 4)) tag.padding) (λ p. tt) (λ p. tt))
    (λ k. tt))
    (λ u. tt)))
    (λ t. tt)

abbrev EntryPlain : Said Entry → Type 0
EntryPlain (gives (next rs xs place)) = Plain rs
EntryPlain (gives (inside r xs place e end)) = ⊥
EntryPlain (refuses number place counts) = Unit

ordinary-plain : (e : Endian) (at kind a : ℕ) (r : Said AttrsRead) → EntryPlain (r >>= (λ run. gives (ordinary false e at kind a run)))
unfolding ◌>>=◌
ordinary-plain e at kind a (gives run) = (plain-flags e, tt)
ordinary-plain e at kind a (refuses number place counts) = tt

entry-from-plain : (vendors : List ℕ) (global : ℕ) (s : List ℕ) (levels : ℕ) (e : Endian) (at a : ℕ) (h : Result Head HeadError) → NoRoot h
    → EntryPlain (entry_from (source vendors global s) levels (mode false e) at a h)
unfolding entry_from
entry-from-plain vendors global s levels e at a (Ok (Null place)) p = (plain-flags e, tt)
entry-from-plain vendors global s levels e at a (Ok (Skipped place)) p = tt
entry-from-plain vendors global s levels e at a (Ok (Root end)) p = absurd p
entry-from-plain vendors global s levels e at a (Ok (Ordinary kind end)) p = ordinary-plain e at kind a (attributes (source vendors global s) e false end at)
entry-from-plain vendors global s levels e at a (Err field) p = tt

entry-plain : (vendors : List ℕ) (global : ℕ) (s : List ℕ) (levels : ℕ) (e : Endian) (at a : ℕ)
    → EntryPlain (read_entry (source vendors global s) false levels (mode false e) at a)
unfolding read_entry
entry-plain vendors global s levels e at a = entry-from-plain vendors global s levels e at a (head_at false s e at) (no-root s e at)

-- ---- a walk

abbrev WalkPlain : Said Entries → Type 0
WalkPlain (gives all) = Plain all.rows
WalkPlain (refuses number place counts) = Unit

join-plain : (rs : List Row) (xs : List Attr) (w : Said Entries) → Plain rs → WalkPlain w → WalkPlain (join rs xs w)
unfolding join ◌>>=◌
join-plain rs xs (gives back) p q = plain_then rs back.rows p q
join-plain rs xs (refuses number place counts) p q = tt

onward-plain : (within : Endian → ℕ → ℕ → ℕ → Said Entries) (a : ℕ) (x : Said Entry) (k : ℕ → ℕ → Said Entries) → EntryPlain x
    → ((b at' : ℕ) → WalkPlain (k b at')) → WalkPlain (x >>= (λ entry. whole_entry within a entry >>= (λ front. entries_then a front k)))
unfolding whole_entry entries_then join ◌>>=◌
onward-plain within a (gives (next rs xs place)) k p q = join-plain rs xs (k (a + length xs) place) p (q (a + length xs) place)
onward-plain within a (gives (inside r xs place e end)) k p q = absurd p
onward-plain within a (refuses number place counts) k p q = tt

from-plain : (vendors : List ℕ) (global : ℕ) (s : List ℕ) (within : Endian → ℕ → ℕ → ℕ → Said Entries) (levels : ℕ) (e : Endian) (end f a at : ℕ)
    → WalkPlain (entries_from (source vendors global s) false within levels (mode false e) end f a at)
unfolding entries_from
from-plain vendors global s within levels e end zero a at = tt
from-plain vendors global s within levels e end (suc f) a at =
    by-test (ltb at end)
    (λ t. rw (t, entries_from)
    (onward-plain within a (read_entry (source vendors global s) false levels (mode false e) at a)
    (λ b at'. entries_from (source vendors global s) false within levels (mode false e) end f b at') (entry-plain vendors global s levels e at a)
    (λ b at'. from-plain vendors global s within levels e end f b at')))
    (λ t. rw (t, entries_from) tt)

walk-plain : (vendors : List ℕ) (global : ℕ) (s : List ℕ) (levels : ℕ) (e : Endian) (end a at : ℕ)
    → WalkPlain (read_tags (source vendors global s) false levels (mode false e) end a at)
unfolding read_tags
walk-plain vendors global s zero e end a at = from-plain vendors global s (λ e' end' b at'. refuse reason.Nested at') zero e end (suc (length s)) a at
walk-plain vendors global s (suc l) e end a at =
    from-plain vendors global s (λ e' end' b at'. read_tags (source vendors global s) false l (mode true e') end' b at') (suc l) e end (suc (length s)) a at

whole_plain : (settings : Settings) (vendors s : List ℕ) → settings.erased ≡ false → WalkPlain (whole_walk settings vendors s)
unfolding whole_walk
whole_plain settings vendors s off = rw off (walk-plain vendors settings.roles.global_ref s erased_limit settings.endian (length s) 0 0)

-- ---- the theorem

plain-in-units : (before : ℕ) (rs : List Row) → Plain rs → Plain (units_from before rs)
unfolding units_from in_unit
plain-in-units before [] p = tt
plain-in-units before (r ∷ rs) p = (p.0, plain-in-units (unit_of before r) rs p.1)

plain_row : (t : List ℕ) (i : ℕ) (rs : List Row) → Plain rs → rows_from t i (length rs) ≡ rs → (j : ℕ) → j < length rs
    → erased_row (row_at t (i + j)).flags ≡ false
unfolding rows_from
plain_row t i [] p q j h = elim h [ ]
plain_row t i (r ∷ rs) p q zero h =
    let here : row_at t i ≡ r = cc in
    let place : i + 0 ≡ i = omega arith in
    ap (λ (k : ℕ). erased_row (row_at t k).flags) place ∙ ap (λ (x : Row). erased_row x.flags) here ∙ p.0
plain_row t i (r ∷ rs) p q (suc j) h =
    let others : rows_from t (suc i) (length rs) ≡ rs = cc in
    let place : i + suc j ≡ suc i + j = omega arith in
    ap (λ (k : ℕ). erased_row (row_at t k).flags) place ∙ plain_row t (suc i) rs p.1 others j (omega arith)

-- read with erased entries left out, no row of the table is erased
pub none-erased : (settings : Settings) (vendors sizes s rows attrs : List ℕ) (c : Counts) → settings.erased ≡ false
    → (read_debug_section settings vendors sizes s rows attrs).answer ≡ gives c → (j : ℕ) → j < c.rows
    → erased_row (row_at (read_debug_section settings vendors sizes s rows attrs).first j).flags ≡ false
none-erased settings vendors sizes s rows attrs c off answers j h =
    let filled = answer-read settings vendors sizes s rows attrs c answers in
    let counted : c.rows ≡ length filled.rs = ap (λ (d : Counts). d.rows) filled.counted in
    let many : length (with_units filled.rs) ≡ length filled.rs = units-length no_unit filled.rs in
    let place : j ≡ 0 + j = omega arith in
    ap (λ (k : ℕ). erased_row (row_at (read_debug_section settings vendors sizes s rows attrs).first k).flags) place
    ∙ plain_row (read_debug_section settings vendors sizes s rows attrs).first 0 (with_units filled.rs)
    (plain-in-units no_unit filled.rs (subst WalkPlain filled.whole (whole_plain settings vendors s off))) (rw many filled.rows_held) j (omega arith)

-- ---- an answer passed the tests of settings and length

pub answer-tested : (settings : Settings) (vendors sizes s rows attrs : List ℕ) (c : Counts)
    → (read_debug_section settings vendors sizes s rows attrs).answer ≡ gives c
    → (settings_hold settings vendors sizes ≡ true) × (ltb (length s) section_limit ≡ true)
unfolding read_debug_section
answer-tested settings vendors sizes s rows attrs c answers =
    let passed = section_gave settings vendors sizes s (rooms-gave rows attrs (section_entries settings vendors sizes s) _ answers).1 in
    (passed.0, passed.1)
