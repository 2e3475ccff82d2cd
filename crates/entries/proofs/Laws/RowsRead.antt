-- What the rows of a walk are like: keys rise by 4 or more and lie inside, kinds are tags, runs follow each other, attributes are known.
use Rattle.std.specs.Prelude.{Result, Ok}
use Prim.Native.Nat.{ℕ, zero, suc, ◌+◌, ◌≤◌, ◌<◌}
use native.Mathlib.Nat.{le_refl, le_trans, add-zero, add_assoc}
use native.Mathlib.Omega.{arith}
use mathlib.Core.Path.{◌≡◌, refl, subst}
use mathlib.Core.Bool.{Bool, true, false}
use mathlib.Core.List.{List, [], ◌∷◌, ◌++◌, append_assoc, append-nil}
use lib.ListN.{length, length-append}
use lib.Dec.{leb, ltb, eqb}
use borrow.Author.Tests.{ltb-false, leb-false}
use Rattle.entries.specs.Source.{source, mode}
use Rattle.numbers.proofs.Laws.Tests.{cond-all}
use Rattle.numbers.specs.Value.{value_of}
use Rattle.numbers.proofs.Laws.Value.{there-inside, read_all}
use Rattle.numbers.specs.declared.Endian.{Endian}
use Rattle.numbers.specs.declared.Endian.TheVariants.{Big, Little}
use Rattle.format.specs.Lookup.{is_on}
use Rattle.format.specs.TagKind.{tags}
use Rattle.format.specs.TagKind as tag
use Rattle.format.specs.Said.{Said, gives, refuses, refuse, ◌>>=◌}
use Rattle.format.specs.declared.refusal.Reason.TheVariants as reason
use Rattle.tables.specs.Row.{endian_of}
use Rattle.tables.specs.declared.row.Row.{Row}
use Rattle.tables.specs.declared.row.Attr.{Attr}
use Rattle.entries.specs.Head.{headless, null_end, tag_head, size_head, head_at}
use Rattle.entries.specs.Run.{AttrsRead}
use Rattle.entries.specs.Entry.{Entry, next, inside, row, flag_of, flags_of, little_flag, root_kind, attributes, entry_from, read_entry}
use Rattle.entries.specs.Inside.Promise.{ordinary, rooted}
use Rattle.entries.specs.Walk.{Entries, entries, entries_then, whole_entry, entries_from, read_tags}
use Rattle.entries.proofs.Laws.Walk.{join}
use Rattle.entries.proofs.Laws.KnownRun.{AllKnown, none_known, RunKnown, by-test, run-known}
use Rattle.format.proofs.Laws.Said.{placed-keeps}
use Rattle.entries.specs.declared.head.Head.{Head}
use Rattle.entries.specs.declared.head.Head.TheVariants.{Null, Root}
use Rattle.entries.specs.declared.head.HeadError.{HeadError}

-- a row whose run begins at `run`, and its own attributes
pub record RowRead (s vendors : List ℕ) (run : ℕ) (r : Row) (own : List Attr) : Type 0 where
  pub fits : r.key + 4 ≤ length s
  pub is_tag : is_on r.kind tags ≡ true
  pub flags_small : r.flags ≤ 7
  pub run_begins : r.first ≡ run
  pub run_long : r.count ≡ length own
  pub all_known : AllKnown s vendors (endian_of r.flags) own

-- rows with keys from `least` on, each key 4 or more above the one before, and their attributes, of which the first is number `run`; what follows stands
-- at `place`
pub data RowsRead (s vendors : List ℕ) : ℕ → ℕ → List Row → List Attr → ℕ → Type 0 where
  no_rows : {least run place : ℕ} → least ≤ place → RowsRead s vendors least run [] [] place
  more_rows : {least run place : ℕ} {r : Row} {own xs : List Attr} {rs : List Row} → least ≤ r.key → RowRead s vendors run r own
      → RowsRead s vendors (r.key + 4) (run + length own) rs xs place → RowsRead s vendors least run (r ∷ rs) (own ++ xs) place

-- keys from a lower place on
rows-lower : {s vendors : List ℕ} {lower least run place : ℕ} {rs : List Row} {xs : List Attr} → lower ≤ least → RowsRead s vendors least run rs xs place
    → RowsRead s vendors lower run rs xs place
rows-lower h (no_rows k) = no_rows (le_trans h k)
rows-lower h (more_rows k r later) = more_rows (le_trans h k) r later

-- what follows stands no lower
pub rows-ahead : {s vendors : List ℕ} {least run place : ℕ} {rs : List Row} {xs : List Attr} → RowsRead s vendors least run rs xs place → least ≤ place
rows-ahead (no_rows h) = h
rows-ahead (more_rows h r later) = let more = rows-ahead later in omega arith

-- rows, and rows after them
pub rows_then : {s vendors : List ℕ} {least run place last : ℕ} {rs rs' : List Row} {xs xs' : List Attr} → RowsRead s vendors least run rs xs place
    → RowsRead s vendors place (run + length xs) rs' xs' last → RowsRead s vendors least run (rs ++ rs') (xs ++ xs') last
rows_then (no_rows h) others = rows-lower h (rw add-zero at others)
rows_then (more_rows {own = own} {xs = xs} h r later) others =
    rw append_assoc (more_rows h r (rows_then later (rw (length-append own xs, ← add_assoc) at others)))

-- ---- an entry

-- the flags say the endianness, and are at most 7
flags-say : (is_erased root : Bool) (e : Endian) → endian_of (flags_of is_erased root e) ≡ e
unfolding endian_of flags_of flag_of little_flag
flags-say true true Big = refl
flags-say true true Little = refl
flags-say true false Big = refl
flags-say true false Little = refl
flags-say false true Big = refl
flags-say false true Little = refl
flags-say false false Big = refl
flags-say false false Little = refl

flag-few : (on : Bool) (value : ℕ) → flag_of on value ≤ value
unfolding flag_of
flag-few true value = le_refl value
flag-few false value = omega arith

little-few : (e : Endian) → little_flag e ≤ 4
unfolding little_flag
little-few Big = omega arith
little-few Little = omega arith

flags-few : (is_erased root : Bool) (e : Endian) → flags_of is_erased root e ≤ 7
unfolding flags_of
flags-few is_erased root e = omega (arith, flag-few is_erased 1, flag-few root 2, little-few e)

-- an entry's rows, from its place on
abbrev pub EntryRows : List ℕ → List ℕ → ℕ → ℕ → Said Entry → Type 0
EntryRows s vendors at a (gives (next rs xs place)) = RowsRead s vendors at a rs xs place
EntryRows s vendors at a (gives (inside r xs place e end)) = RowsRead s vendors at a (r ∷ []) xs place
EntryRows s vendors at a (refuses number place counts) = Unit

module _ (s vendors : List ℕ) (at a : ℕ) where
  -- the one row of an entry whose first four bytes are there
  one_row : (is_erased root : Bool) (e : Endian) (kind : ℕ) (xs : List Attr) {place : ℕ} → at + 4 ≤ length s → is_on kind tags ≡ true → AllKnown s vendors e xs
      → at + 4 ≤ place → RowsRead s vendors at a (row is_erased root e at kind a xs ∷ []) xs place
  one_row is_erased root e kind xs {place} room k known forward =
      let r : Row = row is_erased root e at kind a xs in
      let whole : RowRead s vendors a r xs =
      record {
        fits = room;
        is_tag = k;
        flags_small = flags-few is_erased root e;
        run_begins = refl;
        run_long = refl;
        all_known = rw (flags-say is_erased root e) known;
      }
      in
      subst (λ (own : List Attr). RowsRead s vendors at a (r ∷ []) own place) (append-nil xs) (more_rows (le_refl at) whole (no_rows forward))

  ordinary-rows : (is_erased : Bool) (e : Endian) (kind : ℕ) (r : Said AttrsRead) → at + 4 ≤ length s → is_on kind tags ≡ true → RunKnown s vendors e (at + 6) r
      → EntryRows s vendors at a (r >>= (λ run. gives (ordinary is_erased e at kind a run)))
  unfolding ◌>>=◌
  ordinary-rows is_erased e kind (gives x) room k known = one_row is_erased false e kind x.attrs room k known.0 (omega (arith, known.1))
  ordinary-rows is_erased e kind (refuses number place counts) room k known = tt

  -- either kind of a root is a tag
  root-tag : (high : Bool) → is_on (root_kind high) tags ≡ true
  unfolding root_kind tags is_on
  root-tag true = refl
  root-tag false = refl

  rooted-rows : (e : Endian) (end : ℕ) (r : Said AttrsRead) → at + 4 ≤ length s → RunKnown s vendors e (at + 6) r
      → EntryRows s vendors at a (r >>= (λ run. gives (rooted e at end a run)))
  unfolding ◌>>=◌
  rooted-rows e end (gives x) room known =
      one_row true true e (root_kind x.high) x.attrs room (root-tag x.high) known.0 (omega (arith, known.1))
  rooted-rows e end (refuses number place counts) room known = tt

  module _ (global : ℕ) where
    -- the attributes of an entry are known
    pub attributes-known : (e : Endian) (root : Bool) (end : ℕ) → RunKnown s vendors e (at + 6) (attributes (source vendors global s) e root end at)
    unfolding attributes
    attributes-known e root end =
        placed-keeps (RunKnown s vendors e (at + 6)) at _ (run-known s vendors e global root end (suc (length s)) false (at + 6)) (λ number counts. tt)

    root-rows : (end : ℕ) (found : Said Endian) → at + 4 ≤ length s
        → EntryRows s vendors at a (found >>= (λ e. attributes (source vendors global s) e true end at >>= (λ run. gives (rooted e at end a run))))
    unfolding ◌>>=◌
    root-rows end (gives e) room = rooted-rows e end (attributes (source vendors global s) e true end at) room (attributes-known e true end)
    root-rows end (refuses number place counts) room = tt

    -- an erased root, where one more level is allowed
    root-begins : (levels : ℕ) (is_erased : Bool) (e : Endian) (end : ℕ) → at + 4 ≤ length s
        → EntryRows s vendors at a (entry_from (source vendors global s) levels (mode is_erased e) at a (Ok (Root end)))
    unfolding entry_from
    root-begins zero is_erased e end room = tt
    root-begins (suc l) is_erased e end room = root-rows end _ room

    module _ (levels : ℕ) (is_erased : Bool) (e : Endian) where
      -- by what it begins with
      abbrev HeadRows : Result Head HeadError → Type 0
      HeadRows h = EntryRows s vendors at a (entry_from (source vendors global s) levels (mode is_erased e) at a h)

      tag-rows : (erased : Bool) (size kind : ℕ) → 8 ≤ size → at + 4 ≤ length s → HeadRows (tag_head erased (at + size) (at + 4) kind)
      unfolding entry_from tag_head
      tag-rows erased size kind some room =
          cond-all HeadRows (is_on kind tags)
          (λ k. cond-all HeadRows (eqb kind tag.padding)
          (λ p. cond-all HeadRows erased (λ on. root-begins levels is_erased e (at + size) room) (λ off. no_rows (omega arith)))
          (λ p. ordinary-rows is_erased e kind (attributes (source vendors global s) e false (at + size) at) room k (attributes-known e false (at + size))))
          (λ k. tt)

      null-rows : (size : ℕ) → at + 4 ≤ length s → HeadRows (Ok (Null (null_end at size)))
      unfolding entry_from null_end tags is_on
      null-rows size room =
          let forward : at + 4 ≤ null_end at size =
          cond-all (λ (place : ℕ). at + 4 ≤ place) (leb size 4) (λ few. le_refl (at + 4)) (λ many. (let four : 4 < size = leb-false size 4 many in omega arith))
          in
          one_row is_erased false e tag.padding [] room refl none_known forward

      -- the theorem of one entry
      pub entry-rows : (erased : Bool) → EntryRows s vendors at a (read_entry (source vendors global s) erased levels (mode is_erased e) at a)
      unfolding entry_from read_entry head_at size_head
      entry-rows erased =
          let size : ℕ = value_of e 4 s at in
          read_all (size_head erased s e at) (headless reason.Short at) e 4 s at HeadRows
          (λ t. let room : at + 4 ≤ length s = there-inside s at 4 t in
          cond-all HeadRows (ltb size 8) (λ few. null-rows size room)
          (λ some. read_all (tag_head erased (at + size) (at + 4)) (headless reason.Short (at + 4)) e 2 s (at + 4) HeadRows
          (λ u. tag-rows erased size (value_of e 2 s (at + 4)) (ltb-false size 8 some) room) (λ u. tt)))
          (λ t. tt)

-- ---- a walk

-- a walk's rows, from its place on
abbrev pub WalkRows : List ℕ → List ℕ → ℕ → ℕ → Said Entries → Type 0
WalkRows s vendors at a (gives all) = RowsRead s vendors at a all.rows all.attrs all.stopped
WalkRows s vendors at a (refuses number place counts) = Unit

module _ (s vendors : List ℕ) where
  -- rows read before, and a walk after them
  join-rows : {at a place : ℕ} {rs : List Row} {xs : List Attr} (w : Said Entries) → RowsRead s vendors at a rs xs place
      → WalkRows s vendors place (a + length xs) w → WalkRows s vendors at a (join rs xs w)
  unfolding join ◌>>=◌
  join-rows (gives all) before after = rows_then before after
  join-rows (refuses number place counts) before after = tt

  -- what follows is such from wherever it begins
  abbrev Follows : (ℕ → ℕ → Said Entries) → Type 0
  Follows k = (b at : ℕ) → WalkRows s vendors at b (k b at)

  then-rows : (at a : ℕ) (w : Said Entries) (k : ℕ → ℕ → Said Entries) → WalkRows s vendors at a w → Follows k
      → WalkRows s vendors at a (w >>= (λ front. entries_then a front k))
  unfolding entries_then join ◌>>=◌
  then-rows at a (gives front) k before after =
      join-rows (k (a + length front.attrs) front.stopped) before (after (a + length front.attrs) front.stopped)
  then-rows at a (refuses number place counts) k before after = tt

  onward-rows : (within : Endian → ℕ → ℕ → ℕ → Said Entries) → ((e : Endian) (end : ℕ) → Follows (within e end)) → (at a : ℕ) (x : Said Entry)
      (k : ℕ → ℕ → Said Entries) → EntryRows s vendors at a x → Follows k
      → WalkRows s vendors at a (x >>= (λ entry. whole_entry within a entry >>= (λ front. entries_then a front k)))
  unfolding whole_entry ◌>>=◌
  onward-rows within deeper at a (gives (next rs xs place)) k here after = then-rows at a (gives (entries rs xs place)) k here after
  onward-rows within deeper at a (gives (inside r xs place e end)) k here after =
      then-rows at a (entries_then a (entries (r ∷ []) xs place) (within e end)) k
      (then-rows at a (gives (entries (r ∷ []) xs place)) (within e end) here (deeper e end)) after
  onward-rows within deeper at a (refuses number place counts) k here after = tt

  module _ (global : ℕ) (erased : Bool) where
    -- entries one after the other, given that what stands inside roots is such
    from-rows : (within : Endian → ℕ → ℕ → ℕ → Said Entries) → ((e : Endian) (end : ℕ) → Follows (within e end)) → (levels : ℕ) (is_erased : Bool) (e : Endian)
        (end f : ℕ) → Follows (entries_from (source vendors global s) erased within levels (mode is_erased e) end f)
    unfolding entries_from
    from-rows within deeper levels is_erased e end zero a at = no_rows (le_refl at)
    from-rows within deeper levels is_erased e end (suc f) a at =
        by-test (ltb at end)
        (λ t. rw (t, entries_from)
        (onward-rows within deeper at a (read_entry (source vendors global s) erased levels (mode is_erased e) at a)
        (λ b at'. entries_from (source vendors global s) erased within levels (mode is_erased e) end f b at')
        (entry-rows s vendors at a global levels is_erased e erased) (from-rows within deeper levels is_erased e end f)))
        (λ t. rw (t, entries_from) (no_rows (le_refl at)))

    -- the theorem: the rows of a walk, on any level, from wherever it begins
    pub walk_rows : (levels : ℕ) (is_erased : Bool) (e : Endian) (end : ℕ) → Follows (read_tags (source vendors global s) erased levels (mode is_erased e) end)
    unfolding read_tags
    walk_rows zero is_erased e end a at =
        from-rows (λ e' end' b at'. refuse reason.Nested at') (λ e' end' b at'. tt) zero is_erased e end (suc (length s)) a at
    walk_rows (suc l) is_erased e end a at =
        from-rows (λ e' end' b at'. read_tags (source vendors global s) erased l (mode true e') end' b at') (λ e' end'. walk_rows l true e' end') (suc l) is_erased e end
        (suc (length s)) a at
