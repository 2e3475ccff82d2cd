-- Where reading comes to an entry and a field refuses it, reading the whole section is refused so.
use Rattle.std.specs.Prelude.{Result, Ok}
use Prim.Native.Nat.{ℕ, zero, suc, ◌+◌, ◌≤◌, ◌<◌}
use native.Mathlib.Omega.{arith}
use mathlib.Core.Path.{◌≡◌, refl, sym, ap, ◌∙◌}
use mathlib.Core.Bool.{Bool, true, false}
use mathlib.Core.List.{List, [], ◌∷◌, ◌++◌}
use lib.ListN.{length}
use lib.Dec.{leb, ltb, eqb}
use borrow.Author.Tests.{leb-false, ltb-false, lt-ltb}
use Rattle.numbers.specs.Value.{value_of}
use Rattle.numbers.specs.declared.Endian.{Endian}
use Rattle.numbers.proofs.Laws.Tests.{cond-all}
use Rattle.numbers.proofs.Laws.Value.{read_all, there-inside}
use Rattle.format.specs.Limits.{section_limit, erased_limit}
use Rattle.format.specs.Lookup.{is_on}
use Rattle.format.specs.TagKind.{tags}
use Rattle.format.specs.TagKind as tag
use Rattle.format.specs.Said.{Said, gives, refuses, ◌>>=◌}
use Rattle.format.specs.declared.refusal.Reason.TheVariants as reason
use Rattle.format.specs.declared.settings.Settings.{Settings}
use Rattle.tables.specs.declared.row.Row.{Row}
use Rattle.tables.specs.declared.row.Attr.{Attr}
use Rattle.entries.specs.Source.{Source, source, mode}
use Rattle.entries.specs.Head.{headless, null_end, tag_head, size_head, head_at}
use Rattle.entries.specs.Run.{AttrsRead}
use Rattle.entries.specs.Entry.{Entry, next, inside, root_endian, attributes, entry_from, read_entry}
use Rattle.entries.specs.Walk.{Entries, entries_then, whole_entry, entries_from, read_tags}
use Rattle.entries.specs.Section.{whole_walk}
use Rattle.entries.specs.Wanted.{Comes, begins, passes, enters, leaves, ByteWanted}
use Rattle.entries.specs.declared.entry.Mode.{Mode}
use Rattle.entries.specs.declared.head.Head.{Head}
use Rattle.entries.specs.declared.head.Head.TheVariants as head
use Rattle.entries.proofs.Laws.KnownRun.{RunKnown}
use Rattle.entries.proofs.Laws.RowsRead.{rows-ahead, attributes-known, walk_rows}
use Rattle.entries.proofs.Laws.Walk.{within_of, walk-levels}
use Rattle.entries.proofs.Laws.WantedOnly.{wants-refused}
use Rattle.entries.specs.declared.head.HeadError.{HeadError}

-- ---- every entry takes four bytes that are there, and a root ends where its size says

abbrev TakesFour : List ℕ → ℕ → ℕ → Type 0
TakesFour s at place = (at + 4 ≤ length s) × (at + 4 ≤ place)

abbrev pub EntryAhead : Endian → List ℕ → ℕ → Said Entry → Type 0
EntryAhead e s at (gives (next rs xs place)) = TakesFour s at place
EntryAhead e s at (gives (inside row xs place e' end)) = TakesFour s at place × (end ≡ at + value_of e 4 s at)
EntryAhead e s at (refuses n place told) = Unit

module _ (r : Source) (levels : ℕ) (m : Mode) (at a : ℕ) where
  -- what its head says of it
  abbrev HeadAhead : Result Head HeadError → Type 0
  HeadAhead h = EntryAhead m.endian r.section at (entry_from r levels m at a h)

  next-ahead : (e : Endian) (d : Said AttrsRead) (rows : AttrsRead → List Row) → at + 4 ≤ length r.section → RunKnown r.section r.vendors e (at + 6) d
      → EntryAhead m.endian r.section at (d >>= (λ x. gives (next (rows x) x.attrs x.stopped)))
  unfolding ◌>>=◌
  next-ahead e (gives x) rows room known = (room, omega (arith, known.1))
  next-ahead e (refuses n place told) rows room known = tt

  inside-ahead : (e : Endian) (stop : ℕ) (d : Said AttrsRead) (row : AttrsRead → Row) → at + 4 ≤ length r.section
      → stop ≡ at + value_of m.endian 4 r.section at
      → RunKnown r.section r.vendors e (at + 6) d → EntryAhead m.endian r.section at (d >>= (λ x. gives (inside (row x) x.attrs x.stopped e stop)))
  unfolding ◌>>=◌
  inside-ahead e stop (gives x) row room p known = ((room, omega (arith, known.1)), p)
  inside-ahead e stop (refuses n place told) row room p known = tt

  looked-ahead : (d : Said Endian) (follow : Endian → Said Entry) → ((e : Endian) → EntryAhead m.endian r.section at (follow e))
      → EntryAhead m.endian r.section at (d >>= follow)
  unfolding ◌>>=◌
  looked-ahead (gives e) follow others = others e
  looked-ahead (refuses n place told) follow others = tt

  root-ahead : (allowed stop : ℕ) → at + 4 ≤ length r.section → stop ≡ at + value_of m.endian 4 r.section at
      → EntryAhead m.endian r.section at (entry_from r allowed m at a (Ok (head.Root stop)))
  unfolding entry_from
  root-ahead zero stop room p = tt
  root-ahead (suc l) stop room p =
      looked-ahead (root_endian r.vendors r.section m.erased m.endian at) _
      (λ e. inside-ahead e stop (attributes r e true stop at) _ room p (attributes-known r.section r.vendors at a r.global e true stop))

  pub entry-ahead : (erased : Bool) → EntryAhead m.endian r.section at (read_entry r erased levels m at a)
  unfolding read_entry entry_from head_at size_head tag_head null_end
  entry-ahead erased =
      let s : List ℕ = r.section in
      let e : Endian = m.endian in
      let size : ℕ = value_of e 4 s at in
      let kind : ℕ = value_of e 2 s (at + 4) in
      read_all (size_head erased s e at) (headless reason.Short at) e 4 s at HeadAhead
      (λ t.
      let room : at + 4 ≤ length s = there-inside s at 4 t in
      cond-all HeadAhead (ltb size 8)
      (λ few.
      (room, cond-all (λ (place : ℕ). at + 4 ≤ place) (leb size 4) (λ low. omega arith) (λ high. (let four : 4 < size = leb-false size 4 high in omega arith))))
      (λ many.
      let eight : 8 ≤ size = ltb-false size 8 many in
      read_all (tag_head erased (at + size) (at + 4)) (headless reason.Short (at + 4)) e 2 s (at + 4) HeadAhead
      (λ u. cond-all HeadAhead (is_on kind tags)
      (λ v. cond-all HeadAhead (eqb kind tag.padding)
      (λ w. cond-all HeadAhead erased (λ x. root-ahead levels (at + size) room refl) (λ x. (room, omega arith)))
      (λ w. next-ahead e (attributes r e false (at + size) at) _ room (attributes-known s r.vendors at a r.global e false (at + size))))
      (λ v. tt))
      (λ u. tt)))
      (λ t. tt)

-- ---- what is left, and the whole

module _ (settings : Settings) (vendors s : List ℕ) (small : length s < section_limit) where
  abbrev from : Source
  from = source vendors settings.roles.global_ref s

  abbrev on : Bool
  on = settings.erased

  abbrev within : ℕ → Endian → ℕ → ℕ → ℕ → Said Entries
  within levels = within_of vendors settings.roles.global_ref on s levels

  -- with turns enough, what is left from a place on is refused so
  abbrev Rest : ℕ → Mode → ℕ → ℕ → ℕ → Said Entries → Type 0
  Rest levels m end a at x = (f : ℕ) → length s < at + f → 0 < f → entries_from from on (within levels) levels m end f a at ≡ x

  module _ (levels : ℕ) (m : Mode) (end a at : ℕ) (h : at < end) where
    -- one turn
    turn : (f : ℕ) → entries_from from on (within levels) levels m end (suc f) a at
        ≡ (read_entry from on levels m at a
        >>= (λ entry. whole_entry (within levels) a entry >>= (λ front. entries_then a front (λ b place. entries_from from on (within levels) levels m end f b place))))
    unfolding entries_from
    turn f = rw (lt-ltb at end h, entries_from)

    -- turns are left behind an entry that was read
    turns-left : (t : ℕ) → at + 4 ≤ length s → length s < at + t → (f : ℕ) × (t ≡ suc f) × (0 < f)
    turns-left zero room k = absurd (omega arith)
    turns-left (suc f) room k = (f, refl, omega arith)

    ahead : (x : Said Entry) → read_entry from on levels m at a ≡ x → EntryAhead m.endian s at x
    ahead x p = rw p at (entry-ahead from levels m at a on)

    module _ {number place : ℕ} {told : List ℕ} where
      rest-here : read_entry from on levels m at a ≡ refuses number place told → Rest levels m end a at (refuses number place told)
      unfolding ◌>>=◌
      rest-here p zero k l = absurd (omega arith)
      rest-here p (suc f) k l = turn f ∙ rw p

      rest-next : {rs : List Row} {xs : List Attr} {after : ℕ} → read_entry from on levels m at a ≡ gives (next rs xs after)
          → Rest levels m end (a + length xs) after (refuses number place told) → Rest levels m end a at (refuses number place told)
      unfolding whole_entry entries_then ◌>>=◌
      rest-next {xs = xs} {after} p rest t k l =
          let forward = ahead _ p in
          let some = turns-left t forward.0 k in
          let is : t ≡ suc some.0 = some.1 in
          ap (λ (f : ℕ). entries_from from on (within levels) levels m end f a at) is ∙ turn some.0 ∙ rw (p, rest some.0 (omega (arith, forward.1)) some.2)

      -- into an erased root
      rest-inside : {row : Row} {xs : List Attr} {after end' : ℕ} {e' : Endian} → read_entry from on levels m at a ≡ gives (inside row xs after e' end')
          → within levels e' end' (a + length xs) after ≡ refuses number place told → Rest levels m end a at (refuses number place told)
      unfolding whole_entry entries_then ◌>>=◌
      rest-inside p q zero k l = absurd (omega arith)
      rest-inside p q (suc f) k l = turn f ∙ rw (p, q)

      -- and out of it
      rest-behind : {row : Row} {xs : List Attr} {after end' : ℕ} {e' : Endian} {all : Entries}
          → read_entry from on levels m at a ≡ gives (inside row xs after e' end')
          → within levels e' end' (a + length xs) after ≡ gives all → after ≤ all.stopped
          → Rest levels m end (a + length (xs ++ all.attrs)) all.stopped (refuses number place told) → Rest levels m end a at (refuses number place told)
      unfolding whole_entry entries_then ◌>>=◌
      rest-behind p q more rest t k l =
          let forward = ahead _ p in
          let some = turns-left t forward.0.0 k in
          let is : t ≡ suc some.0 = some.1 in
          ap (λ (f : ℕ). entries_from from on (within levels) levels m end f a at) is ∙ turn some.0
          ∙ rw (p, q, rest some.0 (omega (arith, forward.0.1)) some.2)

  -- the whole of a level, where what is left from its beginning on is refused
  level-refused : (levels : ℕ) (m : Mode) (end a at : ℕ) {x : Said Entries} → Rest levels m end a at x → read_tags from on levels m end a at ≡ x
  level-refused levels m end a at rest =
      sym (walk-levels vendors settings.roles.global_ref on s levels m.erased m.endian end a at) ∙ rest (suc (length s)) (omega arith) (omega arith)

  inside-forward : (l : ℕ) (e' : Endian) (end' b after : ℕ) {all : Entries} → read_tags from on l (mode true e') end' b after ≡ gives all → after ≤ all.stopped
  inside-forward l e' end' b after {all} q = rows-ahead (rw q at (walk_rows s vendors settings.roles.global_ref on l true e' end' b after))

  -- what refuses what is left refuses the whole
  comes-refused : {levels : ℕ} {m : Mode} {end a at number place : ℕ} {told : List ℕ} → Comes from on settings.endian levels m end a at
      → Rest levels m end a at (refuses number place told) → whole_walk settings vendors s ≡ refuses number place told
  unfolding whole_walk within_of
  comes-refused begins rest = level-refused erased_limit (mode false settings.endian) (length s) 0 0 rest
  comes-refused (passes {l} {m} {end} {a} {at} c h p) rest = comes-refused c (rest-next l m end a at h p rest)
  comes-refused (enters {l} {m} {end} {a} {at} {place} {end'} {row} {xs} {e'} c h p) rest =
      comes-refused c (rest-inside (suc l) m end a at h p (level-refused l (mode true e') end' (a + length xs) place rest))
  comes-refused (leaves {l} {m} {end} {a} {at} {place} {end'} {row} {xs} {e'} c h p q) rest =
      comes-refused c (rest-behind (suc l) m end a at h p q (inside-forward l e' end' (a + length xs) place q) rest)

  -- the theorem
  pub wanted-refused : {number key byte : ℕ} → ByteWanted settings vendors s number key byte → whole_walk settings vendors s ≡ refuses number key (byte ∷ [])
  wanted-refused {key = key} w =
      comes-refused w.comes
      (rest-here w.levels w.how w.end w.attrs key w.before_end (wants-refused from on w.levels w.how key small w.wants w.attrs))
