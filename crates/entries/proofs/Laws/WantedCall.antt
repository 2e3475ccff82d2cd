-- Which byte was wanted, of the public calls and over their own contracts: they tell a byte exactly where reading comes to the entry whose key is told, and
-- the field whose first byte is told refuses it.
use Prim.Native.Nat.{ℕ, zero, suc, ◌+◌, ◌<◌}
use mathlib.Core.Path.{◌≡◌, refl, sym, ◌∙◌, subst}
use mathlib.Core.Bool.{Bool, true, false}
use mathlib.Core.Logic.{inl, inr, ◌↔◌}
use mathlib.Core.List.{List, [], ◌∷◌, ◌++◌}
use lib.ListN.{length}
use lib.Dec.{ltb}
use borrow.Author.Tests.{ltb-true, lt-ltb}
use borrow.Fn.Kinds.{Dens, res_t, ended_of}
use denote.Triple.Clauses.{AtExit}
use contract.Lifetimes.{Lfts}
use Rattle.numbers.specs.declared.Endian.{Endian}
use Rattle.format.specs.Limits.{section_limit, erased_limit}
use Rattle.format.specs.Refusal.{number_of}
use Rattle.format.specs.Said.{Said, gives, refuses, refuse, must, ◌>>=◌, ◌>>◌, in_rooms, fills_rooms}
use Rattle.format.specs.Settings.{settings_hold}
use Rattle.format.proofs.Laws.Formed.{known-formed}
use Rattle.format.proofs.Laws.Said.{given-refused}
use Rattle.format.specs.declared.refusal.Reason.TheVariants as reason
use Rattle.format.specs.declared.settings.Settings.{Settings}
use Rattle.tables.specs.declared.row.Row.{Row}
use Rattle.tables.specs.declared.row.Attr.{Attr}
use Rattle.tables.specs.Holds.{fitting}
use Rattle.tables.specs.Row.{rows_words, attrs_words}
use Rattle.tables.specs.Unit.{with_units}
use Rattle.entries.specs.Source.{Source, source, mode}
use Rattle.entries.specs.Entry.{Entry, next, inside, read_entry}
use Rattle.entries.specs.Walk.{Entries, entries, entries_then, whole_entry, entries_from, read_tags}
use Rattle.entries.specs.Section.{said_count, said_section, whole_walk, counts_of, section_entries, count_debug_section, read_debug_section}
use Rattle.entries.specs.Wanted.{Comes, begins, passes, enters, leaves, ByteWanted, TellsByte}
use Rattle.entries.specs.declared.entry.Mode.{Mode}
use Rattle.entries.proofs.Laws.KnownRun.{by-test}
use Rattle.entries.proofs.Laws.Wanted.{Formed, EntryTold, entry-told}
use Rattle.entries.proofs.Laws.WantedExactly.{wanted-refused}
use Rattle.entries.proofs.section.count_debug_section as count
use Rattle.entries.proofs.section.read_debug_section as read

-- ---- entries one after the other

module _ (settings : Settings) (vendors s : List ℕ) (formed : Formed vendors) where
  abbrev from : Source
  from = source vendors settings.roles.global_ref s

  abbrev Reached : ℕ → Mode → ℕ → ℕ → ℕ → Type 0
  Reached levels m end a at = Comes from settings.erased settings.endian levels m end a at

  abbrev entry_here : ℕ → Mode → ℕ → ℕ → Said Entry
  entry_here levels m at a = read_entry from settings.erased levels m at a

  -- 7 tells no byte, any other refusal the one that was wanted
  abbrev WalkTold : Said Entries → Type 0
  WalkTold (gives all) = Unit
  WalkTold (refuses n place []) = n ≡ 7
  WalkTold (refuses n place (byte ∷ [])) = ByteWanted settings vendors s n place byte
  WalkTold (refuses n place (x ∷ y ∷ more)) = ⊥

  -- what follows a value only puts it together with what was read before
  join-told : (d : Said Entries) (f : Entries → Entries) → WalkTold d → WalkTold (d >>= (λ back. gives (f back)))
  unfolding ◌>>=◌
  join-told (gives all) f h = tt
  join-told (refuses n place []) f h = h
  join-told (refuses n place (byte ∷ [])) f h = h
  join-told (refuses n place (x ∷ y ∷ more)) f h = h

  module _ (within : Endian → ℕ → ℕ → ℕ → Said Entries) (levels : ℕ) (m : Mode) (end : ℕ)
      (deeper : (a at place end' : ℕ) (row : Row) (xs : List Attr) (e' : Endian) → Reached levels m end a at → at < end
      → entry_here levels m at a ≡ gives (inside row xs place e' end')
      → WalkTold (within e' end' (a + length xs) place)
      × ((all : Entries) → within e' end' (a + length xs) place ≡ gives all → Reached levels m end (a + length (xs ++ all.attrs)) all.stopped))
    where
      -- behind an erased root and what stands inside it
      behind-told : (a : ℕ) (row : Row) (xs : List Attr) (d : Said Entries) (follow : ℕ → ℕ → Said Entries) → WalkTold d
          → ((all : Entries) → d ≡ gives all → WalkTold (follow (a + length (xs ++ all.attrs)) all.stopped))
          → WalkTold ((d >>= (λ back. gives (entries ((row ∷ []) ++ back.rows) (xs ++ back.attrs) back.stopped)))
          >>= (λ front. entries_then a front follow))
      unfolding ◌>>=◌ entries_then
      behind-told a row xs (gives all) follow h others = join-told (follow _ all.stopped) _ (others all refl)
      behind-told a row xs (refuses n place []) follow h others = h
      behind-told a row xs (refuses n place (byte ∷ [])) follow h others = h
      behind-told a row xs (refuses n place (x ∷ y ∷ more)) follow h others = h

      -- the entry at a place, and what follows it
      step-told : {a at : ℕ} → Reached levels m end a at → at < end → (d : Said Entry) → entry_here levels m at a ≡ d
          → EntryTold from settings.erased levels m at formed d
          → (follow : ℕ → ℕ → Said Entries) → ((b place : ℕ) → Reached levels m end b place → WalkTold (follow b place))
          → WalkTold (d >>= (λ entry. whole_entry within a entry >>= (λ front. entries_then a front follow)))
      unfolding ◌>>=◌ whole_entry entries_then
      step-told {a} c h (gives (next rs xs place)) p t follow others = join-told (follow (a + length xs) place) _ (others (a + length xs) place (passes c h p))
      step-told {a} {at} c h (gives (inside row xs place e' end')) p t follow others =
          let deep = deeper a at place end' row xs e' c h p in
          behind-told a row xs (within e' end' (a + length xs) place) follow deep.0 (λ all q. others _ all.stopped (deep.1 all q))
      step-told c h (refuses n place []) p t follow others = t
      step-told {a} {at} c h (refuses n place (byte ∷ [])) p t follow others =
          rw t.0 (record { levels = levels; how = m; end = end; attrs = a; comes = c; before_end = h; wants = t.1 })
      step-told c h (refuses n place (x ∷ y ∷ more)) p t follow others = absurd t

      from_told : (f a at : ℕ) → Reached levels m end a at → WalkTold (entries_from from settings.erased within levels m end f a at)
      unfolding entries_from
      from_told zero a at c = tt
      from_told (suc f) a at c =
          by-test (ltb at end)
          (λ t. rw (t, entries_from)
          (step-told c (ltb-true at end t) (entry_here levels m at a) refl (entry-told from settings.erased levels m at formed a)
          (λ b place. entries_from from settings.erased within levels m end f b place) (λ b place d. from_told f b place d)))
          (λ t. rw (t, entries_from) tt)

  tags-told : (levels : ℕ) (m : Mode) (end a at : ℕ) → Reached levels m end a at → WalkTold (read_tags from settings.erased levels m end a at)
  unfolding read_tags number_of
  tags-told zero m end a at c =
      from_told (λ e' end' b at'. refuse reason.Nested at') zero m end (λ b at' place end' row xs e' d h p. (refl, λ all q. absurd (given-refused (sym q)))) (suc (length s)) a at c
  tags-told (suc l) m end a at c =
      from_told (λ e' end' b at'. read_tags from settings.erased l (mode true e') end' b at') (suc l) m end
      (λ b at' place end' row xs e' d h p. (tags-told l _ _ _ _ (enters d h p), λ all q. leaves d h p q)) (suc (length s)) a at c

  -- the whole section, counted; and read, by whether it fits
  walk-told : WalkTold (whole_walk settings vendors s)
  unfolding whole_walk
  walk-told = tags-told erased_limit (mode false settings.endian) (length s) 0 0 begins

  counted-told : (d : Said Entries) → WalkTold d → TellsByte settings vendors s (d >>= (λ all. gives (counts_of all)))
  unfolding ◌>>=◌
  counted-told (gives all) h = tt
  counted-told (refuses n place []) h = inr (inr h)
  counted-told (refuses n place (byte ∷ [])) h = h
  counted-told (refuses n place (x ∷ y ∷ more)) h = absurd h

  module _ (rows attrs : List ℕ) where
    filled-told : (b : Bool) (all : Entries)
        → TellsByte settings vendors s (fills_rooms b (counts_of all) (length all.rows ∷ length all.attrs ∷ []) (rows_words (with_units all.rows)) (attrs_words all.attrs) rows attrs).answer
    unfolding fills_rooms number_of
    filled-told true all = tt
    filled-told false all = refl

    roomed-told : (d : Said Entries) → WalkTold d
        → TellsByte settings vendors s (in_rooms rows attrs d (λ all. fills_rooms (fitting (counts_of all) (length rows) (length attrs)) (counts_of all)
        (length all.rows ∷ length all.attrs ∷ []) (rows_words (with_units all.rows)) (attrs_words all.attrs) rows attrs)).answer
    unfolding in_rooms
    roomed-told (gives all) h = filled-told (fitting (counts_of all) (length rows) (length attrs)) all
    roomed-told (refuses n place []) h = inr (inr h)
    roomed-told (refuses n place (byte ∷ [])) h = h
    roomed-told (refuses n place (x ∷ y ∷ more)) h = absurd h

-- ---- the public calls' definitions

module _ (settings : Settings) (vendors sizes s : List ℕ) where
  count-told : TellsByte settings vendors s (count_debug_section settings vendors sizes s)
  unfolding count_debug_section section_entries must ◌>>◌ ◌>>=◌ number_of
  count-told =
      by-test (settings_hold settings vendors sizes)
      (λ h. by-test (ltb (length s) section_limit)
      (λ k.
      let formed : Formed vendors = known-formed settings vendors sizes h in
      rw (h, k) (counted-told settings vendors s formed (whole_walk settings vendors s) (walk-told settings vendors s formed)))
      (λ k. rw (h, k) (inr (inl refl))))
      (λ h. rw h (inl refl))

  read_told : (rows attrs : List ℕ) → TellsByte settings vendors s (read_debug_section settings vendors sizes s rows attrs).answer
  unfolding read_debug_section section_entries in_rooms must ◌>>◌ number_of
  read_told rows attrs =
      by-test (settings_hold settings vendors sizes)
      (λ h. by-test (ltb (length s) section_limit)
      (λ k.
      let formed : Formed vendors = known-formed settings vendors sizes h in
      rw (h, k) (roomed-told settings vendors s formed rows attrs (whole_walk settings vendors s) (walk-told settings vendors s formed)))
      (λ k. rw (h, k) (inr (inl refl))))
      (λ h. rw h (inl refl))

  -- what refuses the walk refuses both
  module _ (held : settings_hold settings vendors sizes ≡ true) (small : length s < section_limit) {number key byte : ℕ}
      (p : whole_walk settings vendors s ≡ refuses number key (byte ∷ [])) where
    count-refused : count_debug_section settings vendors sizes s ≡ refuses number key (byte ∷ [])
    unfolding count_debug_section section_entries must ◌>>◌ ◌>>=◌
    count-refused = rw (held, lt-ltb (length s) section_limit small, p)

    read-refused : (rows attrs : List ℕ) → (read_debug_section settings vendors sizes s rows attrs).answer ≡ refuses number key (byte ∷ [])
    unfolding read_debug_section section_entries in_rooms must ◌>>◌
    read-refused rows attrs = rw (held, lt-ltb (length s) section_limit small, p)

-- ---- the theorems: whatever the arguments, the result and the state at exit that meet the contract

-- `tells`: 4 to 6 tell the byte that was wanted, other refusals none. `exactly`: where settings and length pass their tests, a byte is told exactly where
-- it was wanted

module _ (κs : Lfts 3) (a : Dens κs count.Kinds.ps) (z : (res_t count.Kinds.r κs).Denot) (x : AtExit (ended_of 3 count.Kinds.ps count.Kinds.r) κs)
    (post : count.Reads.Post κs a z x) (s vendors sizes : List ℕ) (settings : Settings) (s-is : s ≡ a.0.now) (settings-are : settings ≡ a.1.0)
    (vendors-are : vendors ≡ a.1.1.0.now) (sizes-are : sizes ≡ a.1.1.1.0.now) where
  counted : said_count z ≡ count_debug_section settings vendors sizes s
  counted = rw (s-is, settings-are, vendors-are, sizes-are) post

  pub count-tells : TellsByte settings vendors s (said_count z)
  count-tells = subst (TellsByte settings vendors s) (sym counted) (count-told settings vendors sizes s)

  pub count-exactly : settings_hold settings vendors sizes ≡ true → length s < section_limit → (number key byte : ℕ)
      → (said_count z ≡ refuses number key (byte ∷ [])) ↔ ByteWanted settings vendors s number key byte
  count-exactly held small number key byte = (
    λ p. subst (TellsByte settings vendors s) p count-tells,
    λ w. counted ∙ count-refused settings vendors sizes s held small (wanted-refused settings vendors s small w),
  )

module _ (κs : Lfts 5) (a : Dens κs read.Kinds.ps) (z : (res_t read.Kinds.r κs).Denot) (x : AtExit (ended_of 5 read.Kinds.ps read.Kinds.r) κs)
    (post : read.Reads.Post κs a z x) (s vendors sizes rows attrs : List ℕ) (settings : Settings) (s-is : s ≡ a.0.now) (settings-are : settings ≡ a.1.0)
    (vendors-are : vendors ≡ a.1.1.0.now) (sizes-are : sizes ≡ a.1.1.1.0.now) (rows_are : rows ≡ a.1.1.1.1.0.now)
    (attrs-are : attrs ≡ a.1.1.1.1.1.0.now) where
  was_read : said_section z ≡ (read_debug_section settings vendors sizes s rows attrs).answer
  was_read = rw (s-is, settings-are, vendors-are, sizes-are, rows_are, attrs-are) post.answer_is

  pub read-tells : TellsByte settings vendors s (said_section z)
  read-tells = subst (TellsByte settings vendors s) (sym was_read) (read_told settings vendors sizes s rows attrs)

  pub read-exactly : settings_hold settings vendors sizes ≡ true → length s < section_limit → (number key byte : ℕ)
      → (said_section z ≡ refuses number key (byte ∷ [])) ↔ ByteWanted settings vendors s number key byte
  read-exactly held small number key byte = (
    λ p. subst (TellsByte settings vendors s) p read-tells,
    λ w. was_read ∙ read-refused settings vendors sizes s held small (wanted-refused settings vendors s small w) rows attrs,
  )
