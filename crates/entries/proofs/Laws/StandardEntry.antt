-- An entry that the standard wrote is read: its row, its attributes, and reading stops after its bytes. What an entry is read as, by the size and the
-- tag that stand there.
use Rattle.std.specs.Prelude.{Ok}
use Prim.Native.Nat.{ℕ, suc, ◌+◌, ◌^◌, ◌≤◌, ◌<◌}
use native.Mathlib.Decide.{dec_le}
use native.Mathlib.Omega.{arith}
use mathlib.Core.Path.{◌≡◌, refl, sym, ap, ◌∙◌}
use mathlib.Core.Bool.{true, false}
use mathlib.Core.List.{List, [], ◌∷◌}
use lib.ListN.{length, length-append}
use lib.Dec.{leb}
use borrow.Author.Tests.{lt-ltb, le-ltb, leb-true, ne_eqb}
use Rattle.numbers.specs.Value.{value_of, read_at}
use Rattle.numbers.specs.Written.{bytes_of}
use Rattle.numbers.specs.declared.Endian.{Endian}
use Rattle.numbers.specs.declared.Endian.TheVariants.{Big, Little}
use Rattle.numbers.proofs.Laws.Tests.{cond-all}
use Rattle.numbers.proofs.Laws.Stands.{Stands, front-stands}
use Rattle.numbers.proofs.Laws.Written.{bytes-length, number_read, inside-there}
use Rattle.standard.specs.Numbers.{padding_tag}
use Rattle.standard.specs.Entries.{written_attributes, Die, null, padding, entry, written_die}
use Rattle.format.specs.Said.{Said, gives, unread, ◌>>=◌, placed}
use Rattle.format.specs.Lookup.{is_on}
use Rattle.format.specs.TagKind as tag
use Rattle.format.specs.declared.refusal.Reason.TheVariants as reason
use Rattle.format.proofs.Laws.Computed.{all_below, beyond}
use Rattle.tables.specs.Unit.{no_unit}
use Rattle.entries.specs.Source.{Source, source, mode}
use Rattle.entries.specs.Head.{headless, null_end, tag_head, size_head, head_at}
use Rattle.entries.specs.Run.{read_run}
use Rattle.entries.specs.Entry.{Entry, next, flag_of, little_flag, flags_of, attributes, entry_from, read_entry}
use Rattle.entries.specs.Standard.{taken, data_flag, die_attrs, die_rows}
use Rattle.entries.specs.declared.head.Head.TheVariants.{Null, Skipped, Ordinary}
use Rattle.entries.proofs.Laws.Tagged.{Tagged, tagged, tagged-length, tag_read}
use Rattle.entries.proofs.Laws.StandardAgrees.{tag_known}
use Rattle.entries.proofs.Laws.StandardRun.{attributes-long, run-read}

-- ---- what an entry begins with

-- a null entry that says at least 4 ends where it says
null-end : (at size : ℕ) → 4 ≤ size → null_end at size ≡ at + size
unfolding null_end
null-end at size h = cond-all (λ (x : ℕ). x ≡ at + size) (leb size 4) (λ t. let z : size ≤ 4 = leb-true size 4 t in omega arith) (λ t. refl)

module _ (e : Endian) (s : List ℕ) (at : ℕ) {size : ℕ} (says : value_of e 4 s at ≡ size) (fits : at + size ≤ length s) where
  pub null-head : 4 ≤ size → size < 8 → head_at false s e at ≡ Ok (Null (at + size))
  unfolding head_at size_head read_at
  null-head some few = rw (inside-there s at 4 (omega arith), says, lt-ltb size 8 few) (ap (λ (n : ℕ). Ok (Null n)) (null-end at size some))

  module _ {kind : ℕ} (tells : value_of e 2 s (at + 4) ≡ kind) (long : 8 ≤ size) where
    tagged-head : head_at false s e at ≡ tag_head false (at + size) (at + 4) kind
    unfolding head_at size_head read_at
    tagged-head = rw (inside-there s at 4 (omega arith), says, le-ltb size 8 long, inside-there s (at + 4) 2 (omega arith), tells)

    pub padding-head : kind ≡ padding_tag → head_at false s e at ≡ Ok (Skipped (at + size))
    unfolding tag_head is_on tag.tags
    padding-head p = tagged-head ∙ ap (tag_head false (at + size) (at + 4)) p

    pub ordinary-head : is_on kind tag.tags ≡ true → (kind ≡ padding_tag → ⊥) → head_at false s e at ≡ Ok (Ordinary kind (at + size))
    unfolding tag_head
    ordinary-head k p = tagged-head ∙ rw (k, ne_eqb kind tag.padding p)

    pub unknown-head : is_on kind tag.tags ≡ false → head_at false s e at ≡ headless reason.Tag (at + 4)
    unfolding tag_head
    unknown-head k = tagged-head ∙ rw k

-- ---- what it is read as, outside erased data

pub data-flag : (e : Endian) → flags_of false false e ≡ data_flag e
unfolding flags_of flag_of little_flag data_flag
data-flag Big = refl
data-flag Little = refl

module _ (r : Source) (levels : ℕ) (e : Endian) (at a : ℕ) where
  abbrev Reads : Said Entry → Type 0
  Reads = λ answer. read_entry r false levels (mode false e) at a ≡ answer

  pub null_read : {place : ℕ} → head_at false r.section e at ≡ Ok (Null place)
      → Reads (gives (next (record { key = at; kind = padding_tag; flags = data_flag e; first = a; count = 0; unit = no_unit } ∷ []) [] place))
  unfolding read_entry entry_from
  null_read h = rw (h, data-flag e)

  pub padding-read : {place : ℕ} → head_at false r.section e at ≡ Ok (Skipped place) → Reads (gives (next [] [] place))
  unfolding read_entry entry_from
  padding-read h = rw h

  pub ordinary-read : {kind end : ℕ} → head_at false r.section e at ≡ Ok (Ordinary kind end)
      → Reads (placed at (read_run r e false end (suc (length r.section)) false (at + 6)) >>= λ run.
      gives (next (record { key = at; kind = kind; flags = data_flag e; first = a; count = length run.attrs; unit = no_unit } ∷ []) run.attrs run.stopped))
  unfolding read_entry entry_from attributes
  ordinary-read h = rw (h, data-flag e)

  pub refused-read : head_at false r.section e at ≡ headless reason.Tag (at + 4) → Reads (unread reason.Tag at (at + 4))
  unfolding read_entry entry_from
  refused-read h = rw h

-- ---- an entry that the standard wrote

-- every tag fits into its two bytes
pub tag_small : (kind : ℕ) → is_on kind tag.tags ≡ true → kind < 256 ^ 2
unfolding tag.tags is_on all_below
tag_small kind k =
    elim (dec_le (256 ^ 2) kind) [
      | yes h ↦ let z : true ≡ false = sym k ∙ beyond (256 ^ 2) 33 tag.tags kind refl h in let o : ◌≡◌ {A = ℕ} 0 1 = cc in absurd (omega arith)
      | no h ↦ omega arith
    ]

module _ {numbers : List ℕ} {e : Endian} where
  -- how long it is
  unfoldable pub size_of : Die numbers e → ℕ
  size_of (null fill few small) = length fill + 4
  size_of (padding fill some few small) = length fill + 6
  size_of (entry kind k p b rest few) = length (written_attributes numbers e (b ∷ rest)) + 6

  pub die-length : (d : Die numbers e) → length (written_die numbers e d) ≡ size_of d
  unfolding written_die size_of
  die-length (null fill few small) =
      let four : length (bytes_of e 4 (length fill + 4)) ≡ 4 = bytes-length e 4 (length fill + 4) in
      length-append (bytes_of e 4 (length fill + 4)) fill ∙ omega arith
  die-length (padding fill some few small) = tagged-length e (length fill + 6) padding_tag fill
  die-length (entry kind k p b rest few) =
      let body : List ℕ = written_attributes numbers e (b ∷ rest) in
      tagged-length e (length body + 6) kind body

  -- at least the four bytes of its size
  pub die-long : (d : Die numbers e) → 4 ≤ length (written_die numbers e d)
  unfolding size_of
  die-long (null fill few small) = rw (die-length (null fill few small)) (omega arith)
  die-long (padding fill some few small) = rw (die-length (padding fill some few small)) (omega arith)
  die-long (entry kind k p b rest few) = rw (die-length (entry kind k p b rest few)) (omega arith)

  module _ (s : List ℕ) (at : ℕ) where
    -- its first four bytes say how long it is
    pub size-read : (d : Die numbers e) → Stands s at (written_die numbers e d) → value_of e 4 s at ≡ size_of d
    unfolding written_die size_of
    size-read (null fill few small) q =
        let size : ℕ = length fill + 4 in
        number_read e 4 s at size (omega arith) (front-stands s at (bytes_of e 4 size) fill q)
    size-read (padding fill some few small) q =
        let size : ℕ = length fill + 6 in
        number_read e 4 s at size few (tagged e s at size padding_tag fill q).size_stands
    size-read (entry kind k p b rest few) q =
        let body : List ℕ = written_attributes numbers e (b ∷ rest) in
        number_read e 4 s at (length body + 6) few (tagged e s at (length body + 6) kind body q).size_stands

    -- it ends inside
    pub size_fits : (d : Die numbers e) → Stands s at (written_die numbers e d) → at + size_of d ≤ length s
    size_fits d q = let inside : at + length (written_die numbers e d) ≤ length s = q.fits in omega (arith, die-length d)

module _ (vendors : List ℕ) (global : ℕ) (e : Endian) (s : List ℕ) (levels at a : ℕ) where
  sized-read : (d : Die (taken vendors) e) → Stands s at (written_die (taken vendors) e d)
      → read_entry (source vendors global s) false levels (mode false e) at a
      ≡ gives (next (die_rows (taken vendors) e at a d) (die_attrs (taken vendors) e at d) (at + size_of d))
  unfolding written_die die_rows die_attrs size_of placed ◌>>=◌
  sized-read (null fill few small) q =
      let d : Die (taken vendors) e = null fill few small in
      null_read (source vendors global s) levels e at a (null-head e s at (size-read s at d q) (size_fits s at d q) (omega arith) (omega arith))
  sized-read (padding fill some few small) q =
      let d : Die (taken vendors) e = padding fill some few small in
      let tells : value_of e 2 s (at + 4) ≡ padding_tag = tag_read (omega arith) (tagged e s at (length fill + 6) padding_tag fill q) in
      padding-read (source vendors global s) levels e at a (padding-head e s at (size-read s at d q) (size_fits s at d q) tells (omega arith) refl)
  sized-read (entry kind k p b rest few) q =
      let d : Die (taken vendors) e = entry kind k p b rest few in
      let body : List ℕ = written_attributes (taken vendors) e (b ∷ rest) in
      let t : Tagged e s at (length body + 6) kind body = tagged e s at (length body + 6) kind body q in
      let some : 2 ≤ length body = attributes-long b rest in
      let tells : value_of e 2 s (at + 4) ≡ kind = tag_read (tag_small kind (tag_known k)) t in
      ordinary-read (source vendors global s) levels e at a
      (ordinary-head e s at (size-read s at d q) (size_fits s at d q) tells (omega arith) (tag_known k) p)
      ∙ rw (run-read vendors global s (b ∷ rest) (suc (length s)) (at + (length body + 6)) t.body_stands (omega arith) (omega arith))

  pub die-read : (d : Die (taken vendors) e) → Stands s at (written_die (taken vendors) e d)
      → read_entry (source vendors global s) false levels (mode false e) at a
      ≡ gives (next (die_rows (taken vendors) e at a d) (die_attrs (taken vendors) e at d) (at + length (written_die (taken vendors) e d)))
  die-read d q = rw (die-length d) (sized-read d q)
