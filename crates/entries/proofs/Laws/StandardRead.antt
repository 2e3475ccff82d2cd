-- What the standard writes is read: reading entries that were so written, with the erased flag off, answers exactly those entries, with their keys and
-- places, and the decoder of each attribute's form answers the value that was written.
use Prim.Native.Nat.{ℕ, zero, suc, ◌+◌, ◌≤◌, ◌<◌}
use native.Mathlib.Omega.{arith}
use mathlib.Core.Path.{◌≡◌, refl, ap, ◌∙◌}
use mathlib.Core.Bool.{true, false}
use mathlib.Core.List.{List, [], ◌∷◌, ◌++◌}
use lib.ListN.{length, length-append}
use borrow.Author.Tests.{lt-ltb, le-ltb}
use Rattle.numbers.specs.declared.Endian.{Endian}
use Rattle.numbers.proofs.Laws.Stands.{Stands, front-stands, back-stands, all-stands}
use Rattle.standard.specs.Entries.{Value, Die, null, padding, entry, written_attributes, written_die, written_dies, die_values, values_of}
use Rattle.format.specs.Said.{Said, gives, refuse, ◌>>=◌}
use Rattle.format.specs.declared.refusal.Reason.TheVariants as reason
use Rattle.tables.specs.declared.row.Row.{Row}
use Rattle.tables.specs.declared.row.Attr.{Attr}
use Rattle.entries.specs.Source.{Source, source, mode}
use Rattle.entries.specs.Entry.{next, read_entry}
use Rattle.entries.specs.Walk.{Entries, entries, entries_then, whole_entry, entries_from, read_tags}
use Rattle.entries.specs.Standard.{taken, die_attrs, attrs_of, rows_of, AllDecoded, none, more}
use Rattle.entries.proofs.Laws.Tagged.{tagged}
use Rattle.entries.proofs.Laws.StandardRun.{run-decoded}
use Rattle.entries.proofs.Laws.StandardEntry.{die-long, die-read}

-- ---- one entry, and those behind it

module _ {numbers : List ℕ} {e : Endian} (d : Die numbers e) (dies : List (Die numbers e)) where
  pub dies-length : length (written_dies numbers e (d ∷ dies)) ≡ length (written_die numbers e d) + length (written_dies numbers e dies)
  unfolding written_dies
  dies-length = length-append (written_die numbers e d) (written_dies numbers e dies)

  module _ {s : List ℕ} {at : ℕ} (q : Stands s at (written_dies numbers e (d ∷ dies))) where
    pub die-stands : Stands s at (written_die numbers e d)
    unfolding written_dies
    die-stands = front-stands s at (written_die numbers e d) (written_dies numbers e dies) q

    pub others-stand : Stands s (at + length (written_die numbers e d)) (written_dies numbers e dies)
    unfolding written_dies
    others-stand = back-stands s at (written_die numbers e d) (written_dies numbers e dies) q

-- ---- reading, outside erased roots

-- a walk so many levels deep
pub record Walks (r : Source) (levels : ℕ) : Type 0 where
  pub within : Endian → ℕ → ℕ → ℕ → Said Entries
  pub same : (e : Endian) (end a at : ℕ)
      → read_tags r false levels (mode false e) end a at ≡ entries_from r false within levels (mode false e) end (suc (length r.section)) a at

pub walks : (r : Source) (levels : ℕ) → Walks r levels
unfolding read_tags
walks r zero = record { within = λ e' end' b at'. refuse reason.Nested at'; same = λ e end a at. refl }
walks r (suc l) = record { within = λ e' end' b at'. read_tags r false l (mode true e') end' b at'; same = λ e end a at. refl }

module _ (r : Source) (within : Endian → ℕ → ℕ → ℕ → Said Entries) (levels : ℕ) (e : Endian) (end : ℕ) where
  -- one entry, and those behind it
  pub walk_step : (f a : ℕ) {at : ℕ} {rs : List Row} {xs : List Attr} {place : ℕ} → at < end
      → read_entry r false levels (mode false e) at a ≡ gives (next rs xs place)
      → entries_from r false within levels (mode false e) end (suc f) a at
      ≡ (entries_from r false within levels (mode false e) end f (a + length xs) place >>= λ back.
      gives (entries (rs ++ back.rows) (xs ++ back.attrs) back.stopped))
  unfolding entries_from whole_entry entries_then ◌>>=◌
  walk_step f a {at} h p = rw (lt-ltb at end h, p, entries_from)

  -- the end
  pub walk-stops : (f a : ℕ) {at : ℕ} → end ≤ at → entries_from r false within levels (mode false e) end f a at ≡ gives (entries [] [] at)
  unfolding entries_from
  walk-stops zero a h = refl
  walk-stops (suc f) a {at} h = rw (le-ltb at end h, entries_from)

module _ (vendors : List ℕ) (global : ℕ) (e : Endian) where
  -- from a place on where they stand, up to the section's end
  walk-read : (s : List ℕ) (within : Endian → ℕ → ℕ → ℕ → Said Entries) (levels : ℕ) (dies : List (Die (taken vendors) e)) (f a at : ℕ)
      → Stands s at (written_dies (taken vendors) e dies) → at + length (written_dies (taken vendors) e dies) ≡ length s → length s < at + f
      → entries_from (source vendors global s) false within levels (mode false e) (length s) f a at
      ≡ gives (entries (rows_of (taken vendors) e at a dies) (attrs_of (taken vendors) e at dies) (length s))
  unfolding written_dies rows_of attrs_of ◌>>=◌
  walk-read s within levels dies zero a at q p h = absurd (omega arith)
  walk-read s within levels [] (suc f) a at q p h =
      let here : at ≡ length s = omega arith in
      walk-stops (source vendors global s) within levels e (length s) (suc f) a (omega arith) ∙ ap (λ (end : ℕ). gives (entries [] [] end)) here
  walk-read s within levels (d ∷ dies) (suc f) a at q p h =
      let whole = dies-length d dies in
      let long : 4 ≤ length (written_die (taken vendors) e d) = die-long d in
      walk_step (source vendors global s) within levels e (length s) f a (omega arith) (die-read vendors global e s levels at a d (die-stands d dies q))
      ∙ rw (walk-read s within levels dies f (a + length (die_attrs (taken vendors) e at d)) (at + length (written_die (taken vendors) e d)) (others-stand d dies q) (omega arith) (omega arith))

  -- the theorem: rows and attributes
  pub standard-read : (levels : ℕ) (dies : List (Die (taken vendors) e))
      → read_tags (source vendors global (written_dies (taken vendors) e dies)) false levels (mode false e) (length (written_dies (taken vendors) e dies)) 0 0
      ≡ gives (entries (rows_of (taken vendors) e 0 0 dies) (attrs_of (taken vendors) e 0 dies) (length (written_dies (taken vendors) e dies)))
  standard-read levels dies =
      let s : List ℕ = written_dies (taken vendors) e dies in
      let walk : Walks (source vendors global s) levels = walks (source vendors global s) levels in
      walk.same e (length s) 0 0 ∙ walk-read s walk.within levels dies (suc (length s)) 0 0 (all-stands s) (omega arith) (omega arith)

-- ---- values

both-decoded : {e : Endian} {s : List ℕ} {xs ys : List Attr} {vs ws : List Value} → AllDecoded e s xs vs → AllDecoded e s ys ws
    → AllDecoded e s (xs ++ ys) (vs ++ ws)
both-decoded none others = others
both-decoded (more x xs form v vs p d rest) others = more x _ form v _ p d (both-decoded rest others)

module _ {numbers : List ℕ} {e : Endian} (s : List ℕ) where
  die-decoded : (d : Die numbers e) (at : ℕ) → Stands s at (written_die numbers e d) → AllDecoded e s (die_attrs numbers e at d) (die_values numbers e d)
  unfolding written_die die_attrs die_values
  die-decoded (null fill few small) at q = none
  die-decoded (padding fill some few small) at q = none
  die-decoded (entry kind k p b rest few) at q =
      let body : List ℕ = written_attributes numbers e (b ∷ rest) in
      run-decoded s (b ∷ rest) (tagged e s at (length body + 6) kind body q).body_stands

  dies-decoded : (dies : List (Die numbers e)) (at : ℕ) → Stands s at (written_dies numbers e dies)
      → AllDecoded e s (attrs_of numbers e at dies) (values_of numbers e dies)
  unfolding attrs_of values_of
  dies-decoded [] at q = none
  dies-decoded (d ∷ dies) at q = both-decoded (die-decoded d at (die-stands d dies q)) (dies-decoded dies _ (others-stand d dies q))

-- the theorem: values
pub standard-values : (numbers : List ℕ) (e : Endian) (dies : List (Die numbers e))
    → AllDecoded e (written_dies numbers e dies) (attrs_of numbers e 0 dies) (values_of numbers e dies)
standard-values numbers e dies = dies-decoded (written_dies numbers e dies) dies 0 (all-stands (written_dies numbers e dies))
