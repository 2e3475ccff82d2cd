-- Where the byte that was wanted lies: not before the entry's key, and never so far that the mark for none could be one.
use Prim.Native.Nat.{ℕ, suc, ◌+◌, ◌^◌, ◌≤◌, ◌<◌}
use native.Mathlib.Omega.{arith}
use mathlib.Core.Bool.{Bool}
use mathlib.Core.List.{List}
use lib.ListN.{length}
use Rattle.numbers.specs.Value.{value_of}
use Rattle.numbers.specs.Written.{Bytes}
use Rattle.numbers.specs.declared.Endian.{Endian}
use Rattle.numbers.proofs.Laws.Written.{number_small}
use Rattle.format.specs.Limits.{section_limit}
use Rattle.format.specs.Said.{gives}
use Rattle.format.specs.declared.settings.Settings.{Settings}
use Rattle.attributes.proofs.Laws.Inside.{read-inside}
use Rattle.entries.specs.Source.{Source, source}
use Rattle.entries.specs.Entry.{inside}
use Rattle.entries.specs.Wanted.{ReadUpTo, none_yet, one_more, AttributeAt, Wants, no_size, no_tag, unknown_tag, no_look, no_number, unknown_number, no_value, no_zero, no_length, no_bytes, Comes, begins, passes, enters, leaves, ByteWanted}
use Rattle.entries.specs.declared.entry.Mode.{Mode}
use Rattle.entries.proofs.Laws.WantedOnly.{here_of}
use Rattle.entries.proofs.Laws.WantedExactly.{EntryAhead, entry-ahead}

module _ (r : Source) (erased : Bool) (levels : ℕ) (m : Mode) (key : ℕ) where
  -- attributes begin behind the tag, and each that was read ends inside
  read-place : {root : Bool} {e : Endian} {high : Bool} {at : ℕ} → key + 6 ≤ length r.section → ReadUpTo r erased levels m key root e high at
      → (key + 6 ≤ at) × (at ≤ length r.section)
  read-place h none_yet = (omega arith, h)
  read-place {e = e} h (one_more {at = at} before on p) =
      let earlier = read-place h before in
      let read = read-inside r.vendors e r.section at p in
      (omega (arith, earlier.0, read.value_place, read.forward), read.inside)

  attribute-place : {e : Endian} {at : ℕ} → AttributeAt r erased levels m key e at → (key + 6 ≤ at) × (at ≤ length r.section)
  attribute-place a = read-place (here_of a.read_as) a.read_before

  -- the byte is never before the key
  pub wants-after : {n byte : ℕ} → Wants r erased levels m key n byte → key ≤ byte
  wants-after (no_size h) = omega arith
  wants-after (no_tag sized h) = omega arith
  wants-after (unknown_tag sized h k) = omega arith
  wants-after (no_look root p h) = omega arith
  wants-after (no_number a h) = omega (arith, (attribute-place a).0)
  wants-after (unknown_number a h k) = omega (arith, (attribute-place a).0)
  wants-after (no_value a f h) = omega (arith, (attribute-place a.attribute).0)
  wants-after (no_zero a f h) = omega (arith, (attribute-place a.attribute).0)
  wants-after (no_length a f h) = omega (arith, (attribute-place a.attribute).0)
  wants-after (no_bytes a f k h) = omega (arith, (attribute-place a.attribute).0)

  -- and in the section or right behind it, but for a size
  wants-near : {n byte : ℕ} → Wants r erased levels m key n byte → (k : ℕ) → key ≤ k → length r.section ≤ k → byte ≤ k
  wants-near (no_size h) k a b = omega arith
  wants-near (no_tag sized h) k a b = omega (arith, sized.size_there)
  wants-near (unknown_tag sized h p) k a b = omega arith
  wants-near (no_look root p h) k a b = omega (arith, root.tagged.tag_there)
  wants-near (no_number c h) k a b = omega (arith, (attribute-place c).1)
  wants-near (unknown_number c h p) k a b = omega (arith, (attribute-place c).1)
  wants-near (no_value c f h) k a b = omega (arith, c.number_there)
  wants-near (no_zero c f h) k a b = omega (arith, c.number_there)
  wants-near (no_length c f h) k a b = omega (arith, c.number_there)
  wants-near (no_bytes c f i h) k a b = omega arith

module _ (settings : Settings) (vendors s : List ℕ) where
  abbrev from : Source
  from = source vendors settings.roles.global_ref s

  -- what is read up to ends below 2 ^ 33: a root begins in the section, and its size is below 2 ^ 32
  comes-near : Bytes s → length s < section_limit → {levels : ℕ} {m : Mode} {end a at : ℕ} → Comes from settings.erased settings.endian levels m end a at
      → end < 2 ^ 33
  comes-near small short begins = omega arith
  comes-near small short (passes c h p) = comes-near small short c
  comes-near small short (enters {l} {m} {end} {a} {at} {place} {end'} {row} {xs} {e'} c h p) =
      let root : EntryAhead m.endian s at (gives (inside row xs place e' end')) = rw p at (entry-ahead from (suc l) m at a settings.erased) in
      let size : value_of m.endian 4 s at < 2 ^ 32 = number_small m.endian 4 s at small in
      omega (arith, root.0.0, root.1)
  comes-near small short (leaves c h p q) = comes-near small short c

  -- the byte is not before the key; and the mark for none, 2 ^ 64 - 1, is no byte. (`Bytes`: that each element of a `&[u8]` is below 256 is not in its
  -- contract's terms)
  pub byte-after : {n key byte : ℕ} → ByteWanted settings vendors s n key byte → key ≤ byte
  byte-after w = wants-after from settings.erased w.levels w.how _ w.wants

  pub byte-near : {n key byte : ℕ} → Bytes s → length s < section_limit → ByteWanted settings vendors s n key byte → byte < 2 ^ 33
  byte-near {key = key} small short w =
      let near : w.end < 2 ^ 33 = comes-near small short w.comes in
      let last : key < w.end = w.before_end in
      let here = wants-near from settings.erased w.levels w.how key w.wants 8589934591 (omega arith) (omega arith) in
      omega arith
