-- An entry that is exact, in bytes, was written by the standard: a null, padding, or an entry whose attributes were.
use Prim.Native.Nat.{ℕ, ◌+◌, ◌-◌, ◌^◌, ◌≤◌, ◌<◌}
use native.Mathlib.Omega.{arith}
use mathlib.Core.Path.{◌≡◌, refl, sym}
use mathlib.Core.List.{List, [], ◌∷◌, ◌++◌}
use lib.ListN.{length, take, drop, length-append}
use Rattle.numbers.specs.Value.{value_of}
use Rattle.numbers.specs.Written.{bytes_of, Bytes}
use Rattle.numbers.specs.declared.Endian.{Endian}
use Rattle.numbers.proofs.Laws.Stands.{Stands, both-stand, part_length, part-stands}
use Rattle.numbers.proofs.Laws.Written.{bytes-length, number_small, number-written}
use Rattle.standard.specs.Numbers.{OnList, tags, padding_tag}
use Rattle.standard.specs.Entries.{Attribute, written_attributes, Die, null, padding, entry, written_die}
use Rattle.entries.proofs.Laws.Tagged.{Tagged, tagged-length, tagged-stands}
use Rattle.entries.proofs.Laws.WrittenValue.{part_small}
use Rattle.entries.proofs.Laws.WrittenRun.{RunFound}

-- an entry that stands at a place and ends at another
pub record DieFound (numbers : List ℕ) (e : Endian) (s : List ℕ) (at next : ℕ) : Type 0 where
  pub found : Die numbers e
  pub stands : Stands s at (written_die numbers e found)
  pub ends : at + length (written_die numbers e found) ≡ next

module _ (numbers : List ℕ) (e : Endian) (s : List ℕ) (small : Bytes s) (at : ℕ) (fits : at + value_of e 4 s at ≤ length s) where
  abbrev size : ℕ
  size = value_of e 4 s at

  pub null-found : 4 ≤ size → size < 8 → DieFound numbers e s at (at + size)
  unfolding written_die
  null-found some few =
      let fill : List ℕ = take (size - 4) (drop (at + 4) s) in
      let count : length fill ≡ size - 4 = part_length s (at + 4) (size - 4) (omega arith) in
      let part : Stands s (at + 4) fill = part-stands s (at + 4) (size - 4) (omega arith) in
      let front : List ℕ = bytes_of e 4 (length fill + 4) in
      let four : length front ≡ 4 = bytes-length e 4 (length fill + 4) in
      let whole : length (front ++ fill) ≡ length front + length fill = length-append front fill in
      record {
        found = null fill (omega arith) (part_small small part);
        stands = both-stand s at front fill (number-written e 4 s at small (omega arith) (omega arith)) (rw four part);
        ends = omega arith;
      }

  -- with a tag, and as many bytes behind it as the size says
  tagged-found : (kind : ℕ) (body : List ℕ) → length body + 6 ≡ size → value_of e 2 s (at + 4) ≡ kind → Stands s (at + 6) body
      → Tagged e s at (length body + 6) kind body
  tagged-found kind body same p q =
      record {
        size_stands = number-written e 4 s at small (omega arith) (sym same);
        tag_stands = number-written e 2 s (at + 4) small (omega arith) p;
        body_stands = q;
      }

  pub padding-found : 8 ≤ size → value_of e 2 s (at + 4) ≡ padding_tag → DieFound numbers e s at (at + size)
  unfolding written_die
  padding-found some p =
      let fill : List ℕ = take (size - 6) (drop (at + 6) s) in
      let count : length fill ≡ size - 6 = part_length s (at + 6) (size - 6) (omega arith) in
      let part : Stands s (at + 6) fill = part-stands s (at + 6) (size - 6) (omega arith) in
      let same : length fill + 6 ≡ size = omega arith in
      let below : size < 256 ^ 4 = number_small e 4 s at small in
      record {
        found = padding fill (omega arith) (omega arith) (part_small small part);
        stands = tagged-stands e s at (length fill + 6) padding_tag fill (tagged-found padding_tag fill same p part);
        ends = omega (arith, tagged-length e (length fill + 6) padding_tag fill);
      }

  entry_of : 8 ≤ size → OnList (value_of e 2 s (at + 4)) tags → (value_of e 2 s (at + 4) ≡ padding_tag → ⊥) → (xs : List (Attribute numbers e))
      → Stands s (at + 6) (written_attributes numbers e xs) → at + 6 + length (written_attributes numbers e xs) ≡ at + size
      → DieFound numbers e s at (at + size)
  unfolding written_die written_attributes
  entry_of some k no-padding [] q h = absurd (omega arith)
  entry_of some k no-padding (x ∷ xs) q h =
      let kind : ℕ = value_of e 2 s (at + 4) in
      let body : List ℕ = written_attributes numbers e (x ∷ xs) in
      let same : length body + 6 ≡ size = omega arith in
      let below : size < 256 ^ 4 = number_small e 4 s at small in
      record {
        found = entry kind k no-padding x xs (omega arith);
        stands = tagged-stands e s at (length body + 6) kind body (tagged-found kind body same refl q);
        ends = omega (arith, tagged-length e (length body + 6) kind body);
      }

  pub entry_found : 8 ≤ size → OnList (value_of e 2 s (at + 4)) tags → (value_of e 2 s (at + 4) ≡ padding_tag → ⊥)
      → RunFound numbers e s (at + 6) (at + size) → DieFound numbers e s at (at + size)
  entry_found some k no-padding run = entry_of some k no-padding run.found run.stands run.ends
