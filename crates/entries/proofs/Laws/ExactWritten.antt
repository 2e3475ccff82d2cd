-- What the standard writes is exact: in such a section every entry ends where its size says.
use Prim.Native.Nat.{ℕ, ◌+◌, ◌≤◌}
use native.Mathlib.Omega.{arith}
use mathlib.Core.Path.{◌≡◌, subst}
use mathlib.Core.List.{List, [], ◌∷◌}
use lib.ListN.{length}
use Rattle.numbers.specs.Value.{value_of}
use Rattle.numbers.specs.declared.Endian.{Endian}
use Rattle.numbers.proofs.Laws.Stands.{Stands, all-stands}
use Rattle.standard.specs.Numbers.{padding_tag}
use Rattle.standard.specs.Entries.{Die, null, padding, entry, written_attributes, written_die, written_dies}
use Rattle.standard.specs.Exact.{Exact}
use Rattle.standard.specs.Exact as exact
use Rattle.entries.proofs.Laws.Tagged.{Tagged, tagged, tag_read}
use Rattle.entries.proofs.Laws.StandardAgrees.{tag_known}
use Rattle.entries.proofs.Laws.StandardRun.{attributes-long, run-exact}
use Rattle.entries.proofs.Laws.StandardEntry.{tag_small, size_of, die-length, size-read, size_fits}
use Rattle.entries.proofs.Laws.StandardRead.{dies-length, die-stands, others-stand}

module _ {numbers : List ℕ} {e : Endian} (s : List ℕ) where
  -- an entry before what is exact
  die-exact : (d : Die numbers e) {at : ℕ} → Stands s at (written_die numbers e d) → Exact e s (at + size_of d) → Exact e s at
  unfolding written_die size_of
  die-exact (null fill few small) {at} q others =
      let d : Die numbers e = null fill few small in
      let says : value_of e 4 s at ≡ length fill + 4 = size-read s at d q in
      let fits : at + (length fill + 4) ≤ length s = size_fits s at d q in
      exact.null at (omega arith) (omega arith) (omega arith) (rw says others)
  die-exact (padding fill some few small) {at} q others =
      let d : Die numbers e = padding fill some few small in
      let says : value_of e 4 s at ≡ length fill + 6 = size-read s at d q in
      let fits : at + (length fill + 6) ≤ length s = size_fits s at d q in
      exact.padding at (omega arith) (tag_read (omega arith) (tagged e s at (length fill + 6) padding_tag fill q)) (omega arith) (rw says others)
  die-exact (entry kind k p b rest few) {at} q others =
      let d : Die numbers e = entry kind k p b rest few in
      let body : List ℕ = written_attributes numbers e (b ∷ rest) in
      let t : Tagged e s at (length body + 6) kind body = tagged e s at (length body + 6) kind body q in
      let says : value_of e 4 s at ≡ length body + 6 = size-read s at d q in
      let fits : at + (length body + 6) ≤ length s = size_fits s at d q in
      let some : 2 ≤ length body = attributes-long b rest in
      let tells : value_of e 2 s (at + 4) ≡ kind = tag_read (tag_small kind (tag_known k)) t in
      exact.entry at (omega arith) (rw tells p) (omega arith) (run-exact s (b ∷ rest) t.body_stands (omega arith)) (rw says others)

  dies-exact : (dies : List (Die numbers e)) (at : ℕ) → Stands s at (written_dies numbers e dies) → at + length (written_dies numbers e dies) ≡ length s
      → Exact e s at
  unfolding written_dies
  dies-exact [] at q p = let here : length s ≡ at = omega arith in subst (Exact e s) here exact.ends
  dies-exact (d ∷ dies) at q p =
      let whole = dies-length d dies in
      die-exact d (die-stands d dies q) (rw (← (die-length d)) (dies-exact dies (at + length (written_die numbers e d)) (others-stand d dies q) (omega arith)))

-- the theorem
pub standard-exact : (numbers : List ℕ) (e : Endian) (dies : List (Die numbers e)) → Exact e (written_dies numbers e dies) 0
standard-exact numbers e dies =
    let s : List ℕ = written_dies numbers e dies in
    dies-exact s dies 0 (all-stands s) (omega arith)
