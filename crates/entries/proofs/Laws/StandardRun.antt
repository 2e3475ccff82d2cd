-- Attributes that the standard wrote, one after the other up to their end, are read, are exact, and their decoders answer their values.
use Prim.Native.Nat.{ℕ, zero, suc, ◌+◌, ◌%◌, ◌≤◌, ◌<◌}
use native.Mathlib.Omega.{arith}
use mathlib.Core.Path.{◌≡◌, refl, ap, ◌∙◌, subst}
use mathlib.Core.Bool.{false}
use mathlib.Core.List.{List, [], ◌∷◌}
use lib.ListN.{length, length-append}
use borrow.Author.Tests.{lt-ltb, le-ltb}
use Rattle.numbers.specs.Value.{value_of}
use Rattle.numbers.specs.declared.Endian.{Endian}
use Rattle.numbers.proofs.Laws.Stands.{Stands, front-stands, back-stands}
use Rattle.numbers.proofs.Laws.Written.{number_read}
use Rattle.standard.specs.Entries.{Attribute, written_attribute, written_attributes, values_in}
use Rattle.standard.specs.Exact.{Attributes}
use Rattle.standard.specs.Exact as exact
use Rattle.format.specs.Said.{gives, ◌>>=◌}
use Rattle.attributes.specs.Read.{read_attribute}
use Rattle.entries.specs.Source.{Source, source}
use Rattle.entries.specs.Run.{ran, attr, found, read_on, run_ends, read_run}
use Rattle.entries.specs.Standard.{taken, written_from, AllDecoded}
use Rattle.entries.specs.Standard as table
use Rattle.entries.proofs.Laws.StandardValue.{attribute-length, number-stands, body_stands, attribute-ends, attribute-read, value-decoded}

-- ---- reading, outside erased roots

module _ (r : Source) (e : Endian) (end : ℕ) {at : ℕ} where
  -- one attribute, and those behind it
  pub run_step : (f : ℕ) {n value next : ℕ} → at < end → read_attribute r.vendors e r.section at ≡ found n value next
      → read_run r e false end (suc f) false at
      ≡ (read_run r e false end f false next >>= λ later. gives (ran (attr n value ∷ later.attrs) later.high later.stopped))
  unfolding read_run read_on run_ends
  run_step f h p = rw (lt-ltb at end h, p, read_run)

  -- the end
  pub run-stops : (f : ℕ) → end ≤ at → read_run r e false end f false at ≡ gives (ran [] false at)
  unfolding read_run
  run-stops zero h = refl
  run-stops (suc f) h = rw (le-ltb at end h, read_run)

module _ {numbers : List ℕ} {e : Endian} (x : Attribute numbers e) (xs : List (Attribute numbers e)) where
  -- ---- one attribute, and those behind it

  attributes-length : length (written_attributes numbers e (x ∷ xs)) ≡ length (written_attribute numbers e x) + length (written_attributes numbers e xs)
  unfolding written_attributes
  attributes-length = length-append (written_attribute numbers e x) (written_attributes numbers e xs)

  -- it takes at least the two bytes of its number
  pub attributes-long : 2 ≤ length (written_attributes numbers e (x ∷ xs))
  attributes-long = omega (arith, attribute-length x, attributes-length)

  module _ {s : List ℕ} {at : ℕ} (q : Stands s at (written_attributes numbers e (x ∷ xs))) where
    first-stands : Stands s at (written_attribute numbers e x)
    unfolding written_attributes
    first-stands = front-stands s at (written_attribute numbers e x) (written_attributes numbers e xs) q

    others-stand : Stands s (at + length (written_attribute numbers e x)) (written_attributes numbers e xs)
    unfolding written_attributes
    others-stand = back-stands s at (written_attribute numbers e x) (written_attributes numbers e xs) q

-- ---- all of them, up to their end

module _ {numbers : List ℕ} {e : Endian} (s : List ℕ) where
  pub run-exact : (xs : List (Attribute numbers e)) {end at : ℕ} → Stands s at (written_attributes numbers e xs)
      → at + length (written_attributes numbers e xs) ≡ end → Attributes e s end at
  unfolding written_attributes
  run-exact [] {end} {at} q p = let here : end ≡ at = omega arith in subst (Attributes e s end) here exact.none
  run-exact (x ∷ xs) {end} {at} q p =
      let says : value_of e 2 s at ≡ x.kind = number_read e 2 s at x.kind x.small (number-stands x (first-stands x xs q)) in
      let next : ℕ = at + length (written_attribute numbers e x) in
      exact.more at next x.form (omega (arith, attribute-length x, attributes-length x xs)) (ap (λ (n : ℕ). n % 16) says ∙ x.has_form)
      (attribute-ends x (first-stands x xs q)) (run-exact xs (others-stand x xs q) (omega (arith, attributes-length x xs)))

  pub run-decoded : (xs : List (Attribute numbers e)) {at : ℕ} → Stands s at (written_attributes numbers e xs)
      → AllDecoded e s (written_from numbers e at xs) (values_in numbers e xs)
  unfolding written_from values_in
  run-decoded [] q = table.none
  run-decoded (x ∷ xs) {at} q =
      table.more (attr x.kind (at + 2)) _ x.form x.value _ x.has_form (value-decoded s (at + 2) x.written (body_stands x (first-stands x xs q)))
      (run-decoded xs (others-stand x xs q))

pub run-read : (vendors : List ℕ) (global : ℕ) {e : Endian} (s : List ℕ) (xs : List (Attribute (taken vendors) e)) (f end : ℕ) {at : ℕ}
    → Stands s at (written_attributes (taken vendors) e xs) → length s < at + f → at + length (written_attributes (taken vendors) e xs) ≡ end
    → read_run (source vendors global s) e false end f false at ≡ gives (ran (written_from (taken vendors) e at xs) false end)
unfolding written_attributes written_from ◌>>=◌
run-read vendors global s xs zero end q h p = let inside = q.fits in absurd (omega arith)
run-read vendors global {e} s [] (suc f) end {at} q h p =
    let here : at ≡ end = omega arith in
    run-stops (source vendors global s) e end (suc f) (omega arith) ∙ ap (λ (stopped : ℕ). gives (ran [] false stopped)) here
run-read vendors global {e} s (x ∷ xs) (suc f) end {at} q h p =
    let long : length (written_attribute (taken vendors) e x) ≡ 2 + length x.body = attribute-length x in
    let whole = attributes-length x xs in
    run_step (source vendors global s) e end f (omega arith) (attribute-read vendors x (first-stands x xs q))
    ∙ rw (run-read vendors global s xs f end (others-stand x xs q) (omega arith) (omega arith))
