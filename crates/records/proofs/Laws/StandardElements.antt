-- The list of an enumeration as the standard writes it is read back, and nothing else is read.
use Rattle.std.specs.Prelude.{Option, Some, None}
use Prim.Native.Nat.{ℕ, zero, suc, ◌+◌, ◌-◌, ◌≤◌, ◌<◌}
use native.Mathlib.Nat.{add-zero, add-sub_cancel_left, lt_of_not-le}
use native.Mathlib.Decide.{dec_le}
use native.Mathlib.Omega.{arith}
use mathlib.Core.Path.{◌≡◌, refl, sym, ap, subst, ◌∙◌}
use mathlib.Core.List.{List, [], ◌∷◌, ◌++◌}
use lib.ListN.{length, take, drop, length-append}
use lib.Dec.{ltb}
use lib.IntN.{ℤ}
use borrow.Author.Tests.{lt-ltb, ltb-true}
use Rattle.numbers.proofs.Laws.Tests.{cond-all}
use Rattle.numbers.specs.Value.{value_of, read_at, signed_of}
use Rattle.numbers.proofs.Laws.Value.{there-inside, read_all}
use Rattle.numbers.specs.Written.{bytes_of, Bytes}
use Rattle.numbers.proofs.Laws.Written.{bytes-length, number-answers, number_small, number-written}
use Rattle.numbers.proofs.Laws.Stands.{Stands, all-stands, stands-all, none-stands, front-stands, back-stands, both-stand, byte-stands, stands-byte, part_length, part-stands}
use Rattle.numbers.specs.declared.Endian.{Endian}
use Rattle.standard.specs.Entries.{Text, text, block}
use Rattle.standard.specs.Elements.{Element, written_elements}
use Rattle.format.specs.Said.{Said, gives, ◌>>=◌, placed}
use Rattle.format.proofs.Laws.Said.{given_is, given-refused, step-gave}
use Rattle.attributes.specs.Text.{zero_from}
use Rattle.attributes.specs.Parts.{block_at}
use Rattle.attributes.proofs.Laws.Text.{zero-after, zero-behind, FirstZero, first-zero}
use Rattle.attributes.specs.declared.decode.Endians.{Endians}
use Rattle.blocks.proofs.Laws.Placed.{split-stands, stands_at, stands-part, bytes-within}
use Rattle.blocks.proofs.Laws.StandardTypes.{block-stands, block-there}
use Rattle.records.specs.Scan.{attribute_at}
use Rattle.records.specs.Enumeration.{size_before, list_at}
use Rattle.records.specs.declared.scan.Run.{Run}
use Rattle.records.specs.Elements.{list_width, value_at, named_from, valued, element_at, Listed, element_then, elements_from, elements_in}
use Rattle.records.specs.Standard.{Width, one, two, four, listed_from, names_written, names_in, WrittenList, list_base, ListWritten}
use Rattle.records.specs.declared.elements.Element as reader
use Rattle.records.specs.declared.elements.Element.TheVariants as element
use Rattle.records.proofs.Laws.Elements.{from-turn, from_end}

-- ---- the zero behind a text

-- a text that stands somewhere ends at its zero
pub text-ends : {s : List ℕ} {at : ℕ} {xs : List ℕ} → Text xs → Stands s at (text xs) → zero_from s at ≡ at + length xs
unfolding text
text-ends {s} {at} {xs} t q =
    let whole : length (xs ++ (0 ∷ [])) ≡ length xs + 1 = length-append xs (0 ∷ []) in
    let inside : at + length (xs ++ (0 ∷ [])) ≤ length s = q.fits in
    let front : Stands s at xs = front-stands s at xs (0 ∷ []) q in
    zero-behind s (length xs) at (omega arith) (λ i b p. t.no_zero i b (sym (front.same i b) ∙ p))
    (stands-byte s (at + length xs) 0 [] (back-stands s at xs (0 ∷ []) q))

-- ---- where the parts of a written list stand

module _ {w : ℕ} (e : Endian) (x : Element w) (xs : List (Element w)) where
  text-length : length (text x.name) ≡ length x.name + 1
  unfolding text
  text-length = length-append x.name (0 ∷ [])

  -- constant and name
  abbrev first : List ℕ
  first = bytes_of e w x.constant ++ text x.name

  first-length : length first ≡ w + length x.name + 1
  first-length =
      let wide : length (bytes_of e w x.constant) ≡ w = bytes-length e w x.constant in
      let long : length (text x.name) ≡ length x.name + 1 = text-length in
      length-append (bytes_of e w x.constant) (text x.name) ∙ omega arith

  list_length : length (written_elements w e (x ∷ xs)) ≡ w + length x.name + 1 + length (written_elements w e xs)
  unfolding written_elements
  list_length = length-append first (written_elements w e xs) ∙ ap (λ (n : ℕ). n + length (written_elements w e xs)) first-length

  module _ {s : List ℕ} {at : ℕ} (q : Stands s at (written_elements w e (x ∷ xs))) where
    first-stands : Stands s at first
    unfolding written_elements
    first-stands = front-stands s at first (written_elements w e xs) q

    constant-stands : Stands s at (bytes_of e w x.constant)
    constant-stands = front-stands s at (bytes_of e w x.constant) (text x.name) first-stands

    text-stands : Stands s (at + w) (text x.name)
    text-stands = rw (bytes-length e w x.constant) at (back-stands s at (bytes_of e w x.constant) (text x.name) first-stands)

    name-stands : Stands s (at + w) x.name
    unfolding text
    name-stands = front-stands s (at + w) x.name (0 ∷ []) text-stands

    rest-stands : Stands s (at + w + length x.name + 1) (written_elements w e xs)
    unfolding written_elements
    rest-stands =
        let long : length first ≡ w + length x.name + 1 = first-length in
        let place : at + length first ≡ at + w + length x.name + 1 = omega arith in
        subst (λ (k : ℕ). Stands s k (written_elements w e xs)) place (back-stands s at first (written_elements w e xs) q)

    name-ends : zero_from s (at + w) ≡ at + w + length x.name
    name-ends = text-ends x.is_text text-stands

-- ---- one element

abbrev signed_at : Endian → ℕ → List ℕ → ℕ → Option ℤ
signed_at e w block at = read_at (λ n. Some (signed_of w n)) None e w block at

element-is : {w : ℕ} → Width w → (e : Endian) (block : List ℕ) (at : ℕ) → element_at w e block at ≡ valued w block at (signed_at e w block at)
unfolding element_at value_at
element-is one e block at = refl
element-is two e block at = refl
element-is four e block at = refl

named-is : (block : List ℕ) (at n : ℕ) (value : ℤ) → zero_from block at ≡ at + n → at + n < length block
    → named_from block at value ≡ Some (element.Is value at n (at + n + 1))
unfolding named_from
named-is block at n value p h = rw (p, lt-ltb (at + n) (length block) h, add-sub_cancel_left at n)

module _ {w : ℕ} (width : Width w) (e : Endian) (base : ℕ) (block : List ℕ) where
  abbrev from : ℕ → ℕ → Said (List Listed)
  from turns at = elements_from w e base block turns at

  -- ---- what is written is read

  module _ (x : Element w) (xs : List (Element w)) {at : ℕ} (q : Stands block at (written_elements w e (x ∷ xs))) where
    element-read : element_at w e block at ≡ Some (element.Is (signed_of w x.constant) (at + w) (length x.name) (at + w + length x.name + 1))
    unfolding valued
    element-read =
        let long : length (text x.name) ≡ length x.name + 1 = text-length e x xs in
        let inside : at + w + length (text x.name) ≤ length block = (text-stands e x xs q).fits in
        element-is width e block at
        ∙ ap (valued w block at)
        (number-answers (λ n. Some (signed_of w n)) None e w block at x.constant x.small (constant-stands e x xs q))
        ∙ named-is block (at + w) (length x.name) (signed_of w x.constant) (name-ends e x xs q) (omega arith)

  read-from : (xs : List (Element w)) (turns at : ℕ) → Stands block at (written_elements w e xs) → at + length (written_elements w e xs) ≡ length block
      → length block ≤ at + turns → from turns at ≡ gives (listed_from w (base + at) xs)
  unfolding written_elements listed_from element_then ◌>>=◌
  read-from [] turns at q whole fuel = from_end w e base block turns at (omega arith)
  read-from (x ∷ xs) zero at q whole fuel =
      let long : length (written_elements w e (x ∷ xs)) ≡ w + length x.name + 1 + length (written_elements w e xs) = list_length e x xs in
      absurd (omega arith)
  read-from (x ∷ xs) (suc turns) at q whole fuel =
      let long : length (written_elements w e (x ∷ xs)) ≡ w + length x.name + 1 + length (written_elements w e xs) = list_length e x xs in
      let next : ℕ = at + w + length x.name + 1 in
      let place : base + (at + w) ≡ base + at + w = omega arith in
      let behind : base + next ≡ base + at + w + length x.name + 1 = omega arith in
      from-turn w e base block turns at (omega arith)
      ∙ ap (element_then base (λ k. from turns k)) (element-read x xs q)
      ∙ rw (read-from xs turns next (rest-stands e x xs q) (omega arith) (omega arith))
      (rw (place, behind))

  -- ---- what is read was written

  -- what is listed of the element at a place
  abbrev listed_at : ℕ → Listed
  listed_at at = record { value = signed_of w (value_of e w block at); place = base + (at + w); length = zero_from block (at + w) - (at + w) }

  -- it is there, and what is read behind it
  record Got (next : ℕ → Said (List Listed)) (at : ℕ) (listed : List Listed) : Type 0 where
    rest : List Listed
    inside : at + w ≤ length block
    named : zero_from block (at + w) < length block
    goes_on : next (zero_from block (at + w) + 1) ≡ gives rest
    is : listed_at at ∷ rest ≡ listed

  got : (next : ℕ → Said (List Listed)) (at : ℕ) {listed : List Listed} → element_then base next (element_at w e block at) ≡ gives listed → Got next at listed
  unfolding valued named_from element_then
  got next at {listed} p =
      let z : ℕ = zero_from block (at + w) in
      read_all (λ n. Some (signed_of w n)) None e w block at
      (λ (r : Option ℤ). element_then base next (valued w block at r) ≡ gives listed → Got next at listed)
      (λ t. cond-all (λ (x : Option reader.Element). element_then base next x ≡ gives listed → Got next at listed) (ltb z (length block))
      (λ u q.
      let step = step-gave (next (z + 1)) _ q in
      record {
        rest = step.0;
        inside = there-inside block at w t;
        named = ltb-true z (length block) u;
        goes_on = step.1;
        is = given_is step.2;
      })
      (λ u q. absurd (given-refused (sym q))))
      (λ t q. absurd (given-refused (sym q)))
      (ap (element_then base next) (sym (element-is width e block at)) ∙ p)

  module _ (small : Bytes block) where
    -- elements that stand from a place to the end, and come to the list
    record From (at : ℕ) (listed : List Listed) : Type 0 where
      elements : List (Element w)
      stand : Stands block at (written_elements w e elements)
      whole : at + length (written_elements w e elements) ≡ length block
      comes : listed_from w (base + at) elements ≡ listed

    none_from : {at : ℕ} {listed : List Listed} → at ≡ length block → gives [] ≡ gives listed → From at listed
    unfolding written_elements listed_from
    none_from h p = record { elements = []; stand = none-stands (omega arith); whole = omega arith; comes = given_is p }

    module _ (at : ℕ) (inside : at + w ≤ length block) (named : zero_from block (at + w) < length block) where
      abbrev name_at : List ℕ
      name_at = take (zero_from block (at + w) - (at + w)) (drop (at + w) block)

      after : at + w ≤ zero_from block (at + w)
      after = zero-after block (at + w) refl

      name-fits : at + w + (zero_from block (at + w) - (at + w)) ≤ length block
      name-fits = let from : at + w ≤ zero_from block (at + w) = after in omega arith

      name-at : Stands block (at + w) name_at
      name-at = part-stands block (at + w) (zero_from block (at + w) - (at + w)) name-fits

      name-long : length name_at ≡ zero_from block (at + w) - (at + w)
      name-long = part_length block (at + w) (zero_from block (at + w) - (at + w)) name-fits

      name-text : Text name_at
      name-text =
          let long : length name_at ≡ zero_from block (at + w) - (at + w) = name-long in
          let zero : FirstZero block (at + w) (zero_from block (at + w)) = first-zero block (length block) (at + w) (omega arith) named in
          record {
            small = bytes-within name-at small;
            no_zero = λ i b p. zero.before (at + w + i) (omega arith) (omega arith) (name-at.same i b ∙ p);
          }

      abbrev element_of : Element w
      element_of = record { constant = value_of e w block at; name = name_at; small = number_small e w block at small; is_text = name-text }

      text_at : Stands block (at + w) (text name_at)
      unfolding text
      text_at =
          let long : length name_at ≡ zero_from block (at + w) - (at + w) = name-long in
          let from : at + w ≤ zero_from block (at + w) = after in
          let place : zero_from block (at + w) ≡ at + w + length name_at = omega arith in
          let zero : FirstZero block (at + w) (zero_from block (at + w)) = first-zero block (length block) (at + w) (omega arith) named in
          both-stand block (at + w) name_at (0 ∷ []) name-at
          (subst (λ (k : ℕ). Stands block k (0 ∷ [])) place (byte-stands block (zero_from block (at + w)) 0 named zero.here))

      more-from : (rest listed : List Listed) → listed_at at ∷ rest ≡ listed → From (zero_from block (at + w) + 1) rest → From at listed
      unfolding written_elements listed_from
      more-from rest listed is f =
          let x : Element w = element_of in
          let xs : List (Element w) = f.elements in
          let name : ℕ = zero_from block (at + w) - (at + w) in
          let long : length name_at ≡ name = name-long in
          let from : at + w ≤ zero_from block (at + w) = after in
          let wide : length (bytes_of e w x.constant) ≡ w = bytes-length e w x.constant in
          let one : length (first e x xs) ≡ w + length name_at + 1 = first-length e x xs in
          let all : length (written_elements w e (x ∷ xs)) ≡ w + length name_at + 1 + length (written_elements w e xs) = list_length e x xs in
          let rest-whole : zero_from block (at + w) + 1 + length (written_elements w e xs) ≡ length block = f.whole in
          let at-text : at + w ≡ at + length (bytes_of e w x.constant) = omega arith in
          let at_rest : zero_from block (at + w) + 1 ≡ at + length (first e x xs) = omega arith in
          let place : base + at + w ≡ base + (at + w) = omega arith in
          let next : base + at + w + length name_at + 1 ≡ base + (zero_from block (at + w) + 1) = omega arith in
          record {
            elements = x ∷ xs;
            stand =
                both-stand block at (first e x xs) (written_elements w e xs)
                (both-stand block at (bytes_of e w x.constant) (text name_at) (number-written e w block at small inside refl)
                (subst (λ (k : ℕ). Stands block k (text name_at)) at-text text_at))
                (subst (λ (k : ℕ). Stands block k (written_elements w e xs)) at_rest f.stand);
            whole = omega arith;
            comes = rw (next, place, long) (ap (λ (ys : List Listed). listed_at at ∷ ys) f.comes ∙ is);
          }

    only-from : (turns at : ℕ) {listed : List Listed} → at ≤ length block → length block ≤ at + turns → from turns at ≡ gives listed → From at listed
    unfolding elements_from
    only-from zero at inside fuel p = none_from (omega arith) p
    only-from (suc turns) at {listed} inside fuel p =
        elim (dec_le (length block) at) [
          | yes h ↦ none_from (omega arith) (sym (from_end w e base block (suc turns) at h) ∙ p)
          | no h ↦
              let g : Got (λ k. from turns k) at listed = got (λ k. from turns k) at (sym (from-turn w e base block turns at (lt_of_not-le h)) ∙ p) in
              let later : at + w ≤ zero_from block (at + w) = zero-after block (at + w) refl in
              let there : zero_from block (at + w) < length block = g.named in
              more-from at g.inside g.named g.rest listed g.is
              (only-from turns (zero_from block (at + w) + 1) (omega arith) (omega arith) g.goes_on)
        ]

-- ---- the theorems

-- the list that the standard writes is read back: every element, in order, its constant signed
pub elements-read : {w : ℕ} → Width w → (e : Endian) (base : ℕ) (xs : List (Element w))
    → elements_in w e base (written_elements w e xs) ≡ gives (listed_from w base xs)
unfolding elements_in
elements-read {w} width e base xs =
    let block : List ℕ = written_elements w e xs in
    read-from width e base block xs (length block) 0 (all-stands block) (omega arith) (omega arith)
    ∙ ap (λ (k : ℕ). gives (listed_from w k xs)) (add-zero base)

names-from : {w : ℕ} (e : Endian) (s : List ℕ) (xs : List (Element w)) (at : ℕ) → Stands s at (written_elements w e xs)
    → names_in s (listed_from w at xs) ≡ names_written w xs
unfolding names_in listed_from names_written
names-from e s [] at q = refl
names-from e s (x ∷ xs) at q = rw (stands-part (name-stands e x xs q), names-from e s xs _ (rest-stands e x xs q))

-- the parts of the section that the list names are the names that were written
pub names-read : (w : ℕ) (e : Endian) (before : List ℕ) (xs : List (Element w)) (behind : List ℕ)
    → names_in (before ++ (written_elements w e xs ++ behind)) (listed_from w (length before) xs) ≡ names_written w xs
names-read w e before xs behind =
    names-from e (before ++ (written_elements w e xs ++ behind)) xs (length before) (split-stands before (written_elements w e xs) behind)

-- any block of bytes whose list is read is the written form of just these elements
pub elements-only : {w : ℕ} → Width w → (e : Endian) (base : ℕ) {block : List ℕ} → Bytes block → {xs : List Listed} → elements_in w e base block ≡ gives xs
    → WrittenList w e base block xs
unfolding elements_in
elements-only {w} width e base {block} small {xs} p =
    let f : From width e base block small 0 xs = only-from width e base block small (length block) 0 (omega arith) (omega arith) p in
    let whole : 0 + length (written_elements w e f.elements) ≡ length block = f.whole in
    record {
      elements = f.elements;
      written = stands-all f.stand (omega arith);
      comes = ap (λ (k : ℕ). listed_from w k f.elements) (sym (add-zero base)) ∙ f.comes;
    }

-- ---- in a row

width_of : {w : ℕ} → Width w → list_width (Some w) ≡ w
unfolding list_width
width_of one = refl
width_of two = refl
width_of four = refl

-- an AT_element_list of a row, behind an AT_byte_size that says its width: what is read, and the names in the section
module _ {w : ℕ} (width : Width w) (e : Endian) {s attrs : List ℕ} {run : Run} {j : ℕ} {xs : List (Element w)} (l : ListWritten w e s attrs run j xs) where
  abbrev at : ℕ
  at = (attribute_at attrs (run.first + j)).value

  list-stands : Stands s at (block e 4 (written_elements w e xs))
  list-stands = stands_at l.before (block e 4 (written_elements w e xs)) l.behind l.section l.place

  list-there : block_at e 4 s at ≡ written_elements w e xs
  list-there = block-there e 4 (written_elements w e xs) list-stands l.short

  pub list_read : list_at s attrs run j ≡ gives (listed_from w (list_base attrs run j) xs)
  unfolding list_at placed
  list_read =
      ap (λ (ends : Endians). placed run.key (elements_in (list_width (size_before s attrs run j)) ends.section (at + 4) (block_at ends.«data» 4 s at))) l.one_endian
      ∙ ap (λ (size : Option ℕ). placed run.key (elements_in (list_width size) e (at + 4) (block_at e 4 s at))) l.sized
      ∙ ap (λ (n : ℕ). placed run.key (elements_in n e (at + 4) (block_at e 4 s at))) (width_of width)
      ∙ ap (λ (u : List ℕ). placed run.key (elements_in w e (at + 4) u)) list-there
      ∙ ap (placed run.key) (elements-read width e (at + 4) xs)

  pub list-names-read : names_in s (listed_from w (list_base attrs run j) xs) ≡ names_written w xs
  list-names-read = names-from e s xs (at + 4) (block-stands e 4 (written_elements w e xs) list-stands)
