-- A value that the standard wrote stands where it was written: it ends after its bytes, and the decoder of its form answers it. An attribute so is read.
use Rattle.std.specs.Prelude.{Some, None, Err}
use Prim.Native.Nat.{ℕ, suc, ◌+◌, ◌-◌, ◌^◌, ◌≤◌, ◌<◌}
use native.Mathlib.Nat.{add-sub_cancel_left}
use native.Mathlib.Omega.{arith}
use mathlib.Core.Path.{◌≡◌, sym, ap, ◌∙◌, subst}
use mathlib.Core.List.{List, [], ◌∷◌, ◌++◌}
use lib.ListN.{length, get_or, take, drop, length-append}
use lib.Seq.{get_or-take, get_or-drop, ext_get_or}
use Rattle.numbers.specs.Value.{value_of}
use Rattle.numbers.specs.Written.{bytes_of}
use Rattle.numbers.specs.declared.Endian.{Endian}
use Rattle.numbers.proofs.Laws.Stands.{Stands, front-stands, back-stands, stands-byte, part_length}
use Rattle.numbers.proofs.Laws.Written.{bytes-length, number_read, inside-there, number-answers}
use Rattle.standard.specs.Numbers.{Form}
use Rattle.standard.specs.Entries.{Value, Text, text, block, Written, address, reference, block2, block4, data2, data4, data8, string, Attribute, written_attribute}
use Rattle.standard.specs.Exact.{ValueEnds}
use Rattle.standard.specs.Exact as exact
use Rattle.attributes.specs.Text.{zero_from}
use Rattle.attributes.specs.Parts.{part_at, block_at, text_at}
use Rattle.attributes.specs.Read.{ending, numbered, read_attribute}
use Rattle.attributes.specs.declared.value.Unread.TheVariants as missing
use Rattle.attributes.proofs.Laws.Part.{text-there}
use Rattle.entries.specs.Run.{found}
use Rattle.entries.specs.Standard.{taken, Decoded}
use Rattle.entries.specs.Standard as table
use Rattle.entries.proofs.Laws.StandardAgrees.{listed-on, taken-agrees, form-agrees, zero-found, ends-told}

-- bytes that stand at a place are the part there
part-is : {s xs : List ℕ} {at : ℕ} → Stands s at xs → take (length xs) (drop at s) ≡ xs
part-is {s} {xs} {at} q =
    let long : length (take (length xs) (drop at s)) ≡ length xs = part_length s at (length xs) q.fits in
    ext_get_or 0 (take (length xs) (drop at s)) xs long (λ i h. same i (omega arith))
  where
    same : (i : ℕ) → i < length xs → get_or (take (length xs) (drop at s)) i 0 ≡ get_or xs i 0
    same i h = get_or-take (length xs) (drop at s) i 0 h ∙ get_or-drop at s i 0 ∙ q.same i h

-- ---- a block

module _ (e : Endian) (w : ℕ) (s : List ℕ) (at : ℕ) (xs : List ℕ) (few : length xs < 256 ^ w) (q : Stands s at (block e w xs)) where
  -- its length, and its bytes behind it
  block_size : Stands s at (bytes_of e w (length xs))
  unfolding block
  block_size = front-stands s at (bytes_of e w (length xs)) xs q

  block-body : Stands s (at + w) xs
  unfolding block
  block-body = rw (bytes-length e w (length xs)) at (back-stands s at (bytes_of e w (length xs)) xs q)

  block-end : at + w + value_of e w s at ≡ at + length (block e w xs)
  unfolding block
  block-end =
      let size : List ℕ = bytes_of e w (length xs) in
      let count : length size ≡ w = bytes-length e w (length xs) in
      let whole : length (size ++ xs) ≡ length size + length xs = length-append size xs in
      let says : value_of e w s at ≡ length xs = number_read e w s at (length xs) few block_size in
      omega arith

  block-decoded : block_at e w s at ≡ xs
  unfolding block_at part_at
  block-decoded =
      number-answers (λ n. part_at s (at + w) n) [] e w s at (length xs) few block_size
      ∙ rw (inside-there s (at + w) (length xs) block-body.fits) (part-is block-body)

-- ---- a text

module _ (s : List ℕ) (at : ℕ) (xs : List ℕ) (t : Text xs) (q : Stands s at (text xs)) where
  text-body : Stands s at xs
  unfolding text
  text-body = front-stands s at xs (0 ∷ []) q

  text-zero : get_or s (at + length xs) 0 ≡ 0
  unfolding text
  text-zero = stands-byte s (at + length xs) 0 [] (back-stands s at xs (0 ∷ []) q)

  text-end : suc (at + length xs) ≡ at + length (text xs)
  unfolding text
  text-end = let whole : length (xs ++ (0 ∷ [])) ≡ length xs + 1 = length-append xs (0 ∷ []) in omega arith

  -- no zero before
  text-before : (i : ℕ) → at ≤ i → i < at + length xs → get_or s i 0 ≡ 0 → ⊥
  text-before i from before p =
      let place : at + (i - at) ≡ i = omega arith in
      t.no_zero (i - at) (omega arith) (sym (text-body.same (i - at) (omega arith)) ∙ ap (λ (k : ℕ). get_or s k 0) place ∙ p)

  text-inside : at + length xs < length s
  text-inside = let inside : at + length (text xs) ≤ length s = q.fits in let end : suc (at + length xs) ≡ at + length (text xs) = text-end in omega arith

  text-decoded : text_at s at ≡ xs
  text-decoded =
      let found : zero_from s at ≡ at + length xs = zero-found s at (at + length xs) (omega arith) text-inside text-before text-zero in
      sym (text-there s at (sym found) text-inside) ∙ rw (add-sub_cancel_left at (length xs)) (part-is text-body)

-- ---- every form

module _ {e : Endian} (s : List ℕ) (at : ℕ) where
  -- the value ends after its bytes
  pub value-ends : {form : Form} {v : Value} {body : List ℕ} → Written e form v body → Stands s at body → ValueEnds e s form at (at + length body)
  value-ends (address n h) q = rw (bytes-length e 4 n) (exact.address at)
  value-ends (reference n h) q = rw (bytes-length e 4 n) (exact.reference at)
  value-ends (block2 xs h b) q = rw (← (block-end e 2 s at xs h q)) (exact.block2 at)
  value-ends (block4 xs h b) q = rw (← (block-end e 4 s at xs h q)) (exact.block4 at)
  value-ends (data2 n h) q = rw (bytes-length e 2 n) (exact.data2 at)
  value-ends (data4 n h) q = rw (bytes-length e 4 n) (exact.data4 at)
  value-ends (data8 n h) q = rw (bytes-length e 8 n) (exact.data8 at)
  value-ends (string xs t) q =
      rw (← (text-end s at xs t q)) (exact.string at (at + length xs) (omega arith) (text-before s at xs t q) (text-zero s at xs t q))

  -- the decoder of its form answers it
  pub value-decoded : {form : Form} {v : Value} {body : List ℕ} → Written e form v body → Stands s at body → Decoded e s at form v
  value-decoded (address n h) q = table.address n (number-answers Some None e 4 s at n h q)
  value-decoded (reference n h) q = table.reference n (number-answers Some None e 4 s at n h q)
  value-decoded (block2 xs h b) q = table.block2 xs (block-decoded e 2 s at xs h q)
  value-decoded (block4 xs h b) q = table.block4 xs (block-decoded e 4 s at xs h q)
  value-decoded (data2 n h) q = table.data2 n (number-answers Some None e 2 s at n h q)
  value-decoded (data4 n h) q = table.data4 n (number-answers Some None e 4 s at n h q)
  value-decoded (data8 n h) q = table.data8 n (number-answers Some None e 8 s at n h q)
  value-decoded (string xs t) q = table.string xs (text-decoded s at xs t q)

-- ---- an attribute: its number, and its value behind it

module _ {numbers : List ℕ} {e : Endian} (x : Attribute numbers e) where
  pub attribute-length : length (written_attribute numbers e x) ≡ 2 + length x.body
  unfolding written_attribute
  attribute-length =
      let count : length (bytes_of e 2 x.kind) ≡ 2 = bytes-length e 2 x.kind in
      length-append (bytes_of e 2 x.kind) x.body ∙ omega arith

  module _ {s : List ℕ} {at : ℕ} (q : Stands s at (written_attribute numbers e x)) where
    pub number-stands : Stands s at (bytes_of e 2 x.kind)
    unfolding written_attribute
    number-stands = front-stands s at (bytes_of e 2 x.kind) x.body q

    pub body_stands : Stands s (at + 2) x.body
    unfolding written_attribute
    body_stands = rw (bytes-length e 2 x.kind) at (back-stands s at (bytes_of e 2 x.kind) x.body q)

    pub attribute-ends : ValueEnds e s x.form (at + 2) (at + length (written_attribute numbers e x))
    attribute-ends =
        let place : at + 2 + length x.body ≡ at + length (written_attribute numbers e x) =
        let long : length (written_attribute numbers e x) ≡ 2 + length x.body = attribute-length in omega arith
        in
        subst (ValueEnds e s x.form (at + 2)) place (value-ends s (at + 2) x.written body_stands)

-- one with a number that is taken is read
pub attribute-read : (vendors : List ℕ) {e : Endian} (x : Attribute (taken vendors) e) {s : List ℕ} {at : ℕ}
    → Stands s at (written_attribute (taken vendors) e x)
    → read_attribute vendors e s at ≡ found x.kind (at + 2) (at + length (written_attribute (taken vendors) e x))
unfolding read_attribute numbered ending
attribute-read vendors {e} x {s} {at} q =
    number-answers (numbered vendors e s at) (Err (missing.Short at)) e 2 s at x.kind x.small (number-stands x q)
    ∙ rw (sym (taken-agrees vendors x.kind) ∙ listed-on x.in_use, form-agrees x.kind x.form x.has_form, ends-told (attribute-ends x q) q.fits)
