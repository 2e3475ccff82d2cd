-- A value that ends inside, in bytes, was written by the standard; and so was an attribute that is known.
use Prim.Native.Nat.{ℕ, suc, ◌+◌, ◌-◌, ◌%◌, ◌^◌, ◌≤◌, ◌<◌}
use native.Mathlib.Decide.{dec_le}
use native.Mathlib.Omega.{arith}
use mathlib.Core.Path.{◌≡◌, refl, sym, ◌∙◌}
use mathlib.Core.List.{List, [], ◌∷◌, ◌++◌}
use lib.ListN.{length, get_or, take, drop, length-append, get_or-eq_default}
use lib.Seq.{get_or-take, get_or-drop}
use Rattle.numbers.specs.Value.{value_of}
use Rattle.numbers.specs.Written.{bytes_of, Bytes}
use Rattle.numbers.specs.declared.Endian.{Endian}
use Rattle.numbers.proofs.Laws.Stands.{Stands, both-stand, byte-stands, part_length, part-stands}
use Rattle.numbers.proofs.Laws.Written.{bytes-length, number_small, number-written}
use Rattle.standard.specs.Numbers.{OnList, Form, STRING, form_number}
use Rattle.standard.specs.Entries.{Value, Text, text, block, Written, address, reference, block2, block4, data2, data4, data8, string, Attribute, written_attribute}
use Rattle.standard.specs.Exact.{ValueEnds}
use Rattle.standard.specs.Exact as exact

-- the bytes of a part are bytes
pub part_small : {s xs : List ℕ} {at : ℕ} → Bytes s → Stands s at xs → Bytes xs
part_small {s} {xs} {at} b q = record { small = byte }
  where
    byte : (i : ℕ) → get_or xs i 0 < 256
    byte i =
        elim (dec_le (suc i) (length xs)) [
          | yes h ↦ let in-s : get_or s (at + i) 0 < 256 = b.small (at + i) in let same : get_or s (at + i) 0 ≡ get_or xs i 0 = q.same i h in omega arith
          | no h ↦ let none : get_or xs i 0 ≡ 0 = get_or-eq_default xs 0 (omega arith) in omega arith
        ]

-- a value of this form stands at a place and ends at another
pub record ValueFound (e : Endian) (form : Form) (s : List ℕ) (at next : ℕ) : Type 0 where
  pub value : Value
  pub body : List ℕ
  pub written : Written e form value body
  pub stands : Stands s at body
  pub ends : at + length body ≡ next

module _ (e : Endian) (s : List ℕ) (small : Bytes s) (at : ℕ) where
  -- a number, whatever the value that its w bytes are written for
  fixed-found : (w : ℕ) {form : Form} {value : ℕ → Value} → ((n : ℕ) → n < 256 ^ w → Written e form (value n) (bytes_of e w n)) → at + w ≤ length s
      → ValueFound e form s at (at + w)
  fixed-found w {value = value} make inside =
      let n : ℕ = value_of e w s at in
      let count : length (bytes_of e w n) ≡ w = bytes-length e w n in
      record {
        value = value n;
        body = bytes_of e w n;
        written = make n (number_small e w s at small);
        stands = number-written e w s at small inside refl;
        ends = omega arith;
      }

  -- a length of w bytes, and as many bytes
  block-found : (w : ℕ) {form : Form} {value : List ℕ → Value}
      → ((xs : List ℕ) → length xs < 256 ^ w → Bytes xs → Written e form (value xs) (block e w xs)) → at + w + value_of e w s at ≤ length s
      → ValueFound e form s at (at + w + value_of e w s at)
  unfolding block
  block-found w {value = value} make inside =
      let n : ℕ = value_of e w s at in
      let xs : List ℕ = take n (drop (at + w) s) in
      let long : length xs ≡ n = part_length s (at + w) n inside in
      let fits : n < 256 ^ w = number_small e w s at small in
      let part : Stands s (at + w) xs = part-stands s (at + w) n inside in
      let size : List ℕ = bytes_of e w (length xs) in
      let count : length size ≡ w = bytes-length e w (length xs) in
      let whole : length (size ++ xs) ≡ length size + length xs = length-append size xs in
      record {
        value = value xs;
        body = block e w xs;
        written = make xs (omega arith) (part_small small part);
        stands = both-stand s at size xs (number-written e w s at small (omega arith) (sym long)) (rw count part);
        ends = omega arith;
      }

  -- bytes up to a zero
  text-found : {value : List ℕ → Value} → ((xs : List ℕ) → Text xs → Written e STRING (value xs) (text xs)) → (z : ℕ) → at ≤ z
      → ((i : ℕ) → at ≤ i → i < z → get_or s i 0 ≡ 0 → ⊥) → get_or s z 0 ≡ 0 → z < length s → ValueFound e STRING s at (suc z)
  unfolding text
  text-found {value} make z from before zero inside =
      let n : ℕ = z - at in
      let xs : List ℕ = take n (drop at s) in
      let long : length xs ≡ n = part_length s at n (omega arith) in
      let part : Stands s at xs = part-stands s at n (omega arith) in
      let place : at + length xs ≡ z = omega arith in
      let whole : length (xs ++ (0 ∷ [])) ≡ length xs + 1 = length-append xs (0 ∷ []) in
      record {
        value = value xs;
        body = text xs;
        written = make xs (record {
          small = part_small small part;
          no_zero = λ i b p. before (at + i) (omega arith) (omega arith) (sym (get_or-drop at s i 0) ∙ sym (get_or-take n (drop at s) i 0 (omega arith)) ∙ p);
        });
        stands = both-stand s at xs (0 ∷ []) part (rw place (byte-stands s z 0 inside zero));
        ends = omega arith;
      }

-- every form
pub value_found : {e : Endian} {s : List ℕ} → Bytes s → {form : Form} {at next : ℕ} → ValueEnds e s form at next → next ≤ length s → ValueFound e form s at next
value_found {e} {s} b (exact.address at) h = fixed-found e s b at 4 address h
value_found {e} {s} b (exact.reference at) h = fixed-found e s b at 4 reference h
value_found {e} {s} b (exact.block2 at) h = block-found e s b at 2 block2 h
value_found {e} {s} b (exact.block4 at) h = block-found e s b at 4 block4 h
value_found {e} {s} b (exact.data2 at) h = fixed-found e s b at 2 data2 h
value_found {e} {s} b (exact.data4 at) h = fixed-found e s b at 4 data4 h
value_found {e} {s} b (exact.data8 at) h = fixed-found e s b at 8 data8 h
value_found {e} {s} b (exact.string at z from before zero) h = text-found e s b at string z from before zero h

-- it ends behind where it begins
pub value-forward : {e : Endian} {s : List ℕ} {form : Form} {at next : ℕ} → ValueEnds e s form at next → at ≤ next
value-forward (exact.address at) = omega arith
value-forward (exact.reference at) = omega arith
value-forward (exact.block2 at) = omega arith
value-forward (exact.block4 at) = omega arith
value-forward (exact.data2 at) = omega arith
value-forward (exact.data4 at) = omega arith
value-forward (exact.data8 at) = omega arith
value-forward (exact.string at z from before zero) = omega arith

-- an attribute that stands at a place and ends at another
pub record AttributeFound (numbers : List ℕ) (e : Endian) (s : List ℕ) (at next : ℕ) : Type 0 where
  pub found : Attribute numbers e
  pub stands : Stands s at (written_attribute numbers e found)
  pub ends : at + length (written_attribute numbers e found) ≡ next

-- a number in use, and a value of its form behind it
pub attribute-found : {numbers : List ℕ} {e : Endian} {s : List ℕ} {at next : ℕ} {form : Form} → Bytes s → OnList (value_of e 2 s at) numbers
    → value_of e 2 s at % 16 ≡ form_number form → ValueEnds e s form (at + 2) next → next ≤ length s → AttributeFound numbers e s at next
unfolding written_attribute
attribute-found {e = e} {s} {at} {next} {form} small on has_form ends fits =
    let kind : ℕ = value_of e 2 s at in
    let v : ValueFound e form s (at + 2) next = value_found small ends fits in
    let two : List ℕ = bytes_of e 2 kind in
    let count : length two ≡ 2 = bytes-length e 2 kind in
    let whole : length (two ++ v.body) ≡ length two + length v.body = length-append two v.body in
    let end : at + 2 + length v.body ≡ next = v.ends in
    let forward : at + 2 ≤ next = value-forward ends in
    record {
      found = record {
        kind = kind;
        form = form;
        value = v.value;
        body = v.body;
        small = number_small e 2 s at small;
        in_use = on;
        has_form = has_form;
        written = v.written;
      };
      stands = both-stand s at two v.body (number-written e 2 s at small (omega arith) refl) (rw count v.stands);
      ends = omega arith;
    }
