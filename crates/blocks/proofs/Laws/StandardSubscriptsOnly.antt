-- A block of subscripts that is read, is `Plain` and has an element type with only the standard's numbers, is the written form of what was read.
use Rattle.std.specs.Prelude.{Option, Some, None, Result, Ok, Err}
use Rattle.std.proofs.Common.{◌≡◌, ℕ, zero, suc, ◌+◌, ◌-◌, ◌*◌, ◌^◌, ◌<◌, ◌≤◌, eqb, List, [], ◌∷◌, ◌++◌, length, get_or, drop, sym, refl, ap, ◌∙◌, subst, add-zero, add_assoc, zero-add, arith, length-append, length-drop, get_or-drop, drop-drop, eqb-true}
use Rattle.numbers.proofs.Laws.Tests.{cond-all}
use Rattle.numbers.specs.Value.{value_of, there}
use Rattle.numbers.proofs.Laws.Value.{read_all}
use Rattle.numbers.specs.Written.{bytes_of, Bytes}
use Rattle.numbers.proofs.Laws.Written.{bytes-length, number_read, number_small, number-written}
use Rattle.numbers.proofs.Laws.Stands.{Stands, all-stands, stands-all, front-stands, back-stands, both-stand, byte-stands, stands-byte}
use Rattle.numbers.specs.declared.Endian.{Endian}
use Rattle.numbers.specs.declared.Endian.TheVariants.{Big, Little}
use Rattle.standard.specs.Numbers.{OnList, fundamental_types}
use Rattle.standard.specs.Entries.{Value, Attribute, written_attribute}
use Rattle.standard.specs.Types.{Typed, Says, fund, mod_fund, user, mod_user}
use Rattle.standard.specs.Subscripts.{Dimension, written_dimension, written_subscripts}
use Rattle.format.specs.Lookup.{lookup}
use Rattle.format.specs.FundType.{fund_type_of}
use Rattle.format.specs.Known.{known}
use Rattle.format.specs.FormKind.{forms, form_of}
use Rattle.format.specs.SubscriptFormat.{subscript_formats, subscript_format_of}
use Rattle.format.specs.Said.{Said, gives, refuses, ◌>>=◌}
use Rattle.format.proofs.Laws.Said.{given_is, given-refused, step-gave, must-gave, past-gave}
use Rattle.attributes.specs.End.{fixed_end, block_end, value_end}
use Rattle.attributes.specs.Read.{ending, numbered, read_attribute}
use Rattle.attributes.specs.Ahead.{ReadInside}
use Rattle.attributes.proofs.Laws.Inside.{read-inside}
use Rattle.attributes.specs.declared.read.Attribute as reader
use Rattle.attributes.specs.declared.value.Unread.{Unread}
use Rattle.attributes.specs.declared.value.Unread.TheVariants.{Short}
use Rattle.blocks.specs.Types.{number_in, known_number, process_type}
use Rattle.blocks.specs.Subscript.{Part, dimension, element, index_at, one_more, const_bound, element_as, element_type_at, subscript_as, next_subscript}
use Rattle.blocks.specs.Subscripts.{array_of, dimension_words, Dimensions, element_or, at_end, before, raised, step, subscripts_from, whole_block}
use Rattle.blocks.specs.Standard.{type_at, said_from, type_numbers, SaysAt, StandardKind, OfStandard, alike, FromZero, told_of, element_at, type_bytes, Plain, ends, more}
use Rattle.blocks.specs.declared.types.TypeKind.{TypeKind}
use Rattle.blocks.specs.declared.types.TypeKind.TheVariants.{Fundamental, UserDefined}
use Rattle.blocks.specs.declared.types.Type.{«Type»}
use Rattle.blocks.specs.declared.subscripts.Array.{Array}
use Rattle.blocks.proofs.Laws.Placed.{stands-split, stands-within}
use Rattle.blocks.proofs.Laws.Subscripts.{at-end, one-turn}
use Rattle.blocks.proofs.Laws.StandardTypes.{fundamental-small, body_stands}
use Rattle.blocks.proofs.Laws.StandardTypesOnly.{number-gave, says_at, type-number-only, type-only}
use Rattle.blocks.proofs.Laws.StandardSubscripts.{Comes, value-ends, attribute-length, attribute-number, attribute-value, attribute-read, dimension-length, index-stands, high-stands, whole-read}

-- ---- what stands behind a place

value-drop : (e : Endian) (w : ℕ) (s : List ℕ) (at i : ℕ) → value_of e w (drop at s) i ≡ value_of e w s (at + i)
unfolding value_of
value-drop Big zero s at i = refl
value-drop Big (suc w) s at i = rw (value-drop Big w s at i, get_or-drop at s (i + w) 0, add_assoc)
value-drop Little zero s at i = refl
value-drop Little (suc w) s at i = rw (value-drop Little w s at i, get_or-drop at s (i + w) 0, add_assoc)

bytes_drop : (s : List ℕ) (at : ℕ) → Bytes s → Bytes (drop at s)
bytes_drop s at small = record { small = λ i. subst (λ (k : ℕ). k < 256) (sym (get_or-drop at s i 0)) (small.small (at + i)) }

module _ (e : Endian) (block : List ℕ) (at : ℕ) where
  kind-drop : (place : ℕ) (kind : TypeKind) → StandardKind e block (at + place) kind → StandardKind e (drop at block) place kind
  kind-drop place (Fundamental type) on = subst (λ (n : ℕ). OnList n fundamental_types) (sym (value-drop e 2 block at place)) on
  kind-drop place (UserDefined key) on = tt

  -- a type that was raised is one of the rest
  standard-drop : (of : «Type») → OfStandard e block (raised at of) → OfStandard e (drop at block) of
  unfolding raised
  standard-drop of h =
      record {
        modifiers =
            λ i b. subst (λ (x : ℕ). (1 ≤ x) × (x ≤ 4))
            (ap (λ (k : ℕ). get_or block k 0) (add_assoc at of.place i) ∙ sym (get_or-drop at block (of.place + i) 0)) (h.modifiers i b);
        type =
            kind-drop (of.place + of.count) of.kind
            (subst (λ (k : ℕ). StandardKind e block k of.kind) (add_assoc at of.place of.count) h.type);
      }

-- ---- the attribute of an element type

-- one that was read
abbrev read : ℕ → ℕ → ℕ → Result reader.Attribute Unread
read n value next = Ok (record { number = n; value = value; next = next })

-- its number is what its two bytes say
abbrev NumberIs : ℕ → Result reader.Attribute Unread → Type 0
NumberIs m (Ok a) = m ≡ a.number
NumberIs m (Err why) = Unit

ending-number : (n value : ℕ) (x : Result ℕ Unread) → NumberIs n (ending n value x)
unfolding ending
ending-number n value (Ok next) = refl
ending-number n value (Err why) = tt

module _ (e : Endian) (s : List ℕ) (at : ℕ) where
  number_is : NumberIs (value_of e 2 s at) (read_attribute [] e s at)
  unfolding read_attribute numbered
  number_is =
      let m : ℕ = value_of e 2 s at in
      read_all (numbered [] e s at) (Err (Short at)) e 2 s at (NumberIs m)
      (λ t. cond-all (NumberIs m) (known [] m) (λ k. ending-number m (at + 2) (value_end (form_of m) e s (at + 2))) (λ k. tt)) (λ t. tt)

  read_number : {n value next : ℕ} → read_attribute [] e s at ≡ read n value next → value_of e 2 s at ≡ n
  read_number p = subst (NumberIs (value_of e 2 s at)) p number_is

same_read : {a b : reader.Attribute} → ◌≡◌ {A = Result reader.Attribute Unread} (Ok a) (Ok b) → a ≡ b
same_read p = cc

same_end : {n value next next' : ℕ} → read n value next ≡ read n value next' → next ≡ next'
same_end p = ap (λ (a : reader.Attribute). a.next) (same_read p)

-- ---- where it ends

-- a value of so many bytes ends behind them
abbrev EndsAfter : ℕ → ℕ → Result ℕ Unread → Type 0
EndsAfter at n (Ok next) = next ≡ at + n
EndsAfter at n (Err why) = Unit

fixed-after : (s : List ℕ) (at w : ℕ) → EndsAfter at w (fixed_end s at w)
unfolding fixed_end
fixed-after s at w = cond-all (EndsAfter at w) (there s at w) (λ k. refl) (λ k. tt)

from-length : (at w n : ℕ) (x : Result ℕ Unread) → EndsAfter (at + w) n x → EndsAfter at (w + n) x
from-length at w n (Ok next) p = p ∙ add_assoc at w n
from-length at w n (Err why) p = tt

block-after : (e : Endian) (s : List ℕ) (at : ℕ) → EndsAfter at (2 + value_of e 2 s at) (block_end e 2 s at)
unfolding block_end
block-after e s at =
    let n : ℕ = value_of e 2 s at in
    read_all (λ n. fixed_end s (at + 2) n) (Err (Short at)) e 2 s at (EndsAfter at (2 + n))
    (λ t. from-length at 2 n (fixed_end s (at + 2) n) (fixed-after s (at + 2) n)) (λ t. tt)

-- by the number of a type's attribute
module _ (e : Endian) (s : List ℕ) (at : ℕ) where
  abbrev KindAfter : ℕ → Type 0
  KindAfter kind = EndsAfter at (type_bytes e s kind at) (value_end (form_of kind) e s at)

  each_after : {kind : ℕ} (i : ℕ) → i < length type_numbers → get_or type_numbers i 0 ≡ kind → KindAfter kind
  unfolding type_bytes type_numbers value_end form_of forms lookup
  each_after zero h p = subst KindAfter p (fixed-after s at 2)
  each_after (suc zero) h p = subst KindAfter p (block-after e s at)
  each_after (suc (suc zero)) h p = subst KindAfter p (fixed-after s at 4)
  each_after (suc (suc (suc zero))) h p = subst KindAfter p (block-after e s at)
  each_after (suc (suc (suc (suc i)))) h p = absurd (omega arith)

  kind-after : {kind : ℕ} → OnList kind type_numbers → KindAfter kind
  kind-after on = each_after on.index on.inside on.stands

-- the number of an attribute that says a type is one of the four
says-number : {e : Endian} {t : Typed} {kind : ℕ} {value : Value} → Says e t kind value → OnList kind type_numbers
unfolding type_numbers
says-number (fund type on) = record { index = 0; inside = omega arith; stands = refl }
says-number (mod_fund ms type on) = record { index = 1; inside = omega arith; stands = refl }
says-number (user key small) = record { index = 2; inside = omega arith; stands = refl }
says-number (mod_user ms key small) = record { index = 3; inside = omega arith; stands = refl }

-- an attribute that was read ends where its value does
abbrev ReadAfter : Endian → List ℕ → ℕ → Result reader.Attribute Unread → Type 0
ReadAfter e s at (Ok a) = OnList a.number type_numbers → a.next ≡ at + 2 + type_bytes e s a.number (at + 2)
ReadAfter e s at (Err why) = Unit

ending-after : (e : Endian) (s : List ℕ) (at n : ℕ) (x : Result ℕ Unread) → (OnList n type_numbers → EndsAfter (at + 2) (type_bytes e s n (at + 2)) x)
    → ReadAfter e s at (ending n (at + 2) x)
unfolding ending
ending-after e s at n (Ok next) f = f
ending-after e s at n (Err why) f = tt

read-after : (e : Endian) (s : List ℕ) (at : ℕ) {n value next : ℕ} → read_attribute [] e s at ≡ read n value next → OnList n type_numbers
    → next ≡ at + 2 + type_bytes e s n (at + 2)
unfolding read_attribute numbered
read-after e s at p =
    let m : ℕ = value_of e 2 s at in
    let after : ReadAfter e s at (read_attribute [] e s at) =
    read_all (numbered [] e s at) (Err (Short at)) e 2 s at (ReadAfter e s at)
    (λ t. cond-all (ReadAfter e s at) (known [] m) (λ k. ending-after e s at m (value_end (form_of m) e s (at + 2)) (kind-after e s (at + 2))) (λ k. tt))
    (λ t. tt)
    in
    subst (ReadAfter e s at) p after

-- of the rest of a block it is the same
bytes-behind : (e : Endian) (s : List ℕ) (at kind i : ℕ) → type_bytes e (drop at s) kind i ≡ type_bytes e s kind (at + i)
unfolding type_bytes
bytes-behind e s at kind i = rw (value-drop e 2 s at i)

-- what an element type was read from: the attribute behind its format
record ElementFrom (e : Endian) (s : List ℕ) (p : Part) : Type 0 where
  of : «Type»
  used : ℕ
  is : p ≡ element of used
  number : ℕ
  reads : read_attribute [] e s 1 ≡ read number 3 used
  gave : process_type (alike e) s number 3 ≡ gives of

element-steps : (e : Endian) (s : List ℕ) {p : Part} (a : Result reader.Attribute Unread) → read_attribute [] e s 1 ≡ a → element_as e s a ≡ gives p
    → ElementFrom e s p
unfolding element_as
element-steps e s {p} (Ok a) r gave =
    let inside : ReadInside [] s 1 a.number a.value a.next = read-inside [] e s 1 r in
    let step = step-gave (process_type (alike e) s a.number a.value) _ gave in
    record {
      of = step.0;
      used = a.next;
      is = given_is (sym step.2);
      number = a.number;
      reads = r ∙ ap (λ (v : ℕ). read a.number v a.next) inside.value_place;
      gave = ap (process_type (alike e) s a.number) (sym inside.value_place) ∙ step.1;
    }
element-steps e s (Err why) r gave = absurd (given-refused (sym gave))

-- ---- by format

module _ (e : Endian) (s : List ℕ) {p : Part} (gave : next_subscript e s ≡ gives p) where
  format-gave : subscript_as e s (subscript_format_of (get_or s 0 0)) ≡ gives p
  unfolding next_subscript
  format-gave = past-gave _ _ gave

  format-eight : get_or s 0 0 ≡ 8 → element_as e s (read_attribute [] e s 1) ≡ gives p
  unfolding subscript_format_of subscript_formats lookup subscript_as element_type_at
  format-eight h = ap (λ (b : ℕ). subscript_as e s (subscript_format_of b)) (sym h) ∙ format-gave

  format-zero : get_or s 0 0 ≡ 0 → const_bound e s ≡ gives p
  unfolding subscript_format_of subscript_formats lookup subscript_as
  format-zero h = ap (λ (b : ℕ). subscript_as e s (subscript_format_of b)) (sym h) ∙ format-gave

-- what a dimension of format 0 was read from
record DimensionFrom (e : Endian) (s : List ℕ) (p : Part) : Type 0 where
  index : ℕ
  is : p ≡ dimension index (one_more (value_of e 4 s 7)) 11
  low_zero : value_of e 4 s 3 ≡ 0
  inside : 7 + 4 ≤ length s

dimension-steps : (e : Endian) (s : List ℕ) {p : Part} → const_bound e s ≡ gives p → DimensionFrom e s p
unfolding const_bound index_at
dimension-steps e s gave =
    let typed = step-gave (index_at e s) _ gave in
    let high = step-gave (number_in e 4 s 7) _ typed.2 in
    let numbered = step-gave (number_in e 2 s 1) _ typed.1 in
    let index = step-gave (known_number (fund_type_of numbered.0)) _ numbered.2 in
    let low = step-gave (number_in e 4 s 3) _ index.2 in
    let zero = must-gave (eqb low.0 0) _ _ _ low.2 in
    let there = number-gave e 4 s 7 high.1 in
    record {
      index = typed.0;
      is = given_is (sym high.2) ∙ ap (λ (n : ℕ). dimension typed.0 (one_more n) 11) (sym there.1);
      low_zero = (number-gave e 4 s 3 low.1).1 ∙ eqb-true low.0 0 zero.0;
      inside = there.0;
    }

-- ---- the written forms

module _ (e : Endian) (s : List ℕ) (small : Bytes s) where
  -- the dimension that a block begins with
  abbrev dimension_at : OnList (value_of e 2 s 1) fundamental_types → Dimension
  dimension_at on =
      record {
        index = value_of e 2 s 1;
        low = 0;
        high = value_of e 4 s 7;
        known = on;
        low_small = omega arith;
        high_small = number_small e 4 s 7 small;
      }

  dimension-stands : (on : OnList (value_of e 2 s 1) fundamental_types) → get_or s 0 0 ≡ 0 → value_of e 4 s 3 ≡ 0 → 7 + 4 ≤ length s
      → Stands s 0 (written_dimension e (dimension_at on))
  unfolding written_dimension
  dimension-stands on byte low-is inside =
      let index : List ℕ = bytes_of e 2 (value_of e 2 s 1) in
      let low : List ℕ = bytes_of e 4 0 in
      let high : List ℕ = bytes_of e 4 (value_of e 4 s 7) in
      let two : length index ≡ 2 = bytes-length e 2 (value_of e 2 s 1) in
      let four : length low ≡ 4 = bytes-length e 4 0 in
      let seven : length ((0 ∷ index) ++ low) ≡ length (0 ∷ index) + length low = length-append (0 ∷ index) low in
      let at-three : 3 ≡ 0 + length (0 ∷ index) = omega arith in
      let at-seven : 7 ≡ 0 + length ((0 ∷ index) ++ low) = omega arith in
      both-stand s 0 ((0 ∷ index) ++ low) high
      (both-stand s 0 (0 ∷ index) low
      (both-stand s 0 (0 ∷ []) index (byte-stands s 0 0 (omega arith) byte) (number-written e 2 s 1 small (omega arith) refl))
      (subst (λ (k : ℕ). Stands s k low) at-three (number-written e 4 s 3 small (omega arith) low-is)))
      (subst (λ (k : ℕ). Stands s k high) at-seven (number-written e 4 s 7 small inside refl))

  -- before what follows it
  dimension-split : (on : OnList (value_of e 2 s 1) fundamental_types) → Stands s 0 (written_dimension e (dimension_at on))
      → s ≡ written_dimension e (dimension_at on) ++ drop 11 s
  dimension-split on q =
      let place : 0 + length (written_dimension e (dimension_at on)) ≡ 11 =
      zero-add (length (written_dimension e (dimension_at on))) ∙ dimension-length e (dimension_at on)
      in
      stands-split q ∙ ap (λ (k : ℕ). written_dimension e (dimension_at on) ++ drop k s) place

  -- the element type that a block is
  module _ {p : Part} (f : ElementFrom e s p) {t : Typed} {value : Value} (w : SaysAt e s f.number 3 t value) where
    abbrev attribute_of : Attribute type_numbers e
    attribute_of =
        record {
          kind = f.number;
          form = w.form;
          value = value;
          body = w.body;
          small = subst (λ (n : ℕ). n < 256 ^ 2) (read_number e s 1 f.reads) (number_small e 2 s 1 small);
          in_use = type-number-only (alike e) s f.number 3 f.gave;
          has_form = w.has_form;
          written = w.written;
        }

    attribute-stands : Stands s 1 (written_attribute type_numbers e attribute_of)
    unfolding written_attribute
    attribute-stands =
        let two : length (bytes_of e 2 f.number) ≡ 2 = bytes-length e 2 f.number in
        let body : 3 + length w.body ≤ length s = (body_stands w).fits in
        let place : 3 ≡ 1 + length (bytes_of e 2 f.number) = omega arith in
        both-stand s 1 (bytes_of e 2 f.number) w.body (number-written e 2 s 1 small (omega arith) (read_number e s 1 f.reads))
        (subst (λ (k : ℕ). Stands s k w.body) place (body_stands w))

    element-written : get_or s 0 0 ≡ 8 → f.used ≡ length s → s ≡ 8 ∷ written_attribute type_numbers e attribute_of
    element-written byte all =
        let bytes : List ℕ = written_attribute type_numbers e attribute_of in
        let long : length bytes ≡ 2 + length w.body = attribute-length e attribute_of w.says in
        let end : f.used ≡ 1 + 2 + length w.body = same_end (sym f.reads ∙ attribute-read e attribute_of w.says attribute-stands) in
        let inside : 3 + length w.body ≤ length s = (body_stands w).fits in
        let whole : Stands s 0 (8 ∷ bytes) = both-stand s 0 (8 ∷ []) bytes (byte-stands s 0 8 (omega arith) byte) attribute-stands in
        sym (stands-all whole (omega arith))

-- ---- all of them

before-gave : (words : List ℕ) (d : Said Dimensions) {x : Dimensions} → before words d ≡ gives x
    → (y : Dimensions) × (d ≡ gives y) × (y.array ≡ x.array)
unfolding before ◌>>=◌
before-gave words (gives y) p = (y, refl, ap (λ (z : Dimensions). z.array) (given_is p))
before-gave words (refuses number place counts) p = absurd (given-refused (sym p))

-- there is something behind a place
plain-inside : {e : Endian} {block : List ℕ} {at : ℕ} → Plain e block at → at < length block
plain-inside (ends at byte all) = omega arith
plain-inside (more at byte on bounded rest) = omega (arith, plain-inside rest)

-- written subscripts
abbrev WrittenAs : Endian → List ℕ → Type 0
WrittenAs e s =
    (dims : List Dimension) × (a : Attribute type_numbers e) × (t : Typed) × Says e t a.kind a.value × FromZero dims
    × (s ≡ written_subscripts e dims a)

-- what is told of the whole block
from_first : (t : Typed) (v : Value) (dims : List Dimension) → Comes t v 0 0 dims
    ≡ record { array = array_of (type_at (said_from (element_at dims) v) t) (length dims); words = told_of dims }
from_first t v dims = rw (zero-add (element_at dims), zero-add (length dims))

module _ (e : Endian) {block : List ℕ} (small : Bytes block) where
  first_byte : (at : ℕ) {b : ℕ} → get_or block at 0 ≡ b → get_or (drop at block) 0 0 ≡ b
  first_byte at p = get_or-drop at block 0 0 ∙ ap (λ (k : ℕ). get_or block k 0) (add-zero at) ∙ p

  -- one dimension more
  more-written : (at : ℕ) → get_or block at 0 ≡ 0 → OnList (value_of e 2 block (at + 1)) fundamental_types → value_of e 4 block (at + 7) < 0xFFFFFFFF
      → {p : Part} → DimensionFrom e (drop at block) p → WrittenAs e (drop (at + 11) block) → WrittenAs e (drop at block)
  unfolding written_subscripts
  more-written at byte on bounded f w =
      let s : List ℕ = drop at block in
      let rest : Bytes s = bytes_drop block at small in
      let here : OnList (value_of e 2 s 1) fundamental_types = subst (λ (n : ℕ). OnList n fundamental_types) (sym (value-drop e 2 block at 1)) on in
      let stands = dimension-stands e s rest here (first_byte at byte) f.low_zero f.inside in (
        dimension_at e s rest here ∷ w.0,
        w.1,
        w.2,
        w.3,
        (refl, subst (λ (n : ℕ). n < 0xFFFFFFFF) (sym (value-drop e 4 block at 7)) bounded, w.4),
        dimension-split e s rest here stands ∙ ap (λ (u : List ℕ). written_dimension e (dimension_at e s rest here) ++ u) (drop-drop 11 at block ∙ w.5),
      )

  -- the last one, which ends the block
  module _ (at : ℕ) (byte : get_or block at 0 ≡ 8) (all : at + 3 + type_bytes e block (value_of e 2 block (at + 1)) (at + 3) ≡ length block) {p : Part}
      (f : ElementFrom e (drop at block) p) where
    last-used : f.used ≡ length (drop at block)
    last-used =
        let s : List ℕ = drop at block in
        let number : f.number ≡ value_of e 2 block (at + 1) = sym (read_number e s 1 f.reads) ∙ value-drop e 2 block at 1 in
        let behind : type_bytes e s f.number 3 ≡ type_bytes e block (value_of e 2 block (at + 1)) (at + 3) =
        bytes-behind e block at f.number 3 ∙ ap (λ (n : ℕ). type_bytes e block n (at + 3)) number
        in
        let end : f.used ≡ 3 + type_bytes e s f.number 3 = read-after e s 1 f.reads (type-number-only (alike e) s f.number 3 f.gave) in
        let long : length s ≡ length block - at = length-drop at block in
        omega arith

    last_written : OfStandard e block (raised at f.of) → WrittenAs e (drop at block)
    unfolding written_subscripts
    last_written standard =
        let s : List ℕ = drop at block in
        let rest : Bytes s = bytes_drop block at small in
        let is = type-only e rest f.number 3 f.gave (standard-drop e block at f.of standard) in
        ([], attribute_of e s rest f is.2, is.0, is.2.says, tt, element-written e s rest f is.2 (first_byte at byte) last-used)

  -- a turn at a dimension, and what it left to read
  dimension-turn : (at : ℕ) → get_or block at 0 ≡ 0 → (turns : ℕ) (el : Option «Type») (n : ℕ) {d : Dimensions}
      → subscripts_from e turns el n at (drop at block) ≡ gives d → 0 < length (drop at block) → length (drop at block) ≤ turns
      → (p : Part) × DimensionFrom e (drop at block) p
      × (y : Dimensions) × (subscripts_from e (turns - 1) el (suc n) (at + 11) (drop (at + 11) block) ≡ gives y) × (y.array ≡ d.array)
  unfolding step
  dimension-turn at byte turns el n p some h =
      let s : List ℕ = drop at block in
      let next : Option «Type» → ℕ → ℕ → Said Dimensions = λ el' n' used. subscripts_from e (turns - 1) el' n' (at + used) (drop used s) in
      let turn = step-gave (next_subscript e s) (step next el n at) (sym (one-turn e el n at s turns some h) ∙ p) in
      let f = dimension-steps e s (format-zero e s turn.1 (first_byte at byte)) in
      let words : List ℕ = dimension_words f.index (one_more (value_of e 4 s 7)) in
      let others = before-gave words (next el (suc n) 11) (ap (step next el n at) (sym f.is) ∙ turn.2) in
      (turn.0, f, others.0, ap (subscripts_from e (turns - 1) el (suc n) (at + 11)) (sym (drop-drop 11 at block)) ∙ others.1, others.2)

  from-written : {at : ℕ} → Plain e block at → (turns : ℕ) (el : Option «Type») (n : ℕ) {d : Dimensions}
      → subscripts_from e turns el n at (drop at block) ≡ gives d → length (drop at block) ≤ turns → OfStandard e block d.array.element
      → WrittenAs e (drop at block)
  unfolding step at_end element_or ◌>>=◌
  from-written (ends at byte all) turns el n {d} p h standard =
      let s : List ℕ = drop at block in
      let next : Option «Type» → ℕ → ℕ → Said Dimensions = λ el' n' used. subscripts_from e (turns - 1) el' n' (at + used) (drop used s) in
      let some : 0 < length s = omega (arith, length-drop at block) in
      let turn = step-gave (next_subscript e s) (step next el n at) (sym (one-turn e el n at s turns some h) ∙ p) in
      let f = element-steps e s (read_attribute [] e s 1) refl (format-eight e s turn.1 (first_byte at byte)) in
      let of : «Type» = raised at f.of in
      let used : ℕ = f.used in
      let nothing : length (drop used s) ≡ 0 = length-drop used s ∙ omega (arith, last-used at byte all f) in
      let rest : next (Some of) n used ≡ gives d = ap (step next el n at) (sym f.is) ∙ turn.2 in
      let end : record { array = array_of of n; words = [] } ≡ d =
      given_is (sym (at-end e (Some of) n (at + used) (drop used s) (turns - 1) nothing) ∙ rest)
      in
      last_written at byte all f (subst (λ (x : Dimensions). OfStandard e block x.array.element) (sym end) standard)
  from-written (more at byte on bounded rest) turns el n {d} p h standard =
      let far : at + 11 < length block = plain-inside rest in
      let long : length (drop at block) ≡ length block - at = length-drop at block in
      let fewer : length (drop (at + 11) block) ≤ turns - 1 = omega (arith, length-drop (at + 11) block) in
      let turn = dimension-turn at byte turns el n p (omega arith) h in
      more-written at byte on bounded turn.1
      (from-written rest (turns - 1) el (suc n) turn.3 fewer (subst (λ (x : Array). OfStandard e block x.element) (sym turn.4) standard))

-- the theorem: and what was read is what that says
pub subscripts-only : (e : Endian) {block : List ℕ} → Bytes block → Plain e block 0 → {d : Dimensions} → whole_block e block ≡ gives d
    → OfStandard e block d.array.element
    → (dims : List Dimension) × (a : Attribute type_numbers e) × (t : Typed) × Says e t a.kind a.value × FromZero dims
    × (block ≡ written_subscripts e dims a)
    × (d ≡ record { array = array_of (type_at (said_from (element_at dims) a.value) t) (length dims); words = told_of dims })
unfolding whole_block
subscripts-only e {block} small plain {d} p standard =
    let w = from-written e small plain (length block) None 0 p (omega arith) standard in (
      w.0,
      w.1,
      w.2,
      w.3,
      w.4,
      w.5,
      given_is (sym p ∙ ap (whole_block e) w.5 ∙ whole-read e w.1 w.3 w.0 w.4 ∙ ap gives (from_first w.2 w.1.value w.0)),
    )

-- ---- what is written is such

module _ {numbers : List ℕ} (e : Endian) (a : Attribute numbers e) {t : Typed} (says : Says e t a.kind a.value) where
  -- the element type stands behind the dimensions
  element-stands : (dims : List Dimension) → Stands (written_subscripts e dims a) (length dims * 11) (8 ∷ written_attribute numbers e a)
  unfolding written_subscripts
  element-stands [] = all-stands (8 ∷ written_attribute numbers e a)
  element-stands (d ∷ dims) =
      let s : List ℕ = written_dimension e d ++ written_subscripts e dims a in
      let place : 0 + length (written_dimension e d) ≡ 11 = zero-add (length (written_dimension e d)) ∙ dimension-length e d in
      let rest : Stands s 11 (written_subscripts e dims a) =
      subst (λ (k : ℕ). Stands s k (written_subscripts e dims a)) place (back-stands s 0 (written_dimension e d) (written_subscripts e dims a) (all-stands s))
      in
      let far : 11 + length dims * 11 ≡ length (d ∷ dims) * 11 = omega arith in
      subst (λ (k : ℕ). Stands s k (8 ∷ written_attribute numbers e a)) far (stands-within rest (element-stands dims))

  -- so in the whole block its value says the type
  pub element-says : (dims : List Dimension) → SaysAt e (written_subscripts e dims a) a.kind (element_at dims) t a.value
  element-says dims =
      let s : List ℕ = written_subscripts e dims a in
      let place : length dims * 11 + 1 + 2 ≡ element_at dims = omega arith in
      says_at says a.written a.has_form
      (subst (λ (k : ℕ). Stands s k a.body) place
      (attribute-value e a (back-stands s (length dims * 11) (8 ∷ []) (written_attribute numbers e a) (element-stands dims))))

  plain-from : (block : List ℕ) (dims : List Dimension) (at : ℕ) → Stands block at (written_subscripts e dims a)
      → at + length (written_subscripts e dims a) ≡ length block → FromZero dims → Plain e block at
  unfolding written_subscripts written_dimension
  plain-from block [] at q far f =
      let long : length (written_attribute numbers e a) ≡ 2 + length a.body = attribute-length e a says in
      let attribute : Stands block (at + 1) (written_attribute numbers e a) = back-stands block at (8 ∷ []) (written_attribute numbers e a) q in
      let number : value_of e 2 block (at + 1) ≡ a.kind = number_read e 2 block (at + 1) a.kind a.small (attribute-number e a attribute) in
      let three : at + 1 + 2 ≡ at + 3 = omega arith in
      let value : value_end (form_of a.kind) e block (at + 3) ≡ Ok (at + 3 + length a.body) =
      value-ends e says a.written a.has_form (subst (λ (k : ℕ). Stands block k a.body) three (attribute-value e a attribute))
      in
      let same : at + 3 + length a.body ≡ at + 3 + type_bytes e block a.kind (at + 3) =
      subst (EndsAfter (at + 3) (type_bytes e block a.kind (at + 3))) value (kind-after e block (at + 3) (says-number says))
      in
      let bytes : type_bytes e block (value_of e 2 block (at + 1)) (at + 3) ≡ type_bytes e block a.kind (at + 3) =
      ap (λ (n : ℕ). type_bytes e block n (at + 3)) number
      in
      ends at (stands-byte block at 8 (written_attribute numbers e a) q) (omega arith)
  plain-from block (d ∷ dims) at q end f =
      let front : List ℕ = written_dimension e d in
      let rest : List ℕ = written_subscripts e dims a in
      let eleven : length front ≡ 11 = dimension-length e d in
      let whole : length (front ++ rest) ≡ length front + length rest = length-append front rest in
      let here : Stands block at front = front-stands block at front rest q in
      let index : value_of e 2 block (at + 1) ≡ d.index =
      number_read e 2 block (at + 1) d.index (omega (arith, fundamental-small d.known)) (stands-within here (index-stands e d (all-stands front)))
      in
      let high : value_of e 4 block (at + 7) ≡ d.high =
      number_read e 4 block (at + 7) d.high d.high_small (stands-within here (high-stands e d (all-stands front)))
      in
      more at (ap (λ (k : ℕ). get_or block k 0) (sym (add-zero at)) ∙ here.same 0 (omega arith))
      (subst (λ (n : ℕ). OnList n fundamental_types) (sym index) d.known) (subst (λ (n : ℕ). n < 0xFFFFFFFF) (sym high) f.1)
      (plain-from block dims (at + 11) (subst (λ (k : ℕ). Stands block (at + k) rest) eleven (back-stands block at front rest q)) (omega arith) f.2)

  pub subscripts-plain : (dims : List Dimension) → FromZero dims → Plain e (written_subscripts e dims a) 0
  subscripts-plain dims f =
      plain-from (written_subscripts e dims a) dims 0 (all-stands (written_subscripts e dims a)) (zero-add (length (written_subscripts e dims a))) f
