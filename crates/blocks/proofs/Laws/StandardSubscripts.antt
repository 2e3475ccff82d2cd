-- What the standard writes as subscripts is read back: the element type, and the dimensions in their order.
use Rattle.std.specs.Prelude.{Option, Some, None, Ok, Err}
use Rattle.std.proofs.Common.{◌≡◌, ℕ, suc, ◌+◌, ◌-◌, ◌/◌, ◌%◌, ◌^◌, ◌<◌, ◌≤◌, true, List, [], ◌∷◌, ◌++◌, length, drop, sym, refl, ap, ◌∙◌, subst, add-zero, zero-add, arith, length-append, length-drop, drop_at, eq-eqb, ne_eqb, le-leb}
use lib.Seq.{sets}
use Rattle.lent.specs.Outcome.{outcome}
use Rattle.numbers.specs.Written.{bytes_of}
use Rattle.numbers.proofs.Laws.Written.{bytes-length, number-answers, inside-there}
use Rattle.numbers.proofs.Laws.Stands.{Stands, all-stands, front-stands, back-stands}
use Rattle.numbers.specs.declared.Endian.{Endian}
use Rattle.standard.specs.Numbers.{Form, form_number}
use Rattle.standard.specs.Entries.{Value, number, bytes, block, Written, Attribute, written_attribute}
use Rattle.standard.specs.Types.{Typed, Says, fund, mod_fund, user, mod_user}
use Rattle.standard.specs.Subscripts.{Dimension, written_dimension, written_subscripts}
use Rattle.format.specs.Lookup.{is_on, lookup}
use Rattle.format.specs.AttributeKind.{used, also_known, attribute_kinds}
use Rattle.format.specs.Known.{known}
use Rattle.format.specs.FormKind.{forms, form_of}
use Rattle.format.specs.SubscriptFormat.{subscript_formats, subscript_format_of}
use Rattle.format.specs.Said.{gives, ◌>>=◌, must, ◌>>◌, in_room, fills_room}
use Rattle.attributes.specs.End.{fixed_end, block_end, value_end}
use Rattle.attributes.specs.Read.{ending, numbered, read_attribute}
use Rattle.attributes.specs.declared.value.Unread.TheVariants.{Short}
use Rattle.blocks.specs.Types.{known_number}
use Rattle.blocks.specs.Subscript.{dimension, element, index_at, one_more, const_bound, element_as, element_type_at, subscript_as, next_subscript}
use Rattle.blocks.specs.Subscripts.{array_of, dimension_words, Dimensions, element_or, at_end, before, raised, step, subscripts_from, whole_block, process_array_subscript_data}
use Rattle.blocks.specs.Standard.{type_at, said_from, FromZero, told_of, element_at}
use Rattle.blocks.specs.declared.types.Type.{«Type»}
use Rattle.blocks.proofs.Laws.Subscript.{begins-with}
use Rattle.blocks.proofs.Laws.Subscripts.{at-end, one-turn}
use Rattle.blocks.proofs.Laws.StandardTypes.{fundamental-known, fundamental-small, number_there, block-number, block-stands, as-data2, as-reference, as-block2, read_as}

-- ---- the element type's attribute

-- the four are known, with no vendor list
known-type : {e : Endian} {t : Typed} {kind : ℕ} {value : Value} → Says e t kind value → known [] kind ≡ true
unfolding known is_on attribute_kinds used also_known
known-type (fund type on) = refl
known-type (mod_fund ms type on) = refl
known-type (user key small) = refl
known-type (mod_user ms key small) = refl

fixed-ends : {s : List ℕ} {at : ℕ} {xs : List ℕ} (w : ℕ) → length xs ≡ w → Stands s at xs → fixed_end s at w ≡ Ok (at + length xs)
unfolding fixed_end
fixed-ends {s} {at} {xs} w p q =
    let inside : at + length xs ≤ length s = q.fits in
    rw (inside-there s at w (omega arith)) (ap (λ (k : ℕ). Ok (at + k)) (sym p))

pub block-length : (e : Endian) (w : ℕ) (xs : List ℕ) → length (block e w xs) ≡ w + length xs
unfolding block
block-length e w xs = length-append (bytes_of e w (length xs)) xs ∙ ap (λ (k : ℕ). k + length xs) (bytes-length e w (length xs))

block-ends : (e : Endian) {s : List ℕ} {at : ℕ} (xs : List ℕ) → length xs < 256 ^ 2 → Stands s at (block e 2 xs)
    → block_end e 2 s at ≡ Ok (at + length (block e 2 xs))
unfolding block_end
block-ends e {s} {at} xs h q =
    let long : length (block e 2 xs) ≡ 2 + length xs = block-length e 2 xs in
    let place : at + 2 + length xs ≡ at + length (block e 2 xs) = omega arith in
    number-answers (λ n. fixed_end s (at + 2) n) (Err (Short at)) e 2 s at (length xs) h (block-number e 2 xs q)
    ∙ fixed-ends (length xs) refl (block-stands e 2 xs q) ∙ ap Ok place

-- a value ends behind its bytes
pub value-ends : (e : Endian) {s : List ℕ} {at : ℕ} {t : Typed} {kind : ℕ} {value : Value} {form : Form} {body : List ℕ} → Says e t kind value
    → Written e form value body → kind % 16 ≡ form_number form → Stands s at body → value_end (form_of kind) e s at ≡ Ok (at + length body)
unfolding value_end form_of forms lookup
value-ends e (fund type on) w p q = let is = as-data2 w p in fixed-ends 2 (ap length is.3 ∙ bytes-length e 2 is.0) q
value-ends e (user key small) w p q = let is = as-reference w p in fixed-ends 4 (ap length is.3 ∙ bytes-length e 4 is.0) q
value-ends e {s} {at} (mod_fund ms type on) w p q =
    let is = as-block2 w p in
    subst (λ (u : List ℕ). block_end e 2 s at ≡ Ok (at + length u)) (sym is.3) (block-ends e is.0 is.1 (subst (Stands s at) is.3 q))
value-ends e {s} {at} (mod_user ms key small) w p q =
    let is = as-block2 w p in
    subst (λ (u : List ℕ). block_end e 2 s at ≡ Ok (at + length u)) (sym is.3) (block-ends e is.0 is.1 (subst (Stands s at) is.3 q))

module _ {numbers : List ℕ} (e : Endian) (a : Attribute numbers e) where
  pub attribute-number : {s : List ℕ} {at : ℕ} → Stands s at (written_attribute numbers e a) → Stands s at (bytes_of e 2 a.kind)
  unfolding written_attribute
  attribute-number {s} {at} q = front-stands s at (bytes_of e 2 a.kind) a.body q

  pub attribute-value : {s : List ℕ} {at : ℕ} → Stands s at (written_attribute numbers e a) → Stands s (at + 2) a.body
  unfolding written_attribute
  attribute-value {s} {at} q = rw (bytes-length e 2 a.kind) at (back-stands s at (bytes_of e 2 a.kind) a.body q)

  module _ {t : Typed} (says : Says e t a.kind a.value) where
    pub attribute-read : {s : List ℕ} {at : ℕ} → Stands s at (written_attribute numbers e a)
        → read_attribute [] e s at ≡ Ok (record { number = a.kind; value = at + 2; next = at + 2 + length a.body })
    unfolding read_attribute numbered ending
    attribute-read {s} {at} q =
        number-answers (numbered [] e s at) (Err (Short at)) e 2 s at a.kind a.small (attribute-number q)
        ∙ rw (known-type says, value-ends e says a.written a.has_form (attribute-value q))

    -- format 8
    pub element-read : next_subscript e (8 ∷ written_attribute numbers e a) ≡ gives (element (type_at (said_from 3 a.value) t) (3 + length a.body))
    unfolding subscript_format_of subscript_formats lookup subscript_as element_type_at element_as ◌>>=◌
    element-read =
        let s : List ℕ = 8 ∷ written_attribute numbers e a in
        let q : Stands s 1 (written_attribute numbers e a) = back-stands s 0 (8 ∷ []) (written_attribute numbers e a) (all-stands s) in
        sym
        (begins-with e s (λ z. omega arith) refl
        (sym (rw (attribute-read q) (rw (read_as e says a.written a.has_form (attribute-value q))))))

-- ---- a dimension

module _ (e : Endian) (d : Dimension) where
  pub dimension-length : length (written_dimension e d) ≡ 11
  unfolding written_dimension
  dimension-length =
      let index : length (bytes_of e 2 d.index) ≡ 2 = bytes-length e 2 d.index in
      let low : length (bytes_of e 4 d.low) ≡ 4 = bytes-length e 4 d.low in
      let high : length (bytes_of e 4 d.high) ≡ 4 = bytes-length e 4 d.high in
      let front : length ((0 ∷ bytes_of e 2 d.index) ++ bytes_of e 4 d.low) ≡ length (0 ∷ bytes_of e 2 d.index) + length (bytes_of e 4 d.low) =
      length-append (0 ∷ bytes_of e 2 d.index) (bytes_of e 4 d.low)
      in
      length-append ((0 ∷ bytes_of e 2 d.index) ++ bytes_of e 4 d.low) (bytes_of e 4 d.high) ∙ omega arith

  module _ {s : List ℕ} (q : Stands s 0 (written_dimension e d)) where
    bounds-stand : Stands s 0 ((0 ∷ bytes_of e 2 d.index) ++ bytes_of e 4 d.low)
    unfolding written_dimension
    bounds-stand = front-stands s 0 ((0 ∷ bytes_of e 2 d.index) ++ bytes_of e 4 d.low) (bytes_of e 4 d.high) q

    pub index-stands : Stands s 1 (bytes_of e 2 d.index)
    index-stands =
        back-stands s 0 (0 ∷ []) (bytes_of e 2 d.index) (front-stands s 0 (0 ∷ bytes_of e 2 d.index) (bytes_of e 4 d.low) bounds-stand)

    low_stands : Stands s 3 (bytes_of e 4 d.low)
    low_stands =
        rw (bytes-length e 2 d.index) at (back-stands s 0 (0 ∷ bytes_of e 2 d.index) (bytes_of e 4 d.low) bounds-stand)

    pub high-stands : Stands s 7 (bytes_of e 4 d.high)
    unfolding written_dimension
    high-stands =
        let front : List ℕ = (0 ∷ bytes_of e 2 d.index) ++ bytes_of e 4 d.low in
        let index : length (bytes_of e 2 d.index) ≡ 2 = bytes-length e 2 d.index in
        let low : length (bytes_of e 4 d.low) ≡ 4 = bytes-length e 4 d.low in
        let whole : length front ≡ length (0 ∷ bytes_of e 2 d.index) + length (bytes_of e 4 d.low) =
        length-append (0 ∷ bytes_of e 2 d.index) (bytes_of e 4 d.low)
        in
        let place : 0 + length front ≡ 7 = omega arith in
        rw place at (back-stands s 0 front (bytes_of e 4 d.high) q)

    const-read : d.low ≡ 0 → d.high < 0xFFFFFFFF → const_bound e s ≡ gives (dimension d.index (d.high + 1) 11)
    unfolding const_bound index_at known_number must one_more ◌>>=◌ ◌>>◌
    const-read zero bounded =
        rw (
          number_there e 2 (omega (arith, fundamental-small d.known)) index-stands,
          fundamental-known d.known,
          number_there e 4 d.low_small low_stands,
          eq-eqb d.low 0 zero,
          number_there e 4 d.high_small high-stands,
          ne_eqb d.high 0xFFFFFFFF (λ p. omega arith),
        )

  -- format 0
  dimension-read : (rest : List ℕ) → d.low ≡ 0 → d.high < 0xFFFFFFFF
      → next_subscript e (written_dimension e d ++ rest) ≡ gives (dimension d.index (d.high + 1) 11)
  unfolding subscript_format_of subscript_formats lookup subscript_as written_dimension
  dimension-read rest zero bounded =
      let s : List ℕ = written_dimension e d ++ rest in
      sym
      (begins-with e s (λ z. omega arith) refl (sym (const-read (front-stands s 0 (written_dimension e d) rest (all-stands s)) zero bounded)))

-- ---- all of them

-- a type behind other bytes
type-raised : (at place : ℕ) (t : Typed) → raised at (type_at place t) ≡ type_at (at + place) t
unfolding raised type_at
type-raised at place t = refl

value-raised : (at place : ℕ) (v : Value) → at + said_from place v ≡ said_from (at + place) v
unfolding said_from
value-raised at place (number n) = refl
value-raised at place (bytes xs) = omega arith

-- what a block comes to, with so many dimensions before it, at a place
abbrev pub Comes : Typed → Value → ℕ → ℕ → List Dimension → Dimensions
Comes t v n at dims = record { array = array_of (type_at (said_from (at + element_at dims) v) t) (n + length dims); words = told_of dims }

module _ {numbers : List ℕ} (e : Endian) (a : Attribute numbers e) {t : Typed} (says : Says e t a.kind a.value) where
  pub attribute-length : length (written_attribute numbers e a) ≡ 2 + length a.body
  unfolding written_attribute
  attribute-length = length-append (bytes_of e 2 a.kind) a.body ∙ ap (λ (k : ℕ). k + length a.body) (bytes-length e 2 a.kind)

  last-read : (turns : ℕ) (el : Option «Type») (n at : ℕ) → length (8 ∷ written_attribute numbers e a) ≤ turns
      → subscripts_from e turns el n at (8 ∷ written_attribute numbers e a) ≡ gives (Comes t a.value n at [])
  unfolding step at_end element_or told_of ◌>>=◌
  last-read turns el n at h =
      let s : List ℕ = 8 ∷ written_attribute numbers e a in
      let used : ℕ = 3 + length a.body in
      let long : length (written_attribute numbers e a) ≡ 2 + length a.body = attribute-length in
      let nothing : length (drop used s) ≡ 0 = length-drop used s ∙ omega arith in
      let place : raised at (type_at (said_from 3 a.value) t) ≡ type_at (said_from (at + 3) a.value) t =
      type-raised at (said_from 3 a.value) t ∙ ap (λ (k : ℕ). type_at k t) (value-raised at 3 a.value)
      in
      one-turn e el n at s turns (omega arith) h
      ∙ rw (
        element-read e a says,
        at-end e (Some (raised at (type_at (said_from 3 a.value) t))) n (at + used) (drop used s) (turns - 1) nothing,
        place,
        add-zero n,
      )

  from-read : (dims : List Dimension) → FromZero dims → (turns : ℕ) (el : Option «Type») (n at : ℕ) → length (written_subscripts e dims a) ≤ turns
      → subscripts_from e turns el n at (written_subscripts e dims a) ≡ gives (Comes t a.value n at dims)
  unfolding written_subscripts step before dimension_words told_of ◌>>=◌
  from-read [] f turns el n at h = last-read turns el n at h
  from-read (d ∷ dims) f turns el n at h =
      let rest : List ℕ = written_subscripts e dims a in
      let s : List ℕ = written_dimension e d ++ rest in
      let eleven : length (written_dimension e d) ≡ 11 = dimension-length e d in
      let whole : length s ≡ length (written_dimension e d) + length rest = length-append (written_dimension e d) rest in
      let behind : drop 11 s ≡ rest = drop_at (written_dimension e d) rest 11 eleven in
      let others : subscripts_from e (turns - 1) el (suc n) (at + 11) rest ≡ gives (Comes t a.value (suc n) (at + 11) dims) =
      from-read dims f.2 (turns - 1) el (suc n) (at + 11) (omega arith)
      in
      let place : at + 11 + element_at dims ≡ at + element_at (d ∷ dims) = omega arith in
      let many : suc n + length dims ≡ n + length (d ∷ dims) = omega arith in
      one-turn e el n at s turns (omega arith) h ∙ rw (dimension-read e d rest f.0 f.1, behind, others, place, many)

  module _ (dims : List Dimension) (f : FromZero dims) where
    pub whole-read : whole_block e (written_subscripts e dims a) ≡ gives (Comes t a.value 0 0 dims)
    unfolding whole_block
    whole-read = from-read dims f (length (written_subscripts e dims a)) None 0 0 (omega arith)

    -- the theorem: with room enough the element type and the number of dimensions are told, and each index type and size is in the room
    pub subscripts-read : (room : List ℕ) → length dims ≤ length room / 2 → process_array_subscript_data e (written_subscripts e dims a) room
        ≡ outcome (gives (array_of (type_at (said_from (element_at dims) a.value) t) (length dims))) (sets room 0 (told_of dims))
    unfolding process_array_subscript_data in_room fills_room
    subscripts-read room h =
        let place : 0 + element_at dims ≡ element_at dims = zero-add (element_at dims) in
        let many : 0 + length dims ≡ length dims = zero-add (length dims) in
        rw (whole-read, place, many, le-leb (length dims) (length room / 2) h)
