-- A type that is read and has only the standard's numbers is the written form of a type of the standard, with just that answer.
use Rattle.std.proofs.Common.{◌≡◌, ℕ, suc, ◌+◌, ◌-◌, ◌%◌, ◌^◌, ◌<◌, ◌≤◌, Bool, true, false, cond, eqb, ◌⊎◌, List, [], ◌∷◌, ◌++◌, length, get_or, take, drop, sym, refl, ap, ◌∙◌, subst, inl, inr, append-nil, add-zero, arith, drop_of_length-le, eqb-true, leb-true}
use native.Mathlib.Decide.{dec_le}
use Rattle.numbers.proofs.Laws.Tests.{cond-all}
use Rattle.numbers.specs.Value.{value_of, there, read_at}
use Rattle.numbers.proofs.Laws.Value.{there-inside, read_all}
use Rattle.numbers.specs.Written.{bytes_of, Bytes}
use Rattle.numbers.proofs.Laws.Written.{bytes-length, number_read, number_small, number-written}
use Rattle.numbers.proofs.Laws.Stands.{Stands, none-stands, front-stands, back-stands, both-stand, part_length, part-stands}
use Rattle.numbers.specs.declared.Endian.{Endian}
use Rattle.standard.specs.Numbers.{OnList, fundamental_types, Form, BLOCK2, form_number}
use Rattle.standard.specs.Entries.{Value, number, bytes, block, Written, reference, block2, data2}
use Rattle.standard.specs.Types.{Modifier, pointer-to, reference-to, const, volatile, modifier_byte, modifier_bytes, Base, Typed, Says, fund, mod_fund, user, mod_user}
use Rattle.format.specs.FundType.{parse_int}
use Rattle.format.specs.Said.{Said, gives, refuse}
use Rattle.format.proofs.Laws.Said.{given_is, given-refused, must-gave, step-gave}
use Rattle.format.specs.declared.refusal.Reason.TheVariants as reason
use Rattle.attributes.specs.Parts.{part_at, block_at}
use Rattle.attributes.specs.declared.decode.Endians.{Endians}
use Rattle.blocks.specs.Modifiers.{process_modifiers}
use Rattle.blocks.specs.Types.{number_in, known_number, modified, fundamental, fund_type, user_def_type, last_bytes, mod_fund_type, mod_ud_type, process_type}
use Rattle.blocks.specs.Standard.{type_at, said_from, type_numbers, SaysAt, OfStandard, alike}
use Rattle.blocks.specs.declared.types.TypeKind.{TypeKind}
use Rattle.blocks.specs.declared.types.TypeKind.TheVariants.{Fundamental, UserDefined}
use Rattle.blocks.specs.declared.types.Type.{«Type»}
use Rattle.blocks.proofs.Laws.Placed.{stands-split, front_length, bytes-within}
use Rattle.blocks.proofs.Laws.StandardTypes.{fundamental-small, fundamental-given, defined-given, block-stands}

-- ---- the steps of what gave an answer

read-gave : (b : Bool) {n m : ℕ} → cond b (gives n) (refuse reason.Block 0) ≡ gives m → (b ≡ true) × (n ≡ m)
read-gave true p = (refl, given_is p)
read-gave false p = absurd (given-refused (sym p))

-- a number that was read is there
pub number-gave : (e : Endian) (w : ℕ) (s : List ℕ) (at : ℕ) {n : ℕ} → number_in e w s at ≡ gives n → (at + w ≤ length s) × (value_of e w s at ≡ n)
unfolding number_in read_at
number-gave e w s at p = let both = read-gave (there s at w) p in (there-inside s at w both.0, both.1)

-- a length and as many bytes
wholly : (e : Endian) (w : ℕ) (s : List ℕ) (at : ℕ) → Bytes s → at + w ≤ length s → at + w + value_of e w s at ≤ length s
    → Stands s at (block e w (take (value_of e w s at) (drop (at + w) s))) × (length (take (value_of e w s at) (drop (at + w) s)) < 256 ^ w)
unfolding block
wholly e w s at small h k =
    let n : ℕ = value_of e w s at in
    let xs : List ℕ = take n (drop (at + w) s) in
    let count : length xs ≡ n = part_length s (at + w) n k in
    let head : Stands s at (bytes_of e w (length xs)) = number-written e w s at small h (sym count) in
    let rest : Stands s (at + length (bytes_of e w (length xs))) xs = rw (bytes-length e w (length xs)) (part-stands s (at + w) n k) in
    (both-stand s at (bytes_of e w (length xs)) xs head rest, rw count (number_small e w s at small))

module _ (e : Endian) (w : ℕ) (s : List ℕ) (at : ℕ) (small : Bytes s) where
  abbrev Whole : List ℕ → Type 0
  Whole xs = 0 < length xs → Stands s at (block e w xs) × (length xs < 256 ^ w)

  none : Whole []
  none h = absurd (omega arith)

  -- a block that is not empty is there
  block-gave : Whole (block_at e w s at)
  unfolding block_at part_at
  block-gave =
      let n : ℕ = value_of e w s at in
      read_all (λ n. part_at s (at + w) n) [] e w s at Whole
      (λ t. cond-all Whole (there s (at + w) n) (λ k more. wholly e w s at small (there-inside s at w t) (there-inside s (at + w) n k)) (λ k. none))
      (λ t. none)

-- a block whose last w bytes said a number
module _ (w : ℕ) (e : Endian) (xs : List ℕ) (type : List ℕ → ℕ → Said «Type») {r : «Type»} (p : last_bytes w e xs type ≡ gives r) where
  last-steps : (w ≤ length xs) × (type (take (length xs - w) xs) (value_of e w xs (length xs - w)) ≡ gives r)
  unfolding last_bytes
  last-steps = let both = must-gave _ _ _ _ p in (leb-true w (length xs) both.0, both.1)

  last-gave : Bytes xs → (front : List ℕ) × (n : ℕ) × (n < 256 ^ w) × (xs ≡ front ++ bytes_of e w n) × (type front n ≡ gives r)
  last-gave small =
      let long : w ≤ length xs = last-steps.0 in
      let at : ℕ = length xs - w in
      let n : ℕ = value_of e w xs at in
      let stands : Stands xs at (bytes_of e w n) = number-written e w xs at small (omega arith) refl in
      let count : length (bytes_of e w n) ≡ w = bytes-length e w n in
      let end : drop (at + length (bytes_of e w n)) xs ≡ [] = drop_of_length-le xs {i = at + length (bytes_of e w n)} (omega arith) in (
        take at xs,
        n,
        number_small e w xs at small,
        stands-split stands ∙ ap (λ (u : List ℕ). take at xs ++ (bytes_of e w n ++ u)) end ∙ ap (λ (u : List ℕ). take at xs ++ u) (append-nil (bytes_of e w n)),
        last-steps.1,
      )

-- such a block in a section: bytes and a number of w bytes behind them, all of it there
record LastIn (e : Endian) (w : ℕ) (s : List ℕ) (at : ℕ) (type : List ℕ → ℕ → Said «Type») (r : «Type») : Type 0 where
  front : List ℕ
  n : ℕ
  gave : type front n ≡ gives r
  few : n < 256 ^ w
  short : length (front ++ bytes_of e w n) < 256 ^ 2
  small : Bytes (front ++ bytes_of e w n)
  stands : Stands s at (block e 2 (front ++ bytes_of e w n))

module _ (e : Endian) (w : ℕ) (some : 1 ≤ w) {s : List ℕ} (small : Bytes s) (at : ℕ) (type : List ℕ → ℕ → Said «Type») {r : «Type»} where
  last-in : last_bytes w e (block_at e 2 s at) type ≡ gives r → LastIn e w s at type r
  last-in p =
      let xs : List ℕ = block_at e 2 s at in
      let long : w ≤ length xs = (last-steps w e xs type p).0 in
      let whole = block-gave e 2 s at small (omega arith) in
      let bytes : Bytes xs = bytes-within (block-stands e 2 xs whole.0) small in
      let last = last-gave w e xs type p bytes in
      record {
        front = last.0;
        n = last.1;
        gave = last.4;
        few = last.2;
        short = subst (λ (u : List ℕ). length u < 256 ^ 2) last.3 whole.1;
        small = subst Bytes last.3 bytes;
        stands = subst (λ (u : List ℕ). Stands s at (block e 2 u)) last.3 whole.0;
      }

module _ {e : Endian} {w : ℕ} {s : List ℕ} {at : ℕ} {type : List ℕ → ℕ → Said «Type»} {r : «Type»} (l : LastIn e w s at type r) where
  all-stands : Stands s (at + 2) (l.front ++ bytes_of e w l.n)
  all-stands = block-stands e 2 (l.front ++ bytes_of e w l.n) l.stands

  modifiers-stand : Stands s (at + 2) l.front
  modifiers-stand = front-stands s (at + 2) l.front (bytes_of e w l.n) all-stands

  number_behind : value_of e w s (at + 2 + length l.front) ≡ l.n
  number_behind =
      number_read e w s (at + 2 + length l.front) l.n l.few (back-stands s (at + 2) l.front (bytes_of e w l.n) all-stands)

  -- as a value of the standard's
  block_written : {xs : List ℕ} → xs ≡ l.front → Written e BLOCK2 (bytes (xs ++ bytes_of e w l.n)) (block e 2 (l.front ++ bytes_of e w l.n))
  block_written p =
      subst (λ (u : List ℕ). Written e BLOCK2 (bytes (u ++ bytes_of e w l.n)) (block e 2 (l.front ++ bytes_of e w l.n))) (sym p)
      (block2 (l.front ++ bytes_of e w l.n) l.short l.small)

-- ---- the attribute's number

choose : {A : Type 0} {x y : Said A} {r : A} (m n : ℕ) → cond (eqb m n) x y ≡ gives r → ((m ≡ n) × (x ≡ gives r)) ⊎ (y ≡ gives r)
choose {x = x} {y = y} {r = r} m n p = by (eqb m n) refl p
  where
    by : (b : Bool) → eqb m n ≡ b → cond b x y ≡ gives r → ((m ≡ n) × (x ≡ gives r)) ⊎ (y ≡ gives r)
    by true q h = inl (eqb-true m n q, h)
    by false q h = inr h

-- the definition that answers for each number
data ByNumber (ends : Endians) (s : List ℕ) (at : ℕ) (r : «Type») : ℕ → Type 0 where
  is_fund : fund_type ends s at ≡ gives r → ByNumber ends s at r 0x55
  is_mod_fund : mod_fund_type ends.section (at + 2) (block_at ends.«data» 2 s at) ≡ gives r → ByNumber ends s at r 0x63
  is_user : user_def_type ends s at ≡ gives r → ByNumber ends s at r 0x72
  is_mod_user : mod_ud_type ends.section (at + 2) (block_at ends.«data» 2 s at) ≡ gives r → ByNumber ends s at r 0x83

module _ (ends : Endians) (s : List ℕ) (kind at : ℕ) {r : «Type»} where
  is-kind : {k : ℕ} → kind ≡ k → ByNumber ends s at r k → ByNumber ends s at r kind
  is-kind p c = subst (ByNumber ends s at r) (sym p) c

  by_number : process_type ends s kind at ≡ gives r → ByNumber ends s at r kind
  unfolding process_type
  by_number p =
      elim (choose kind 0x55 p) [
        | inl c ↦ is-kind c.0 (is_fund c.1)
        | inr p ↦
            elim (choose kind 0x63 p) [
              | inl c ↦ is-kind c.0 (is_mod_fund c.1)
              | inr p ↦
                  elim (choose kind 0x72 p) [
                    | inl c ↦ is-kind c.0 (is_user c.1)
                    | inr p ↦ elim (choose kind 0x83 p) [ inl c ↦ is-kind c.0 (is_mod_user c.1) | inr p ↦ absurd (given-refused (sym p)) ]
                  ]
            ]
      ]

on-types : {ends : Endians} {s : List ℕ} {at kind : ℕ} {r : «Type»} → ByNumber ends s at r kind → OnList kind type_numbers
unfolding type_numbers
on-types (is_fund p) = record { index = 0; inside = omega arith; stands = refl }
on-types (is_mod_fund p) = record { index = 1; inside = omega arith; stands = refl }
on-types (is_user p) = record { index = 2; inside = omega arith; stands = refl }
on-types (is_mod_user p) = record { index = 3; inside = omega arith; stands = refl }

-- a type is told of the four type attributes alone
pub type-number-only : (ends : Endians) (s : List ℕ) (kind at : ℕ) {r : «Type»} → process_type ends s kind at ≡ gives r → OnList kind type_numbers
type-number-only ends s kind at p = on-types (by_number ends s kind at p)

-- ---- modifiers

modifier-of : (x : ℕ) → 1 ≤ x → x ≤ 4 → (m : Modifier) × (modifier_byte m ≡ x)
unfolding modifier_byte
modifier-of x low high =
    elim (dec_le x 1) [
      | yes a ↦ (pointer-to, omega arith)
      | no a ↦ elim (dec_le x 2) [
        | yes b ↦ (reference-to, omega arith)
        | no b ↦ elim (dec_le x 3) [ yes c ↦ (const, omega arith) | no c ↦ (volatile, omega arith) ]
      ]
    ]

modifiers-of : (xs : List ℕ) → ((i : ℕ) → i < length xs → (1 ≤ get_or xs i 0) × (get_or xs i 0 ≤ 4)) → (ms : List Modifier) × (modifier_bytes ms ≡ xs)
unfolding modifier_bytes
modifiers-of [] h = ([], refl)
modifiers-of (x ∷ xs) h =
    let first = modifier-of x (h 0 (omega arith)).0 (h 0 (omega arith)).1 in
    let rest = modifiers-of xs (λ i b. h (suc i) (omega arith)) in
    (first.0 ∷ rest.0, rw (first.1, rest.1))

-- no bytes are no modifiers
unmodified : {r : «Type»} (place : ℕ) (base : Base) (ms : List Modifier) → modifier_bytes ms ≡ [] → r ≡ type_at place (record { modifiers = ms; base = base })
    → r ≡ type_at place (record { modifiers = []; base = base })
unfolding modifier_bytes
unmodified place base [] p h = h
unmodified place base (m ∷ ms) p h = let z : length (modifier_byte m ∷ modifier_bytes ms) ≡ 0 = ap length p in absurd (omega arith)

-- what was answered of modifiers and a kind
modified-is : (place : ℕ) (xs : List ℕ) (kind : TypeKind) {r : «Type»} → modified place xs kind ≡ gives r
    → (pointer : Bool) × (record { kind = kind; place = place; count = length xs; pointer = pointer } ≡ r)
unfolding modified
modified-is place xs kind p = let step = step-gave (process_modifiers xs) _ p in (step.0, given_is step.2)

-- ---- the standard's numbers, behind modifiers that stand at a place

module _ (e : Endian) {s : List ℕ} {place : ℕ} {xs : List ℕ} (q : Stands s place xs) where
  modifiers-in : {kind : TypeKind} {pointer : Bool} → OfStandard e s (record { kind = kind; place = place; count = length xs; pointer = pointer })
      → (ms : List Modifier) × (modifier_bytes ms ≡ xs)
  modifiers-in h = modifiers-of xs (λ i b. subst (λ (x : ℕ). (1 ≤ x) × (x ≤ 4)) (q.same i b) (h.modifiers i b))

  defined-only : {r : «Type»} (key : ℕ) (small : key < 256 ^ 4) → modified place xs (UserDefined key) ≡ gives r → OfStandard e s r
      → (ms : List Modifier) × (modifier_bytes ms ≡ xs) × (r ≡ type_at place (record { modifiers = ms; base = Base.defined key small }))
  defined-only key small p h =
      let is = modified-is place xs (UserDefined key) p in
      let ms = modifiers-in (subst (OfStandard e s) (sym is.1) h) in
      (ms.0, ms.1, given_is (sym p ∙ ap (λ (u : List ℕ). modified place u (UserDefined key)) (sym ms.1) ∙ defined-given place ms.0 small))

  fundamental-only : {r : «Type»} (n : ℕ) → fundamental place xs n ≡ gives r → value_of e 2 s (place + length xs) ≡ n → OfStandard e s r
      → (ms : List Modifier) × (on : OnList n fundamental_types) × (modifier_bytes ms ≡ xs)
      × (r ≡ type_at place (record { modifiers = ms; base = Base.fundamental n on }))
  unfolding fundamental
  fundamental-only n p v h =
      let known = step-gave (known_number (parse_int n)) _ p in
      let is = modified-is place xs (Fundamental known.0) known.2 in
      let here = subst (OfStandard e s) (sym is.1) h in
      let ms = modifiers-in here in
      let on : OnList n fundamental_types = subst (λ (k : ℕ). OnList k fundamental_types) v here.type in
      (ms.0, on, ms.1, given_is (sym p ∙ ap (λ (u : List ℕ). fundamental place u n) (sym ms.1) ∙ fundamental-given place ms.0 on))

-- ---- the types

abbrev SaidBy : Endian → List ℕ → ℕ → ℕ → «Type» → Type 0
SaidBy e s kind at r = (t : Typed) × (value : Value) × SaysAt e s kind at t value × (r ≡ type_at (said_from at value) t)

pub says_at : {e : Endian} {s : List ℕ} {kind at : ℕ} {t : Typed} {value : Value} {form : Form} {body : List ℕ} → Says e t kind value
    → Written e form value body → kind % 16 ≡ form_number form → Stands s at body → SaysAt e s kind at t value
says_at {s = s} {at = at} {form = form} {body = body} says written has_form q =
    record {
      form = form;
      before = take at s;
      body = body;
      behind = drop (at + length body) s;
      says = says;
      has_form = has_form;
      written = written;
      section = stands-split q;
      place = front_length q;
    }

module _ (e : Endian) {s : List ℕ} (small : Bytes s) {at : ℕ} {r : «Type»} (standard : OfStandard e s r) where
  fund-only : fund_type (alike e) s at ≡ gives r → SaidBy e s 0x55 at r
  unfolding fund_type form_number said_from
  fund-only p =
      let step = step-gave (number_in e 2 s at) _ p in
      let n : ℕ = step.0 in
      let there = number-gave e 2 s at step.1 in
      let inside : at + 2 ≤ length s = there.0 in
      let is = fundamental-only e (none-stands {s = s} {at = at} (omega arith)) n step.2 (ap (value_of e 2 s) (add-zero at) ∙ there.1) standard in
      let type : Typed = record { modifiers = []; base = Base.fundamental n is.1 } in (
        type,
        number n,
        says_at (fund n is.1) (data2 n (omega (arith, fundamental-small is.1))) refl (number-written e 2 s at small inside there.1),
        unmodified at (Base.fundamental n is.1) is.0 is.2 is.3,
      )

  user-only : user_def_type (alike e) s at ≡ gives r → SaidBy e s 0x72 at r
  unfolding user_def_type form_number said_from
  user-only p =
      let step = step-gave (number_in e 4 s at) _ p in
      let key : ℕ = step.0 in
      let there = number-gave e 4 s at step.1 in
      let inside : at + 4 ≤ length s = there.0 in
      let few : key < 256 ^ 4 = subst (λ (k : ℕ). k < 256 ^ 4) there.1 (number_small e 4 s at small) in
      let is = defined-only e (none-stands {s = s} {at = at} (omega arith)) key few step.2 standard in
      let type : Typed = record { modifiers = []; base = Base.defined key few } in (
        type,
        number key,
        says_at (user key few) (reference key few) refl (number-written e 4 s at small inside there.1),
        unmodified at (Base.defined key few) is.0 is.1 is.2,
      )

  fund-said : (l : LastIn e 2 s at (fundamental (at + 2)) r) (ms : List Modifier) (on : OnList l.n fundamental_types) → modifier_bytes ms ≡ l.front
      → r ≡ type_at (at + 2) (record { modifiers = ms; base = Base.fundamental l.n on }) → SaidBy e s 0x63 at r
  unfolding form_number said_from
  fund-said l ms on p answer = (_, _, says_at (mod_fund ms l.n on) (block_written l p) refl l.stands, answer)

  mod-fund-only : mod_fund_type e (at + 2) (block_at e 2 s at) ≡ gives r → SaidBy e s 0x63 at r
  unfolding mod_fund_type
  mod-fund-only p =
      let l = last-in e 2 (omega arith) small at (fundamental (at + 2)) p in
      let is = fundamental-only e (modifiers-stand l) l.n l.gave (number_behind l) standard in
      fund-said l is.0 is.1 is.2 is.3

  user-said : (l : LastIn e 4 s at (λ xs key. modified (at + 2) xs (UserDefined key)) r) (ms : List Modifier) → modifier_bytes ms ≡ l.front
      → r ≡ type_at (at + 2) (record { modifiers = ms; base = Base.defined l.n l.few }) → SaidBy e s 0x83 at r
  unfolding form_number said_from
  user-said l ms p answer = (_, _, says_at (mod_user ms l.n l.few) (block_written l p) refl l.stands, answer)

  mod-user-only : mod_ud_type e (at + 2) (block_at e 2 s at) ≡ gives r → SaidBy e s 0x83 at r
  unfolding mod_ud_type
  mod-user-only p =
      let l = last-in e 4 (omega arith) small at (λ xs key. modified (at + 2) xs (UserDefined key)) p in
      let is = defined-only e (modifiers-stand l) l.n l.few l.gave standard in
      user-said l is.0 is.1 is.2

  by_kind : {kind : ℕ} → ByNumber (alike e) s at r kind → SaidBy e s kind at r
  by_kind (is_fund p) = fund-only p
  by_kind (is_mod_fund p) = mod-fund-only p
  by_kind (is_user p) = user-only p
  by_kind (is_mod_user p) = mod-user-only p

-- the theorem
pub type-only : (e : Endian) {s : List ℕ} → Bytes s → (kind at : ℕ) {r : «Type»} → process_type (alike e) s kind at ≡ gives r → OfStandard e s r
    → (t : Typed) × (value : Value) × SaysAt e s kind at t value × (r ≡ type_at (said_from at value) t)
type-only e {s} small kind at p standard = by_kind e small standard (by_number (alike e) s kind at p)
