-- What the standard writes as a type is read back, and nothing else that has only its numbers.
use Rattle.std.specs.Prelude.{Some}
use Rattle.std.proofs.Common.{◌≡◌, ℕ, zero, suc, ◌+◌, ◌-◌, ◌/◌, ◌%◌, ◌^◌, ◌<◌, ◌≤◌, Bool, true, ◌&&◌, eqb, List, [], ◌∷◌, ◌++◌, length, get_or, take, sym, refl, ap, ◌∙◌, subst, le_of_suc-le-suc, not-suc-le-zero, add-zero, zero-add, arith, length-append, take_at, ne_eqb, eqb-true, le-leb}
use mathlib.Core.Bool.{and-eq-true_iff}
use Rattle.numbers.specs.Value.{value_of}
use Rattle.numbers.specs.Written.{bytes_of}
use Rattle.numbers.proofs.Laws.Written.{bytes-length, number-answers, number_read}
use Rattle.numbers.proofs.Laws.Stands.{Stands, all-stands, none-stands, front-stands, back-stands}
use Rattle.numbers.specs.declared.Endian.{Endian}
use Rattle.standard.specs.Numbers.{OnList, fundamental_types, Form, form_number}
use Rattle.standard.specs.Entries.{Value, number, bytes, block, text, Text, Written, address, reference, block2, block4, data2, data4, data8, string}
use Rattle.standard.specs.Types.{Modifier, pointer-to, reference-to, const, volatile, modifier_byte, modifier_bytes, Base, Typed, Says, fund, mod_fund, user, mod_user}
use Rattle.format.specs.Lookup.{is_on, lookup}
use Rattle.format.specs.FundType.{fund_types, fund_type_of, parse_int}
use Rattle.format.specs.Modifier.{modifier_of}
use Rattle.format.specs.Modifier as format
use Rattle.format.specs.Said.{Said, gives, refuse, must, ◌>>=◌, ◌>>◌}
use Rattle.format.proofs.Laws.Said.{must-passed}
use Rattle.format.specs.declared.refusal.Reason.TheVariants as reason
use Rattle.attributes.specs.Parts.{part_at, block_at}
use Rattle.blocks.specs.Modifiers.{is_known, is_pointer, all_known, any_pointer, process_modifiers}
use Rattle.blocks.specs.Types.{number_in, known_number, modified, fundamental, fund_type, user_def_type, last_bytes, mod_fund_type, mod_ud_type, process_type}
use Rattle.blocks.specs.Standard.{modifier_named, points, kind_of, type_at, said_from, SaysAt, StandardKind, OfStandard, alike}
use Rattle.blocks.specs.declared.types.TypeKind.{TypeKind}
use Rattle.blocks.specs.declared.types.TypeKind.TheVariants.{Fundamental, UserDefined}
use Rattle.blocks.specs.declared.types.Type.{«Type»}
use Rattle.blocks.proofs.Laws.Placed.{split-stands, stands-part}

-- ---- the standard's numbers are the reader's

unfoldable every : (ℕ → Bool) → List ℕ → Bool
every test [] = true
every test (x ∷ xs) = test x && every test xs

on-every : (test : ℕ → Bool) (xs : List ℕ) → every test xs ≡ true → (i : ℕ) → i < length xs → test (get_or xs i 0) ≡ true
unfolding every
on-every test [] h i b = absurd (not-suc-le-zero b)
on-every test (x ∷ xs) h zero b = ((and-eq-true_iff (test x) (every test xs)).0 h).0
on-every test (x ∷ xs) h (suc i) b = on-every test xs ((and-eq-true_iff (test x) (every test xs)).0 h).1 i (le_of_suc-le-suc b)

-- known, and of one byte
unfoldable passes : ℕ → Bool
passes n = is_on n fund_types && eqb (n / 256) 0

all_pass : every passes fundamental_types ≡ true
unfolding every passes is_on fund_types fundamental_types
all_pass = refl

module _ {n : ℕ} (on : OnList n fundamental_types) where
  both-pass : (is_on n fund_types ≡ true) × (eqb (n / 256) 0 ≡ true)
  unfolding passes
  both-pass =
      (and-eq-true_iff (is_on n fund_types) (eqb (n / 256) 0)).0
      (subst (λ (k : ℕ). passes k ≡ true) on.stands (on-every passes fundamental_types all_pass on.index on.inside))

  pub fundamental-small : n < 256
  fundamental-small = let z : n / 256 ≡ 0 = eqb-true (n / 256) 0 both-pass.1 in omega arith

  pub fundamental-known : fund_type_of n ≡ Some n
  unfolding fund_type_of
  fundamental-known = rw both-pass.0

  -- `parse_int` leaves it as it is
  pub fundamental-parsed : parse_int n ≡ Some n
  unfolding parse_int
  fundamental-parsed =
      let z : n / 256 ≡ 0 = eqb-true (n / 256) 0 both-pass.1 in
      rw (ne_eqb (n / 256) 1 (λ p. omega arith)) fundamental-known

pub modifier-agrees : (m : Modifier) → modifier_of (modifier_byte m) ≡ modifier_named m
unfolding modifier_of format.modifiers lookup modifier_byte modifier_named
modifier-agrees pointer-to = refl
modifier-agrees reference-to = refl
modifier-agrees const = refl
modifier-agrees volatile = refl

named-known : (m : Modifier) → is_known (modifier_named m) ≡ true
unfolding is_known modifier_named
named-known pointer-to = refl
named-known reference-to = refl
named-known const = refl
named-known volatile = refl

-- ---- modifiers

all_known_lem : (ms : List Modifier) → all_known (modifier_bytes ms) ≡ true
unfolding all_known modifier_bytes
all_known_lem [] = refl
all_known_lem (m ∷ ms) = rw (modifier-agrees m, named-known m) (all_known_lem ms)

any-points : (ms : List Modifier) → any_pointer (modifier_bytes ms) ≡ points ms
unfolding any_pointer modifier_bytes points is_pointer modifier_named
any-points [] = refl
any-points (pointer-to ∷ ms) = rw (modifier-agrees pointer-to)
any-points (reference-to ∷ ms) = rw (modifier-agrees reference-to)
any-points (const ∷ ms) = rw (modifier-agrees const) (any-points ms)
any-points (volatile ∷ ms) = rw (modifier-agrees volatile) (any-points ms)

modifiers-count : (ms : List Modifier) → length (modifier_bytes ms) ≡ length ms
unfolding modifier_bytes
modifiers-count [] = refl
modifiers-count (m ∷ ms) = ap suc (modifiers-count ms)

modifier-small : (m : Modifier) → (1 ≤ modifier_byte m) × (modifier_byte m ≤ 4)
unfolding modifier_byte
modifier-small pointer-to = (omega arith, omega arith)
modifier-small reference-to = (omega arith, omega arith)
modifier-small const = (omega arith, omega arith)
modifier-small volatile = (omega arith, omega arith)

modifiers-small : (ms : List Modifier) (i : ℕ) → i < length ms → (1 ≤ get_or (modifier_bytes ms) i 0) × (get_or (modifier_bytes ms) i 0 ≤ 4)
unfolding modifier_bytes
modifiers-small [] i h = absurd (not-suc-le-zero h)
modifiers-small (m ∷ ms) zero h = modifier-small m
modifiers-small (m ∷ ms) (suc i) h = modifiers-small ms i (le_of_suc-le-suc h)

modifiers-given : (ms : List Modifier) → process_modifiers (modifier_bytes ms) ≡ gives (points ms)
unfolding process_modifiers must ◌>>◌
modifiers-given ms = rw (all_known_lem ms, any-points ms)

modified-given : (place : ℕ) (ms : List Modifier) (kind : TypeKind)
    → modified place (modifier_bytes ms) kind ≡ gives (record { kind = kind; place = place; count = length ms; pointer = points ms })
unfolding modified ◌>>=◌
modified-given place ms kind = rw (modifiers-given ms, modifiers-count ms)

pub fundamental-given : (place : ℕ) (ms : List Modifier) {type : ℕ} (on : OnList type fundamental_types)
    → fundamental place (modifier_bytes ms) type ≡ gives (type_at place (record { modifiers = ms; base = Base.fundamental type on }))
unfolding fundamental known_number type_at kind_of ◌>>=◌
fundamental-given place ms {type} on = rw (fundamental-parsed on) (modified-given place ms (Fundamental type))

pub defined-given : (place : ℕ) (ms : List Modifier) {key : ℕ} (small : key < 256 ^ 4)
    → modified place (modifier_bytes ms) (UserDefined key) ≡ gives (type_at place (record { modifiers = ms; base = Base.defined key small }))
unfolding type_at kind_of
defined-given place ms {key} small = modified-given place ms (UserDefined key)

-- ---- numbers and blocks that stand in a section

pub number_there : (e : Endian) (w : ℕ) {s : List ℕ} {at n : ℕ} → n < 256 ^ w → Stands s at (bytes_of e w n) → number_in e w s at ≡ gives n
unfolding number_in
number_there e w h q = number-answers gives (refuse reason.Block 0) e w _ _ _ h q

module _ (e : Endian) (w : ℕ) {s : List ℕ} {at : ℕ} (xs : List ℕ) (q : Stands s at (block e w xs)) where
  pub block-number : Stands s at (bytes_of e w (length xs))
  unfolding block
  block-number = front-stands s at (bytes_of e w (length xs)) xs q

  pub block-stands : Stands s (at + w) xs
  unfolding block
  block-stands = rw (bytes-length e w (length xs)) at (back-stands s at (bytes_of e w (length xs)) xs q)

  pub block-there : length xs < 256 ^ w → block_at e w s at ≡ xs
  unfolding block_at
  block-there h = number-answers (λ n. part_at s (at + w) n) [] e w s at (length xs) h block-number ∙ stands-part block-stands

-- a number behind other bytes is what a block of them says
last-read : (e : Endian) (w : ℕ) (xs : List ℕ) {n : ℕ} (type : List ℕ → ℕ → Said «Type») → n < 256 ^ w
    → last_bytes w e (xs ++ bytes_of e w n) type ≡ type xs n
unfolding last_bytes
last-read e w xs {n} type h =
    let block : List ℕ = xs ++ bytes_of e w n in
    let long : length (bytes_of e w n) ≡ w = bytes-length e w n in
    let whole : length block ≡ length xs + length (bytes_of e w n) = length-append xs (bytes_of e w n) in
    let start : length block - w ≡ length xs = omega arith in
    let behind : Stands block (length xs) (bytes_of e w n) = rw zero-add at (back-stands block 0 xs (bytes_of e w n) (all-stands block)) in
    let front : take (length block - w) block ≡ xs = ap (λ (k : ℕ). take k block) start ∙ take_at xs (bytes_of e w n) (length xs) refl in
    let last : value_of e w block (length block - w) ≡ n = ap (value_of e w block) start ∙ number_read e w block (length xs) n h behind in
    sym (must-passed refl _ _ _ (le-leb w (length block) (omega arith)) (rw (front, last)))

-- ---- a value in the form of its attribute

pub as-data2 : {e : Endian} {form : Form} {value : Value} {body : List ℕ} → Written e form value body → 5 ≡ form_number form
    → (n : ℕ) × (n < 256 ^ 2) × (value ≡ number n) × (body ≡ bytes_of e 2 n)
unfolding form_number
as-data2 (address n h) p = absurd (omega arith)
as-data2 (reference n h) p = absurd (omega arith)
as-data2 (block2 xs h b) p = absurd (omega arith)
as-data2 (block4 xs h b) p = absurd (omega arith)
as-data2 (data2 n h) p = (n, h, refl, refl)
as-data2 (data4 n h) p = absurd (omega arith)
as-data2 (data8 n h) p = absurd (omega arith)
as-data2 (string xs t) p = absurd (omega arith)

pub as-reference : {e : Endian} {form : Form} {value : Value} {body : List ℕ} → Written e form value body → 2 ≡ form_number form
    → (n : ℕ) × (n < 256 ^ 4) × (value ≡ number n) × (body ≡ bytes_of e 4 n)
unfolding form_number
as-reference (address n h) p = absurd (omega arith)
as-reference (reference n h) p = (n, h, refl, refl)
as-reference (block2 xs h b) p = absurd (omega arith)
as-reference (block4 xs h b) p = absurd (omega arith)
as-reference (data2 n h) p = absurd (omega arith)
as-reference (data4 n h) p = absurd (omega arith)
as-reference (data8 n h) p = absurd (omega arith)
as-reference (string xs t) p = absurd (omega arith)

pub as-block2 : {e : Endian} {form : Form} {value : Value} {body : List ℕ} → Written e form value body → 3 ≡ form_number form
    → (xs : List ℕ) × (length xs < 256 ^ 2) × (value ≡ bytes xs) × (body ≡ block e 2 xs)
unfolding form_number
as-block2 (address n h) p = absurd (omega arith)
as-block2 (reference n h) p = absurd (omega arith)
as-block2 (block2 xs h b) p = (xs, h, refl, refl)
as-block2 (block4 xs h b) p = absurd (omega arith)
as-block2 (data2 n h) p = absurd (omega arith)
as-block2 (data4 n h) p = absurd (omega arith)
as-block2 (data8 n h) p = absurd (omega arith)
as-block2 (string xs t) p = absurd (omega arith)

pub as-data4 : {e : Endian} {form : Form} {value : Value} {body : List ℕ} → Written e form value body → 6 ≡ form_number form
    → (n : ℕ) × (n < 256 ^ 4) × (value ≡ number n) × (body ≡ bytes_of e 4 n)
unfolding form_number
as-data4 (address n h) p = absurd (omega arith)
as-data4 (reference n h) p = absurd (omega arith)
as-data4 (block2 xs h b) p = absurd (omega arith)
as-data4 (block4 xs h b) p = absurd (omega arith)
as-data4 (data2 n h) p = absurd (omega arith)
as-data4 (data4 n h) p = (n, h, refl, refl)
as-data4 (data8 n h) p = absurd (omega arith)
as-data4 (string xs t) p = absurd (omega arith)

pub as-text : {e : Endian} {form : Form} {value : Value} {body : List ℕ} → Written e form value body → 8 ≡ form_number form
    → (xs : List ℕ) × Text xs × (value ≡ bytes xs) × (body ≡ text xs)
unfolding form_number
as-text (address n h) p = absurd (omega arith)
as-text (reference n h) p = absurd (omega arith)
as-text (block2 xs h b) p = absurd (omega arith)
as-text (block4 xs h b) p = absurd (omega arith)
as-text (data2 n h) p = absurd (omega arith)
as-text (data4 n h) p = absurd (omega arith)
as-text (data8 n h) p = absurd (omega arith)
as-text (string xs t) p = (xs, t, refl, refl)

-- ---- what is written is read

pub same_number : {m n : ℕ} → number m ≡ number n → n ≡ m
same_number p = cc

pub same_bytes : {xs ys : List ℕ} → bytes xs ≡ bytes ys → ys ≡ xs
same_bytes p = cc

module _ {e : Endian} {form : Form} {body s : List ℕ} {at : ℕ} (q : Stands s at body) where
  -- the number, or the block, that stands there
  data2-stands : {n : ℕ} → Written e form (number n) body → 5 ≡ form_number form → Stands s at (bytes_of e 2 n)
  data2-stands w p = let is = as-data2 w p in subst (Stands s at) (is.3 ∙ ap (bytes_of e 2) (same_number is.2)) q

  reference-stands : {n : ℕ} → Written e form (number n) body → 2 ≡ form_number form → Stands s at (bytes_of e 4 n)
  reference-stands w p = let is = as-reference w p in subst (Stands s at) (is.3 ∙ ap (bytes_of e 4) (same_number is.2)) q

  block2-stands : {xs : List ℕ} → Written e form (bytes xs) body → 3 ≡ form_number form → Stands s at (block e 2 xs)
  block2-stands w p = let is = as-block2 w p in subst (Stands s at) (is.3 ∙ ap (block e 2) (same_bytes is.2)) q

block2-small : {e : Endian} {form : Form} {xs body : List ℕ} → Written e form (bytes xs) body → 3 ≡ form_number form → length xs < 256 ^ 2
block2-small w p = let is = as-block2 w p in subst (λ (u : List ℕ). length u < 256 ^ 2) (same_bytes is.2) is.1

module _ (e : Endian) {s : List ℕ} {at : ℕ} where
  pub read_as : {t : Typed} {kind : ℕ} {value : Value} {form : Form} {body : List ℕ} → Says e t kind value → Written e form value body
      → kind % 16 ≡ form_number form → Stands s at body → process_type (alike e) s kind at ≡ gives (type_at (said_from at value) t)
  unfolding process_type fund_type mod_fund_type user_def_type mod_ud_type said_from modifier_bytes ◌>>=◌
  read_as (fund type on) w p q =
      rw (number_there e 2 (omega (arith, fundamental-small on)) (data2-stands q w p)) (fundamental-given at [] on)
  read_as (mod_fund ms type on) w p q =
      rw (block-there e 2 (modifier_bytes ms ++ bytes_of e 2 type) (block2-stands q w p) (block2-small w p))
      (last-read e 2 (modifier_bytes ms) (fundamental (at + 2)) (omega (arith, fundamental-small on)) ∙ fundamental-given (at + 2) ms on)
  read_as (user key small) w p q = rw (number_there e 4 small (reference-stands q w p)) (defined-given at [] small)
  read_as (mod_user ms key small) w p q =
      rw (block-there e 2 (modifier_bytes ms ++ bytes_of e 4 key) (block2-stands q w p) (block2-small w p))
      (last-read e 4 (modifier_bytes ms) (λ xs n. modified (at + 2) xs (UserDefined n)) small ∙ defined-given (at + 2) ms small)

  -- the modifiers, in order
  read-modifiers : {t : Typed} {kind : ℕ} {value : Value} {form : Form} {body : List ℕ} → Says e t kind value → Written e form value body
      → kind % 16 ≡ form_number form → Stands s at body → Stands s (said_from at value) (modifier_bytes t.modifiers)
  unfolding said_from modifier_bytes
  read-modifiers (fund type on) w p q = none-stands (omega (arith, q.fits))
  read-modifiers (mod_fund ms type on) w p q =
      front-stands s (at + 2) (modifier_bytes ms) (bytes_of e 2 type) (block-stands e 2 (modifier_bytes ms ++ bytes_of e 2 type) (block2-stands q w p))
  read-modifiers (user key small) w p q = none-stands (omega (arith, q.fits))
  read-modifiers (mod_user ms key small) w p q =
      front-stands s (at + 2) (modifier_bytes ms) (bytes_of e 4 key) (block-stands e 2 (modifier_bytes ms ++ bytes_of e 4 key) (block2-stands q w p))

  -- a fundamental type, behind them
  read-kind : {t : Typed} {kind : ℕ} {value : Value} {form : Form} {body : List ℕ} → Says e t kind value → Written e form value body
      → kind % 16 ≡ form_number form → Stands s at body → StandardKind e s (said_from at value + length t.modifiers) (kind_of t.base)
  unfolding said_from kind_of
  read-kind (fund type on) w p q =
      let is : value_of e 2 s at ≡ type = number_read e 2 s at type (omega (arith, fundamental-small on)) (data2-stands q w p) in
      subst (λ (n : ℕ). OnList n fundamental_types) (sym (ap (value_of e 2 s) (add-zero at) ∙ is)) on
  read-kind (mod_fund ms type on) w p q =
      let front : List ℕ = modifier_bytes ms in
      let behind : Stands s (at + 2 + length front) (bytes_of e 2 type) =
      back-stands s (at + 2) front (bytes_of e 2 type) (block-stands e 2 (front ++ bytes_of e 2 type) (block2-stands q w p))
      in
      let is : value_of e 2 s (at + 2 + length front) ≡ type = number_read e 2 s (at + 2 + length front) type (omega (arith, fundamental-small on)) behind in
      subst (λ (n : ℕ). OnList n fundamental_types) (sym (ap (λ (k : ℕ). value_of e 2 s (at + 2 + k)) (sym (modifiers-count ms)) ∙ is)) on
  read-kind (user key small) w p q = tt
  read-kind (mod_user ms key small) w p q = tt

module _ {e : Endian} {s : List ℕ} {kind at : ℕ} {t : Typed} {value : Value} (w : SaysAt e s kind at t value) where
  pub body_stands : Stands s at w.body
  body_stands =
      subst (λ (k : ℕ). Stands s k w.body) w.place
      (subst (λ (u : List ℕ). Stands u (length w.before) w.body) (sym w.section) (split-stands w.before w.body w.behind))

  -- a type that is written is read back: its kind, where its modifiers begin and how many there are, and whether they point
  pub type-read : process_type (alike e) s kind at ≡ gives (type_at (said_from at value) t)
  type-read = read_as e w.says w.written w.has_form body_stands

  -- the part that its answer names is its modifiers, in order
  pub modifiers-read : part_at s (said_from at value) (length t.modifiers) ≡ modifier_bytes t.modifiers
  modifiers-read =
      ap (part_at s (said_from at value)) (sym (modifiers-count t.modifiers))
      ∙ stands-part (read-modifiers e w.says w.written w.has_form body_stands)

  -- and it has only the standard's numbers
  pub type-standard : OfStandard e s (type_at (said_from at value) t)
  unfolding type_at
  type-standard =
      let stand : Stands s (said_from at value) (modifier_bytes t.modifiers) = read-modifiers e w.says w.written w.has_form body_stands in
      let count : length (modifier_bytes t.modifiers) ≡ length t.modifiers = modifiers-count t.modifiers in
      record {
        modifiers =
            λ i h. subst (λ (x : ℕ). (1 ≤ x) × (x ≤ 4)) (sym (stand.same i (omega arith))) (modifiers-small t.modifiers i h);
        type = read-kind e w.says w.written w.has_form body_stands;
      }
