-- What follows from `Elements`, for each way that the code comes to an answer; and what a list in its slots comes to.
use Rattle.std.specs.Prelude.{Option, Some, None, Result, Ok}
use Rattle.format.specs.Said.{said}
use Rattle.format.proofs.Laws.Said.{Of, given_is, given-refused}
use Prim.Native.Nat.{ℕ, zero, suc, ◌+◌, ◌-◌, ◌*◌, ◌≤◌, ◌<◌}
use native.Mathlib.Nat.{add-zero, suc-mul, zero-mul, ne_of_lt, lt_of_not-le}
use native.Mathlib.Decide.{dec_le}
use native.Mathlib.Omega.{arith}
use mathlib.Core.Path.{◌≡◌, refl, sym, ap, ◌∙◌, subst}
use mathlib.Core.Bool.{true, false, cond}
use mathlib.Core.List.{List, [], ◌∷◌, ◌++◌, append_assoc, append-nil}
use lib.ListN.{length, set, length-append}
use lib.Seq.{set_comm, sets, length-sets}
use lib.Dec.{eqb, ltb}
use lib.IntN.{ℤ}
use borrow.Author.Tests.{lt-ltb, le-ltb, ltb-true}
use Rattle.numbers.proofs.Laws.Tests.{cond-all}
use Rattle.numbers.specs.declared.Endian.{Endian}
use Rattle.format.specs.Said.{Said, gives, refuses, refuse, refusal, ◌>>=◌, placed}
use Rattle.format.specs.declared.refusal.Refusal.{Refusal}
use Rattle.format.specs.declared.refusal.Reason.TheVariants as reason
use Rattle.attributes.specs.Text.{zero_from}
use Rattle.attributes.proofs.Laws.Text.{zero-after}
use Rattle.tables.specs.Inside.Keyed.{refused_at}
use Rattle.lent.proofs.Laws.Stores.{sets-append}
use Rattle.records.specs.Elements.{list_width, value_at, named_from, name_from, valued, element_at, Listed, element_then, elements_from, elements_in, values_of, names_of}
use Rattle.records.specs.Inside.Elements.{slot_of, value_words, name_words, listed_as, ElementsStored, store_all, store_values, store_names, elements_before, count_from, StoredFrom}
use Rattle.records.specs.Enumeration.{reversed}
use Rattle.records.specs.declared.elements.Element.{Element}
use Rattle.records.specs.declared.elements.Element.TheVariants as element
use Rattle.records.specs.declared.elements.Slots.{Slots}

-- ---- one element

pub width_few : (size : Option ℕ) → list_width size ≤ 4
unfolding list_width
width_few (Some n) =
    cond-all (λ w. w ≤ 4) (eqb n 1) (λ t. omega arith)
    (λ t. cond-all (λ w. w ≤ 4) (eqb n 2) (λ t'. omega arith) (λ t'. cond-all (λ w. w ≤ 4) (eqb n 4) (λ t''. omega arith) (λ t''. omega arith)))
width_few None = omega arith

-- an element that was read lies inside, and the next begins behind it
abbrev Ahead : List ℕ → ℕ → Option Element → Type 0
Ahead block at (Some (element.Is value place len next)) = (place < length block) × (at < next) × (next ≤ length block)
Ahead block at (Some (element.Name next)) = (at < next) × (next ≤ length block)
Ahead block at None = Unit

named-ahead : (block : List ℕ) (from at : ℕ) (value : ℤ) → from ≤ at → Ahead block from (named_from block at value)
unfolding named_from
named-ahead block from at value h =
    let after : at ≤ zero_from block at = zero-after block at refl in
    cond-all (Ahead block from) (ltb (zero_from block at) (length block))
    (λ t. let z : zero_from block at < length block = ltb-true (zero_from block at) (length block) t in (omega arith, omega arith, omega arith)) (λ t. tt)

name-ahead : (block : List ℕ) (at : ℕ) → Ahead block at (name_from block at)
unfolding name_from
name-ahead block at =
    let after : at ≤ zero_from block at = zero-after block at refl in
    cond-all (Ahead block at) (ltb (zero_from block at) (length block))
    (λ t. let z : zero_from block at < length block = ltb-true (zero_from block at) (length block) t in (omega arith, omega arith)) (λ t. tt)

valued-ahead : (width : ℕ) (block : List ℕ) (at : ℕ) (r : Option ℤ) → Ahead block at (valued width block at r)
unfolding valued
valued-ahead width block at (Some v) = named-ahead block at (at + width) v (omega arith)
valued-ahead width block at None = tt

element-ahead : (width : ℕ) (e : Endian) (block : List ℕ) (at : ℕ) → Ahead block at (element_at width e block at)
unfolding element_at
element-ahead width e block at =
    cond-all (Ahead block at) (eqb width 0) (λ t. name-ahead block at) (λ t. valued-ahead width block at (value_at width e block at))

-- ---- an element in its slot

module _ (slots : Slots) (k : ℕ) where
  pub slot_same : slots.reversed ≡ false → k ≡ slot_of slots k
  unfolding slot_of
  slot_same t = rw t

-- ---- lists in their slots

-- a store below a run can come before or after it
set-under : {A : Type 0} (t : List A) (i j : ℕ) (u : A) (vs : List A) → i < j → set (sets t j vs) i u ≡ sets (set t i u) j vs
set-under t i j u [] h = refl
set-under t i j u (v ∷ vs) h =
    set-under (set t j v) i (suc j) u vs (omega arith) ∙ ap (λ (x : List _). sets x (suc j) vs) (set_comm t j i v u (λ p. ne_of_lt h (sym p)))

-- two runs that do not meet can be stored in either order
sets-under : {A : Type 0} (t : List A) (i j : ℕ) (us vs : List A) → i + length us ≤ j → sets (sets t j vs) i us ≡ sets (sets t i us) j vs
sets-under t i j [] vs h = refl
sets-under t i j (u ∷ us) vs h =
    ap (λ (x : List _). sets x (suc i) us) (set-under t i j u vs (omega arith)) ∙ sets-under (set t i u) (suc i) j us vs (omega arith)

pub reversed-length : (xs : List Listed) → length (reversed xs) ≡ length xs
unfolding reversed
reversed-length [] = refl
reversed-length (x ∷ xs) = length-append (reversed xs) (x ∷ []) ∙ (let less : length (reversed xs) ≡ length xs = reversed-length xs in omega arith)

module _ {A : Type 0} (words : Listed → List A) (width : ℕ) (slots : Slots) where
  pub store-append : (k : ℕ) (xs ys : List Listed) (room : List A)
      → store_all words width slots k (xs ++ ys) room ≡ store_all words width slots (k + length xs) ys (store_all words width slots k xs room)
  unfolding store_all
  store-append k [] ys room = ap (λ (n : ℕ). store_all words width slots n ys room) (sym (add-zero k))
  store-append k (x ∷ xs) ys room =
      let next : suc k + length xs ≡ k + suc (length xs) = omega arith in
      let room' : List A = sets room (slot_of slots k * width) (words x) in
      store-append (suc k) xs ys room' ∙ ap (λ (n : ℕ). store_all words width slots n ys (store_all words width slots (suc k) xs room')) next

  pub store_length : (k : ℕ) (xs : List Listed) (room : List A) → length (store_all words width slots k xs room) ≡ length room
  unfolding store_all
  store_length k [] room = refl
  store_length k (x ∷ xs) room =
      store_length (suc k) xs (sets room (slot_of slots k * width) (words x)) ∙ length-sets room (slot_of slots k * width) (words x)

  pub store-one : (k : ℕ) (x : Listed) (room : List A) → store_all words width slots k (x ∷ []) room ≡ sets room (slot_of slots k * width) (words x)
  unfolding store_all
  store-one k x room = refl

  -- what a list of them comes to
  unfoldable all_words : List Listed → List A
  all_words [] = []
  all_words (x ∷ xs) = words x ++ all_words xs

  module _ (wide : (x : Listed) → length (words x) ≡ width) where
    -- one after the other
    store-forwards : (k : ℕ) (xs : List Listed) (room : List A) → slots.reversed ≡ false → store_all words width slots k xs room ≡ sets room (k * width) (all_words xs)
    unfolding store_all all_words
    store-forwards k [] room t = refl
    store-forwards k (x ∷ xs) room t =
        let slot : slot_of slots k ≡ k = sym (slot_same slots k t) in
        let after : suc k * width ≡ k * width + length (words x) = suc-mul k width ∙ ap (λ (n : ℕ). k * width + n) (sym (wide x)) in
        store-forwards (suc k) xs (sets room (slot_of slots k * width) (words x)) t
        ∙ ap (λ (n : ℕ). sets (sets room (n * width) (words x)) (suc k * width) (all_words xs)) slot
        ∙ ap (λ (n : ℕ). sets (sets room (k * width) (words x)) n (all_words xs)) after
        ∙ sym (sets-append room (k * width) (words x) (all_words xs))

    words_last : (xs : List Listed) (x : Listed) → all_words (xs ++ (x ∷ [])) ≡ all_words xs ++ words x
    unfolding all_words
    words_last [] x = append-nil (words x)
    words_last (y ∷ xs) x = ap (λ (r : List A). words y ++ r) (words_last xs x) ∙ sym (append_assoc (words y) (all_words xs) (words x))

    words_length : (xs : List Listed) → length (all_words xs) ≡ length xs * width
    unfolding all_words
    words_length [] = sym (zero-mul width)
    words_length (x ∷ xs) =
        let one : length (words x) ≡ width = wide x in
        let rest : length (all_words xs) ≡ length xs * width = words_length xs in
        length-append (words x) (all_words xs) ∙ rw (one, rest, suc-mul (length xs) width) (omega arith)

    -- from the back, the last of them first
    store-backwards : (k : ℕ) (xs : List Listed) (room : List A) → slots.reversed ≡ true → slots.total ≡ k + length xs
        → store_all words width slots k xs room ≡ sets room 0 (all_words (reversed xs))
    unfolding store_all all_words reversed slot_of
    store-backwards k [] room t h = refl
    store-backwards k (x ∷ xs) room t h =
        let place : cond slots.reversed (slots.total - suc k) k ≡ length xs = rw t (let same : slots.total - suc k ≡ length xs = omega arith in same) in
        let back : length (all_words (reversed xs)) ≡ length xs * width = words_length (reversed xs) ∙ ap (λ (n : ℕ). n * width) (reversed-length xs) in
        let after : length xs * width ≡ 0 + length (all_words (reversed xs)) = omega arith in
        store-backwards (suc k) xs (sets room (slot_of slots k * width) (words x)) t (omega arith)
        ∙ ap (λ (n : ℕ). sets (sets room (n * width) (words x)) 0 (all_words (reversed xs))) place
        ∙ sets-under room 0 (length xs * width) (all_words (reversed xs)) (words x) (omega arith)
        ∙ ap (λ (n : ℕ). sets (sets room 0 (all_words (reversed xs))) n (words x)) after
        ∙ sym (sets-append room 0 (all_words (reversed xs)) (words x))
        ∙ ap (λ (r : List A). sets room 0 r) (sym (words_last (reversed xs) x))

values-words : (slots : Slots) (xs : List Listed) → all_words value_words 1 slots xs ≡ values_of xs
unfolding all_words values_of
values-words slots [] = refl
values-words slots (x ∷ xs) = ap (λ (r : List ℤ). x.value ∷ r) (values-words slots xs)

names-words : (slots : Slots) (xs : List Listed) → all_words name_words 2 slots xs ≡ names_of xs
unfolding all_words names_of
names-words slots [] = refl
names-words slots (x ∷ xs) = ap (λ (r : List ℕ). x.place ∷ x.length ∷ r) (names-words slots xs)

-- a whole list in its slots is one run of stores
module _ (slots : Slots) (xs : List Listed) where
  module _ (t : slots.reversed ≡ false) where
    pub values-forwards : (values : List ℤ) → store_values slots 0 xs values ≡ sets values 0 (values_of xs)
    values-forwards values =
        store-forwards value_words 1 slots (λ x. refl) 0 xs values t ∙ ap (λ (r : List ℤ). sets values 0 r) (values-words slots xs)

    pub names-forwards : (names : List ℕ) → store_names slots 0 xs names ≡ sets names 0 (names_of xs)
    names-forwards names =
        store-forwards name_words 2 slots (λ x. refl) 0 xs names t ∙ ap (λ (r : List ℕ). sets names 0 r) (names-words slots xs)

  module _ (t : slots.reversed ≡ true) (h : slots.total ≡ length xs) where
    pub values-backwards : (values : List ℤ) → store_values slots 0 xs values ≡ sets values 0 (values_of (reversed xs))
    values-backwards values =
        store-backwards value_words 1 slots (λ x. refl) 0 xs values t (omega arith) ∙ ap (λ (r : List ℤ). sets values 0 r) (values-words slots (reversed xs))

    pub names-backwards : (names : List ℕ) → store_names slots 0 xs names ≡ sets names 0 (names_of (reversed xs))
    names-backwards names =
        store-backwards name_words 2 slots (λ x. refl) 0 xs names t (omega arith) ∙ ap (λ (r : List ℕ). sets names 0 r) (names-words slots (reversed xs))

-- ---- the loop over a list: what is left comes to the whole

pub before-none : (l : Said (List Listed)) → elements_before [] l ≡ l
unfolding elements_before ◌>>=◌
before-none (gives ys) = refl
before-none (refuses number place counts) = refl

pub before-before : (xs ys : List Listed) (l : Said (List Listed)) → elements_before (xs ++ ys) l ≡ elements_before xs (elements_before ys l)
unfolding elements_before ◌>>=◌
before-before xs ys (gives zs) = ap gives (append_assoc xs ys zs)
before-before xs ys (refuses number place counts) = refl

-- a value is the same at any place
pub placed-given : {A : Type 0} (key : ℕ) (d : Said A) {x : A} → placed key d ≡ gives x → d ≡ gives x
unfolding placed
placed-given key (gives y) p = p
placed-given key (refuses number place counts) p = absurd (given-refused (sym p))

module _ (width : ℕ) (e : Endian) (base : ℕ) (block : List ℕ) where
  abbrev pub from : ℕ → ℕ → Said (List Listed)
  from turns at = elements_from width e base block turns at

  pub from-turn : (turns at : ℕ) → at < length block → from (suc turns) at ≡ element_then base (λ k. from turns k) (element_at width e block at)
  unfolding elements_from
  from-turn turns at h = rw (lt-ltb at (length block) h, elements_from)

  pub from_end : (turns at : ℕ) → length block ≤ at → from turns at ≡ gives []
  unfolding elements_from
  from_end zero at h = refl
  from_end (suc turns) at h = rw (le-ltb at (length block) h, elements_from)

  -- an element has at least a byte
  abbrev Few : ℕ → Said (List Listed) → Type 0
  Few n l = Of (λ xs. length xs ≤ n) l

  then-few : (n : ℕ) (x : Listed) (l : Said (List Listed)) → Few n l → Few (suc n) (elements_before (x ∷ []) l)
  unfolding elements_before ◌>>=◌
  then-few n x (gives xs) h = omega arith
  then-few n x (refuses number place counts) h = tt

  more-few : (n : ℕ) (l : Said (List Listed)) → Few n l → Few (suc n) l
  more-few n (gives xs) h = omega arith
  more-few n (refuses number place counts) h = tt

  element-few : (n : ℕ) (next : ℕ → Said (List Listed)) (x : Option Element) → ((k : ℕ) → Few n (next k)) → Few (suc n) (element_then base next x)
  unfolding element_then elements_before
  element-few n next (Some (element.Is v place len k)) h = then-few n (listed_as v (base + place) len) (next k) (h k)
  element-few n next (Some (element.Name k)) h = more-few n (next k) (h k)
  element-few n next None h = tt

  from-few : (turns at : ℕ) → Few turns (from turns at)
  unfolding elements_from
  from-few zero at = omega arith
  from-few (suc turns) at =
      elim (dec_le (length block) at) [
        | yes h ↦ subst (Few (suc turns)) (sym (from_end (suc turns) at h)) (omega arith)
        | no h ↦
            subst (Few (suc turns)) (sym (from-turn turns at (lt_of_not-le h)))
            (element-few turns (λ k. from turns k) (element_at width e block at) (λ k. from-few turns k))
      ]

  pub elements-few : {xs : List Listed} → elements_in width e base block ≡ gives xs → length xs ≤ length block
  unfolding elements_in
  elements-few p = subst (Few (length block)) p (from-few (length block) 0)

  module _ (slots : Slots) (k : ℕ) where
    -- xs were read and stored
    pub record Loop (values₀ values : List ℤ) (names₀ names : List ℕ) (at count : ℕ) : Type 0 where
      pub turns : ℕ
      pub xs : List Listed
      pub inside : at ≤ length block
      pub fuel : length block ≤ at + turns
      pub total : count ≡ k + length xs
      pub few : length xs ≤ at
      pub values_are : values ≡ store_values slots k xs values₀
      pub names_are : names ≡ store_names slots k xs names₀
      pub rest : elements_before xs (elements_from width e base block turns at) ≡ elements_in width e base block

    pub loop-begin : (values : List ℤ) (names : List ℕ) → Loop values values names names 0 k
    unfolding elements_in store_all
    loop-begin values names =
        record {
          turns = length block;
          xs = [];
          inside = omega arith;
          fuel = omega arith;
          total = omega arith;
          few = omega arith;
          values_are = refl;
          names_are = refl;
          rest = before-none (from (length block) 0);
        }

    module _ {values₀ values : List ℤ} {names₀ names : List ℕ} {at count : ℕ} (w : Loop values₀ values names₀ names at count) where
      pub loop-done : (key : ℕ) → length block ≤ at → StoredFrom (placed key (elements_in width e base block)) slots k (Ok count) values₀ values names₀ names
      unfolding said count_from elements_before placed ◌>>=◌
      loop-done key h =
          let all : elements_in width e base block ≡ gives w.xs =
          sym w.rest ∙ ap (elements_before w.xs) (from_end w.turns at h) ∙ ap gives (append-nil w.xs)
          in
          record {
            answer_is = ap gives w.total ∙ ap (λ (l : Said (List Listed)). count_from k (placed key l)) (sym all);
            values_are = λ ys p. w.values_are ∙ ap (λ (zs : List Listed). store_values slots k zs values₀) (given_is (sym all ∙ placed-given key (elements_in width e base block) p));
            names_are = λ ys p. w.names_are ∙ ap (λ (zs : List Listed). store_names slots k zs names₀) (given_is (sym all ∙ placed-given key (elements_in width e base block) p));
          }

      module _ (inside : at < length block) {told : Option Element} (is : told ≡ element_at width e block at) where
        ahead : Ahead block at told
        ahead = subst (Ahead block at) (sym is) (element-ahead width e block at)

        turn : elements_before w.xs (element_then base (λ n. from (w.turns - 1) n) told) ≡ elements_in width e base block
        turn =
            let fuel : length block ≤ at + w.turns = w.fuel in
            let one : suc (w.turns - 1) ≡ w.turns = omega arith in
            ap (λ (x : Option Element). elements_before w.xs (element_then base (λ n. from (w.turns - 1) n) x)) is
            ∙ ap (elements_before w.xs) (sym (from-turn (w.turns - 1) at inside) ∙ ap (λ (n : ℕ). from n at) one) ∙ w.rest

        pub loop-missing : (key : ℕ) → told ≡ None → {z : Result ℕ Refusal} {why : Refusal} → said z ≡ refusal why → why ≡ refused_at key reason.Block
            → StoredFrom (placed key (elements_in width e base block)) slots k z values₀ values names₀ names
        unfolding said count_from elements_before element_then placed ◌>>=◌
        loop-missing key p {z} {why} out q =
            let all : refuse reason.Block 0 ≡ elements_in width e base block =
            ap (λ (x : Option Element). elements_before w.xs (element_then base (λ n. from (w.turns - 1) n) x)) (sym p) ∙ turn
            in
            record {
              answer_is = out ∙ ap refusal q ∙ ap (λ (l : Said (List Listed)). count_from k (placed key l)) all;
              values_are = λ ys r. absurd (given-refused (sym (all ∙ placed-given key (elements_in width e base block) r)));
              names_are = λ ys r. absurd (given-refused (sym (all ∙ placed-given key (elements_in width e base block) r)));
            }

        module _ {next : ℕ} (p : told ≡ Some (element.Name next)) where
          pub name-less : length block - next < length block - at
          name-less = let facts : (at < next) × (next ≤ length block) = subst (Ahead block at) p ahead in omega (arith, facts.0, facts.1)

          pub name-again : Loop values₀ values names₀ names next count
          unfolding element_then
          name-again =
              let facts : (at < next) × (next ≤ length block) = subst (Ahead block at) p ahead in
              let forward : at < next = facts.0 in
              let fuel : length block ≤ at + w.turns = w.fuel in
              let few' : length w.xs ≤ at = w.few in
              record {
                turns = w.turns - 1;
                xs = w.xs;
                inside = facts.1;
                fuel = omega arith;
                total = w.total;
                few = omega arith;
                values_are = w.values_are;
                names_are = w.names_are;
                rest = ap (λ (x : Option Element). elements_before w.xs (element_then base (λ n. from (w.turns - 1) n) x)) (sym p) ∙ turn;
              }

        module _ {value : ℤ} {place len next : ℕ} (p : told ≡ Some (element.Is value place len next)) where
          facts : (place < length block) × (at < next) × (next ≤ length block)
          facts = subst (Ahead block at) p ahead

          pub element-less : length block - next < length block - at
          element-less = omega (arith, facts.1, facts.2)

          pub element_place : place < length block
          element_place = facts.0

          pub element-again : {slot : ℕ} {values' : List ℤ} {names' : List ℕ} {v : ℤ} → slot ≡ slot_of slots count → v ≡ value
              → ElementsStored slot (listed_as v (base + place) len) values values' names names' → Loop values₀ values' names₀ names' next (count + 1)
          unfolding element_then elements_before
          element-again {slot} at_slot same stored =
              let x : Listed = listed_as value (base + place) len in
              let forward : at < next = facts.1 in
              let fuel : length block ≤ at + w.turns = w.fuel in
              let few' : length w.xs ≤ at = w.few in
              let total' : count ≡ k + length w.xs = w.total in
              let long : length (w.xs ++ (x ∷ [])) ≡ length w.xs + 1 = length-append w.xs (x ∷ []) in
              let slot' : slot ≡ slot_of slots (k + length w.xs) = at_slot ∙ ap (slot_of slots) total' in
              record {
                turns = w.turns - 1;
                xs = w.xs ++ (x ∷ []);
                inside = facts.2;
                fuel = omega arith;
                total = omega arith;
                few = omega arith;
                values_are =
                    stored.values_are ∙ ap (λ (z : ℤ). set values (slot * 1) z) same ∙ ap (λ (n : ℕ). sets values (n * 1) (value_words x)) slot'
                    ∙ ap (λ (t : List ℤ). sets t (slot_of slots (k + length w.xs) * 1) (value_words x)) w.values_are
                    ∙ sym (store-one value_words 1 slots (k + length w.xs) x (store_values slots k w.xs values₀))
                    ∙ sym (store-append value_words 1 slots k w.xs (x ∷ []) values₀);
                names_are =
                    stored.names_are ∙ ap (λ (n : ℕ). sets names (n * 2) (name_words x)) slot'
                    ∙ ap (λ (t : List ℕ). sets t (slot_of slots (k + length w.xs) * 2) (name_words x)) w.names_are
                    ∙ sym (store-one name_words 2 slots (k + length w.xs) x (store_names slots k w.xs names₀))
                    ∙ sym (store-append name_words 2 slots k w.xs (x ∷ []) names₀);
                rest =
                    before-before w.xs (x ∷ []) (from (w.turns - 1) next)
                    ∙ ap (λ (y : Option Element). elements_before w.xs (element_then base (λ n. from (w.turns - 1) n) y)) (sym p) ∙ turn;
              }
