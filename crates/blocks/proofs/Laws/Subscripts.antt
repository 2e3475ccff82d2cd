-- What follows from `Subscripts`, for each way that the code comes to an answer: the dimension that is stored, and what a walk has still to read.
use Rattle.std.specs.Prelude.{IsErrAnd}
use Rattle.std.proofs.lemmas.Result.{err_from_is_err_and}
use Rattle.std.proofs.Common.{Option, Some, None, Result, Ok, Err, ◌≡◌, ℕ, zero, suc, ◌+◌, ◌-◌, ◌*◌, ◌/◌, ◌<◌, ◌≤◌, true, false, eqb, leb, List, [], ◌∷◌, ◌++◌, length, take, drop, sym, refl, ap, ◌∙◌, subst, append_assoc, append-nil, le_refl, arith, length-append, length-drop, take_all, eq-eqb, ne_eqb, eqb-true, le-leb}
use lib.Seq.{sets, length-sets}
use borrow.Author.Tests.{lt-leb}
use Rattle.std.proofs.lemmas.Bool.{eqb-false}
use Rattle.lent.specs.Outcome.{Outcome, Given}
use Rattle.lent.proofs.Laws.Stores.{sets-append}
use Rattle.numbers.specs.declared.Endian.{Endian}
use Rattle.format.specs.declared.refusal.Refusal.{Refusal}
use Rattle.format.specs.declared.refusal.Unfilled.{Unfilled}
use Rattle.format.specs.declared.refusal.Unfilled.TheVariants.{Refused, Room}
use Rattle.format.specs.Said.{Said, gives, refuses, refusal, said, said_counted, ◌>>=◌, in_room, fills_room}
use Rattle.format.proofs.Laws.Said.{case-said, given_is, given-refused, fills, wants, refused-room}
use Rattle.blocks.specs.Subscript.{Part, dimension, element, said_subscript, next_subscript}
use Rattle.blocks.proofs.Laws.Subscript.{used-inside, element-modifiers}
use Rattle.blocks.specs.Subscripts.{dimension_words, Dimensions, element_or, at_end, before, raised, step, subscripts_from, whole_block, count_subscripts, process_array_subscript_data}
use Rattle.blocks.specs.Inside.Subscripts.{Stored, Walked}
use Rattle.blocks.specs.declared.types.Type.{«Type»}
use Rattle.blocks.specs.declared.subscript.Subscript.{Subscript}
use Rattle.blocks.specs.declared.subscript.Subscript.TheVariants as subscript
use Rattle.blocks.specs.declared.subscripts.Array.{Array}

-- ---- a turn of the walk

module _ (e : Endian) (el : Option «Type») (n at : ℕ) (rest : List ℕ) where
  -- at the end nothing is read
  pub at-end : (turns : ℕ) → length rest ≡ 0 → subscripts_from e turns el n at rest ≡ at_end el n
  unfolding subscripts_from
  at-end zero h = refl
  at-end (suc turns) h = rw (eq-eqb (length rest) 0 h, subscripts_from)

  -- before it, one subscript and then the rest
  pub one-turn : (turns : ℕ) → 0 < length rest → length rest ≤ turns → subscripts_from e turns el n at rest
      ≡ (next_subscript e rest >>= step (λ el' n' used. subscripts_from e (turns - 1) el' n' (at + used) (drop used rest)) el n at)
  unfolding subscripts_from
  one-turn zero h k = absurd (omega arith)
  one-turn (suc turns) h k =
      let test : eqb (length rest) 0 ≡ false = ne_eqb (length rest) 0 (λ z. omega arith) in
      let place : suc turns - 1 ≡ turns = omega arith in
      rw (test, place, subscripts_from)

-- words before words before those of the rest
before-before : (first second : List ℕ) (d : Said Dimensions) → before first (before second d) ≡ before (first ++ second) d
unfolding before ◌>>=◌
before-before first second (gives d) = ap (λ (w : List ℕ). gives (record { array = d.array; words = w })) (sym (append_assoc first second d.words))
before-before first second (refuses number place counts) = refl

before-none : (d : Said Dimensions) → before [] d ≡ d
unfolding before ◌>>=◌
before-none (gives d) = refl
before-none (refuses number place counts) = refl

-- a dimension has two words
two-more : (done : List ℕ) (index size n : ℕ) → length done ≡ n * 2 → length (done ++ dimension_words index size) ≡ (n + 1) * 2
unfolding dimension_words
two-more done index size n h =
    let both : length (done ++ dimension_words index size) ≡ length done + 2 = length-append done (dimension_words index size) in
    omega (arith, both, h)

-- what is left comes to the whole: the words that are in the room, before those of the rest
pub record Left (e : Endian) (block room₀ rest : List ℕ) (n : ℕ) (el : Option «Type») (room : List ℕ) : Type 0 where
  pub turns : ℕ
  pub done : List ℕ
  pub enough : length rest ≤ turns
  pub few : n + length rest ≤ length block
  pub kept : length room ≡ length room₀
  pub many : length done ≡ n * 2
  pub stored : room ≡ sets room₀ 0 done
  pub whole : whole_block e block ≡ before done (subscripts_from e turns el n (length block - length rest) rest)

pub begin : (e : Endian) (block room : List ℕ) → Left e block room block 0 None room
unfolding whole_block
begin e block room =
    let first : 0 ≡ length block - length block = omega arith in
    record {
      turns = length block;
      done = [];
      enough = le_refl (length block);
      few = omega arith;
      kept = refl;
      many = refl;
      stored = refl;
      whole =
          sym (before-none (subscripts_from e (length block) None 0 0 block))
          ∙ ap (λ (at : ℕ). before [] (subscripts_from e (length block) None 0 at block)) first;
    }

-- the words of an array are those done
stored-end : (done : List ℕ) (el : Option «Type») (n : ℕ) (room₀ : List ℕ) {room : List ℕ} → room ≡ sets room₀ 0 done
    → Stored (before done (at_end el n)) room₀ room
unfolding before at_end element_or ◌>>=◌
stored-end done (Some t) n room₀ h = h ∙ ap (sets room₀ 0) (sym (append-nil done))
stored-end done None n room₀ h = tt

counted-end : (done : List ℕ) (el : Option «Type») (n : ℕ) → element_or n el ≡ (before done (at_end el n) >>= (λ d. gives d.array))
unfolding before at_end element_or ◌>>=◌
counted-end done (Some t) n = refl
counted-end done None n = refl

module _ {e : Endian} {block room₀ rest : List ℕ} {n : ℕ} {el : Option «Type»} {room : List ℕ} (l : Left e block room₀ rest n el room) where
  -- where the rest begins
  abbrev place : ℕ
  place = length block - length rest

  -- the rest decides
  walked : {d : Said Dimensions} {r : Result Array Refusal} → subscripts_from e l.turns el n place rest ≡ d
      → said r ≡ (before l.done d >>= (λ d'. gives d'.array)) → Stored (before l.done d) room₀ room → Walked e block r room₀ room
  unfolding count_subscripts
  walked {d} p answer left =
      let all : before l.done d ≡ whole_block e block = ap (before l.done) (sym p) ∙ sym l.whole in
      record {
        answer_is = answer ∙ ap (λ (w : Said Dimensions). w >>= (λ d'. gives d'.array)) all;
        room_is = subst (λ (w : Said Dimensions). Stored w room₀ room) all left;
      }

  pub walk-done : {r : Result Array Refusal} → true ≡ eqb (length rest) 0 → said r ≡ element_or n el → Walked e block r room₀ room
  walk-done h p =
      walked (at-end e el n place rest l.turns (eqb-true (length rest) 0 (sym h))) (p ∙ counted-end l.done el n) (stored-end l.done el n room₀ l.stored)

  -- the rest as a part that is handed on
  abbrev after : ℕ → List ℕ
  after used = take (length rest - used) (drop used rest)

  is-after : (used : ℕ) → drop used rest ≡ after used
  is-after used = sym (take_all (length rest - used) (drop used rest) (omega (arith, length-drop used rest)))

  abbrev goes_on : Option «Type» → ℕ → ℕ → Said Dimensions
  goes_on el' n' used = subscripts_from e (l.turns - 1) el' n' (place + used) (drop used rest)

  -- and where what is left of it then begins
  next_place : {used : ℕ} → used ≤ length rest → place + used ≡ length block - length (drop used rest)
  next_place {used} h = omega (arith, l.few, length-drop used rest)

  -- there it goes on
  goes-on-at : (el' : Option «Type») (n' : ℕ) {used : ℕ} → used ≤ length rest
      → goes_on el' n' used ≡ subscripts_from e (l.turns - 1) el' n' (length block - length (drop used rest)) (drop used rest)
  goes-on-at el' n' {used} h = ap (λ (at : ℕ). subscripts_from e (l.turns - 1) el' n' at (drop used rest)) (next_place h)

  shorter : {used : ℕ} → (1 ≤ used) × (used ≤ length rest) → length (drop used rest) < length rest
  shorter {used} h = omega (arith, h.0, h.1, length-drop used rest)

  less : {used : ℕ} → (1 ≤ used) × (used ≤ length rest) → length (after used) < length rest
  less {used} h = subst (λ (u : List ℕ). length u < length rest) (is-after used) (shorter h)

  module _ (more : false ≡ eqb (length rest) 0) where
    turned : {d : Said Part} → d ≡ next_subscript e rest → subscripts_from e l.turns el n place rest ≡ (d >>= step goes_on el n place)
    turned is =
        let some : length rest ≡ 0 → ⊥ = eqb-false (length rest) 0 (sym more) in
        one-turn e el n place rest l.turns (omega (arith, some)) l.enough ∙ ap (λ (d : Said Part). d >>= step goes_on el n place) (sym is)

    pub walk_refused : (why : Refusal) (z : Result Array Refusal) → said_subscript (Err why) ≡ next_subscript e rest → IsErrAnd z (λ x. x ≡ why)
        → Walked e block z room₀ room
    unfolding said_subscript said before ◌>>=◌
    walk_refused why z is exits =
        let turn : subscripts_from e l.turns el n place rest ≡ refusal why = turned is in
        let left = err_from_is_err_and z exits in
        walked {r = z} turn (ap said left.1 ∙ ap refusal left.2) tt

    module _ {x : Subscript} (is : said_subscript (Ok x) ≡ next_subscript e rest) where
      one-dimension : {index size used : ℕ} → x ≡ subscript.Dimension index size used → gives (dimension index size used) ≡ next_subscript e rest
      unfolding said_subscript
      one-dimension p = ap (λ (y : Subscript). said_subscript (Ok y)) (sym p) ∙ is

      one_element : {t : «Type»} {used : ℕ} → x ≡ subscript.Element t used → gives (element t used) ≡ next_subscript e rest
      unfolding said_subscript
      one_element p = ap (λ (y : Subscript). said_subscript (Ok y)) (sym p) ∙ is

      dimension-used : {index size used : ℕ} → x ≡ subscript.Dimension index size used → (1 ≤ used) × (used ≤ length rest)
      dimension-used p = used-inside e rest (sym (one-dimension p))

      element-used : {t : «Type»} {used : ℕ} → x ≡ subscript.Element t used → (1 ≤ used) × (used ≤ length rest)
      element-used p = used-inside e rest (sym (one_element p))

      -- its modifiers, raised, are inside the block
      pub element_place : {t : «Type»} {used : ℕ} → x ≡ subscript.Element t used → place + t.place ≤ length block
      element_place p = omega (arith, element-modifiers e rest (sym (one_element p)), l.few)

      pub dimension-inside : {index size used : ℕ} → x ≡ subscript.Dimension index size used → used ≤ length rest
      dimension-inside p = (dimension-used p).1

      pub element-inside : {t : «Type»} {used : ℕ} → x ≡ subscript.Element t used → used ≤ length rest
      element-inside p = (element-used p).1

      pub dimension-less : {index size used : ℕ} → x ≡ subscript.Dimension index size used → length (after used) < length rest
      dimension-less p = less (dimension-used p)

      pub element-less : {t : «Type»} {used : ℕ} → x ≡ subscript.Element t used → length (after used) < length rest
      element-less p = less (element-used p)

      pub again-dimension : {index size used : ℕ} {room' : List ℕ} → x ≡ subscript.Dimension index size used
          → room' ≡ sets room (n * 2) (dimension_words index size) → Left e block room₀ (after used) (n + 1) el room'
      unfolding step ◌>>=◌
      again-dimension {index} {size} {used} {room'} p q =
          let fewer : length (drop used rest) < length rest = shorter (dimension-used p) in
          let words : List ℕ = dimension_words index size in
          let turn : subscripts_from e l.turns el n place rest ≡ before words (goes_on el (suc n) used) = turned (one-dimension p) in
          let next : suc n ≡ n + 1 = omega arith in
          let place : n * 2 ≡ 0 + length l.done = omega (arith, l.many) in
          subst (λ (u : List ℕ). Left e block room₀ u (n + 1) el room') (is-after used)
          (record {
            turns = l.turns - 1;
            done = l.done ++ words;
            enough = omega (arith, l.enough);
            few = omega (arith, l.few);
            kept = ap length q ∙ length-sets room (n * 2) words ∙ l.kept;
            many = two-more l.done index size n l.many;
            stored =
                q ∙ ap (λ (u : List ℕ). sets u (n * 2) words) l.stored ∙ ap (λ (k : ℕ). sets (sets room₀ 0 l.done) k words) place
                ∙ sym (sets-append room₀ 0 l.done words);
            whole =
                l.whole ∙ ap (before l.done) turn ∙ before-before l.done words (goes_on el (suc n) used)
                ∙ ap (λ (k : ℕ). before (l.done ++ words) (goes_on el k used)) next
                ∙ ap (before (l.done ++ words)) (goes-on-at el (n + 1) (dimension-used p).1);
          })

      pub again-element : {t t' : «Type»} {used : ℕ} → x ≡ subscript.Element t used → t' ≡ raised place t
          → Left e block room₀ (after used) n (Some t') room
      unfolding step ◌>>=◌
      again-element {t} {t'} {used} p q =
          let fewer : length (drop used rest) < length rest = shorter (element-used p) in
          let turn : subscripts_from e l.turns el n place rest ≡ goes_on (Some (raised place t)) n used = turned (one_element p) in
          subst (λ (u : List ℕ). Left e block room₀ u n (Some t') room) (is-after used)
          (record {
            turns = l.turns - 1;
            done = l.done;
            enough = omega (arith, l.enough);
            few = omega (arith, l.few);
            kept = l.kept;
            many = l.many;
            stored = l.stored;
            whole =
                l.whole
                ∙ ap (before l.done)
                (turn ∙ ap (λ (y : «Type»). goes_on (Some y) n used) (sym q) ∙ goes-on-at (Some t') n (element-used p).1);
          })

-- ---- into lent room

module _ (room : List ℕ) where
  -- what is done with the room
  abbrev pub into_room : Dimensions → Outcome (Said Array) ℕ
  into_room d = fills_room (leb d.array.dimensions (length room / 2)) d.array (d.array.dimensions ∷ []) d.words room

  -- where an array is counted, there are words for it
  array-in : {a : Array} {z : Said Array} {room' : List ℕ} (d : Said Dimensions) → gives a ≡ (d >>= (λ d'. gives d'.array))
      → ((words : List ℕ) → d ≡ gives (record { array = a; words = words }) → Given (into_room (record { array = a; words = words })) z room')
      → Given (in_room room d into_room) z room'
  unfolding in_room ◌>>=◌
  array-in {a} {z} {room'} (gives d) p h =
      let same : a ≡ d.array = given_is p in
      subst (λ (x : Array). Given (into_room (record { array = x; words = d.words })) z room') same
      (h d.words (ap (λ (x : Array). gives (record { array = x; words = d.words })) (sym same)))
  array-in (refuses number at counts) p h = absurd (given-refused p)

  -- where the count is refused, so is all
  refused-in : (why : Refusal) (d : Said Dimensions) {z : Said Array} → refusal why ≡ (d >>= (λ d'. gives d'.array)) → z ≡ refusal why
      → Given (in_room room d into_room) z room
  unfolding in_room ◌>>=◌
  refused-in why (gives d) p q = absurd (given-refused (sym p))
  refused-in why (refuses number at counts) p q = record { answer_is = q ∙ p; room_is = refl }

module _ (e : Endian) (block room : List ℕ) {told : Result Array Refusal} (is : said told ≡ count_subscripts e block) where
  pub all_read : {a : Array} {r : Result Array Refusal} {room' : List ℕ} → told ≡ Ok a → a.dimensions ≤ length room / 2 → Walked e block r room room'
      → Given (process_array_subscript_data e block room) (said_counted (Ok a)) room'
  unfolding process_array_subscript_data count_subscripts said said_counted
  all_read {a} {room' = room'} p h w =
      array-in room (whole_block e block) (case-said said is p)
      (λ words q. fills _ _ words room (le-leb a.dimensions (length room / 2) h) refl (subst (λ (d : Said Dimensions). Stored d room room') q w.room_is))

  pub no_room : {a : Array} → told ≡ Ok a → length room / 2 < a.dimensions
      → Given (process_array_subscript_data e block room) (said_counted (Err (Room a.dimensions))) room
  unfolding process_array_subscript_data count_subscripts said said_counted
  no_room {a} p h =
      array-in room (whole_block e block) (case-said said is p) (λ words q. wants _ _ words room (lt-leb a.dimensions (length room / 2) h) refl refl)

  pub read-refused : {why : Refusal} (z : Result Array (Unfilled ℕ)) → told ≡ Err why → IsErrAnd z (λ x. x ≡ Refused why)
      → Given (process_array_subscript_data e block room) (said_counted z) room
  unfolding process_array_subscript_data count_subscripts said
  read-refused {why} z p exits = refused-in room why (whole_block e block) (case-said said is p) (refused-room is p z exits)
