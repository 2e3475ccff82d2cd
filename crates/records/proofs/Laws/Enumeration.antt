-- What follows from `Enumeration`, for each way that the code comes to an answer.
use Rattle.std.specs.Prelude.{Option, Result, Ok, Err}
use Rattle.format.specs.Said.{said, said_counted}
use Prim.Native.Nat.{ℕ, zero, suc, ◌+◌, ◌-◌, ◌*◌, ◌^◌, ◌/◌, ◌≤◌, ◌<◌}
use native.Mathlib.Nat.{sub-zero}
use native.Mathlib.Omega.{arith}
use mathlib.Core.Path.{◌≡◌, refl, sym, ap, ◌∙◌, subst}
use mathlib.Core.Bool.{Bool, true, false, cond, ◌&&◌}
use mathlib.Core.List.{List, [], ◌∷◌, ◌++◌, append-nil}
use lib.ListN.{length, take, drop, length-drop, length-append}
use lib.Seq.{length-take-le, sets}
use lib.Dec.{leb}
use borrow.Author.Tests.{le-leb, lt-leb}
use lib.IntN.{ℤ}
use Rattle.tables.specs.Table.{table, lent_rows}
use Rattle.lent.specs.Outcome.{Outcomes, BothGiven}
use Rattle.numbers.proofs.Laws.Tests.{cond-all}
use Rattle.numbers.specs.Value.{value_of, there}
use Rattle.numbers.proofs.Laws.Value.{there-inside, read_all}
use Rattle.numbers.specs.declared.Endian.{Endian}
use Rattle.format.specs.AttributeKind as attribute
use Rattle.format.specs.Limits.{section_limit}
use Rattle.format.specs.Refusal.{number_of}
use Rattle.format.specs.Said.{Said, gives, refuses, refusal, ◌>>=◌, ◌>>◌, placed, in_rooms, fills_rooms}
use Rattle.format.proofs.Laws.Said.{case-said, goes-past, goes-in-both, Of, given_is, given-refused}
use Rattle.format.specs.declared.settings.Settings.{Settings}
use Rattle.format.specs.declared.settings.Producer.{Producer}
use Rattle.format.specs.declared.refusal.Refusal.{Refusal}
use Rattle.format.specs.declared.refusal.Unfilled.TheVariants.{Room}
use Rattle.attributes.specs.Parts.{part_at, block_at}
use Rattle.tables.specs.Row.{attr_at}
use Rattle.tables.specs.declared.row.Attr.{Attr}
use Rattle.tables.specs.declared.row.Counts.{Counts}
use Rattle.links.specs.Links.{child_walk}
use Rattle.tables.specs.Keyed.{row_of}
use Rattle.tables.proofs.Laws.Keyed.{keyed-short}
use Rattle.links.proofs.Laws.Typed.{keyed-asked}
use Rattle.records.specs.Taken.{special}
use Rattle.records.specs.Scan.{run_of, attribute_at, attribute_fault, number_at, fault_at}
use Rattle.records.specs.Inside.Scan.{scan_from}
use Rattle.records.proofs.Laws.Scan.{Before, Stopped, FaultMet, scan-stop, scan-refused}
use Rattle.records.specs.Fields.{name_of, word_of, needed}
use Rattle.records.specs.Front.{kind_fault, childless_fault}
use Rattle.records.specs.Elements.{Listed, list_width, elements_in, values_of, names_of}
use Rattle.records.specs.Inside.Elements.{value_words, name_words, store_all, Addable, elements_before, count_from, store_values, store_names, StoredFrom}
use Rattle.records.proofs.Laws.Elements.{width_few, before-none, before-before, placed-given, elements-few, store-append, values-forwards, names-forwards, values-backwards, names-backwards}
use Rattle.records.specs.Enumeration.{size_before, list_at, lists_from, enumeration_sized, row_lists, enumeration_at, is_gcc, reversed, in_order, enumeration_into}
use Rattle.records.specs.Inside.Enumeration.{Countable, AskedShort, one_list, enumeration_end, EnumerationStored}
use Rattle.records.specs.declared.taken.Record.TheVariants as record'
use Rattle.records.specs.declared.scan.Run.{Run}
use Rattle.records.specs.declared.scan.Attribute.{Attribute}
use Rattle.records.specs.declared.fields.Text.{Text}
use Rattle.records.specs.declared.elements.Slots.{Slots}
use Rattle.records.specs.declared.enumeration.Enumeration.{Enumeration}

-- ---- one list

part-short : (s : List ℕ) (from n : ℕ) → length (part_at s from n) ≤ length s
unfolding part_at
part-short s from n =
    cond-all (λ b. length b ≤ length s) (there s from n) {x = take n (drop from s)} {y = []}
    (λ t.
    let room : from + n ≤ length s = there-inside s from n t in
    let left : length (drop from s) ≡ length s - from = length-drop from s in
    let all : length (take n (drop from s)) ≡ n = length-take-le n (drop from s) (omega arith) in
    omega arith)
    (λ t. omega arith)

-- a block is a part of the section
block-short : (e : Endian) (w : ℕ) (s : List ℕ) (at : ℕ) → length (block_at e w s at) ≤ length s
unfolding block_at
block-short e w s at =
    read_all (λ n. part_at s (at + w) n) [] e w s at (λ b. length b ≤ length s) (λ t. part-short s (at + w) (value_of e w s at)) (λ t. omega arith)

-- what was counted was listed

counted-listed : (k : ℕ) (lists : Said (List Listed)) {more : ℕ} → gives more ≡ count_from k lists → (xs : List Listed) × (lists ≡ gives xs) × (more ≡ k + length xs)
unfolding count_from ◌>>=◌
counted-listed k (gives xs) p = (xs, refl, given_is p)
counted-listed k (refuses number place counts) p = absurd (given-refused p)

counted-refused : (k : ℕ) (lists : Said (List Listed)) {number place : ℕ} {counts : List ℕ} → refuses number place counts ≡ count_from k lists
    → lists ≡ refuses number place counts
unfolding count_from ◌>>=◌
counted-refused k (gives xs) p = absurd (given-refused (sym p))
counted-refused k (refuses number' place' counts') {number} {place} {counts} p =
    let same : ◌≡◌ {A = Said ℕ} (refuses number place counts) (refuses number' place' counts') = p in cc

module _ {lists : Said (List Listed)} {slots : Slots} {k : ℕ} {r : Result ℕ Refusal} {values values' : List ℤ} {names names' : List ℕ}
    (stored : StoredFrom lists slots k r values values' names names') where
  told-listed : {more : ℕ} → r ≡ Ok more → (xs : List Listed) × (lists ≡ gives xs) × (more ≡ k + length xs)
  unfolding said
  told-listed p = counted-listed k lists (case-said said stored.answer_is p)

  told-refused : {why : Refusal} → r ≡ Err why → lists ≡ refusal why
  unfolding said
  told-refused p = counted-refused k lists (case-said said stored.answer_is p)

stored-as : {lists lists' : Said (List Listed)} (slots : Slots) (k : ℕ) (r : Result ℕ Refusal) {values values' : List ℤ} {names names' : List ℕ} → lists ≡ lists'
    → StoredFrom lists slots k r values values' names names' → StoredFrom lists' slots k r values values' names names'
stored-as slots k r {values} {values'} {names} {names'} p = subst (λ (l : Said (List Listed)). StoredFrom l slots k r values values' names names') p

stored_refused : {lists : Said (List Listed)} (slots : Slots) (k : ℕ) {number place : ℕ} {told : List ℕ} {z : Result ℕ Refusal} (values values' : List ℤ) (names names' : List ℕ)
    → said z ≡ refuses number place told → refuses number place told ≡ lists → StoredFrom lists slots k z values values' names names'
unfolding count_from ◌>>=◌
stored_refused slots k values values' names names' out p =
    record {
      answer_is = out ∙ ap (count_from k) p;
      values_are = λ xs q. absurd (given-refused (sym (p ∙ q)));
      names_are = λ xs q. absurd (given-refused (sym (p ∙ q)));
    }

module _ (s attrs : List ℕ) (run : Run) (j : ℕ) {size : Option ℕ} {width : ℕ} {attr : Attr} {block : List ℕ} (q : size ≡ size_before s attrs run j)
    (w : width ≡ list_width size) (r : attr ≡ attr_at attrs (run.first + j)) (b : block ≡ block_at run.ends.«data» 4 s attr.value) where
  pub list-is : placed run.key (elements_in width run.ends.section (attr.value + 4) block) ≡ list_at s attrs run j
  unfolding list_at attribute_at
  list-is =
      ap (λ (n : ℕ). placed run.key (elements_in n run.ends.section (attr.value + 4) block)) (w ∙ ap list_width q)
      ∙ ap (λ (x : List ℕ). placed run.key (elements_in (list_width (size_before s attrs run j)) run.ends.section (attr.value + 4) x)) b
      ∙ ap (λ (x : Attr). placed run.key (elements_in (list_width (size_before s attrs run j)) run.ends.section (x.value + 4) (block_at run.ends.«data» 4 s x.value))) r

  -- the count of elements stays small: fewer bytes in a block than the section's limit, and attributes are counted in 32 bits
  pub list-addable : (count : ℕ) → Countable s j count → j < 2 ^ 32 → attr.value < 2 ^ 32 → Addable (attr.value + 4) width block count
  list-addable count c few small =
      let short : length s < section_limit = c.short in
      let before : count ≤ j * section_limit = c.few in
      let inside : length block ≤ length s = subst (λ (x : List ℕ). length x ≤ length s) (sym b) (block-short run.ends.«data» 4 s attr.value) in
      let narrow : width ≤ 4 = subst (λ (n : ℕ). n ≤ 4) (sym w) (width_few size) in
      record { place_small = omega arith; width_small = omega arith; count_small = omega arith }

module _ (settings : Settings) (s attrs : List ℕ) (run : Run) (j : ℕ) {a : Attribute} (at : a ≡ attribute_at attrs (run.first + j)) where
  judged : {f : Said Unit} → f ≡ attribute_fault settings.roles record'.Enumeration run s a → f ≡ fault_at settings.roles record'.Enumeration run s attrs j
  unfolding fault_at
  judged is = is ∙ ap (attribute_fault settings.roles record'.Enumeration run s) at

  module _ {told : Result Unit Refusal} (is : said told ≡ attribute_fault settings.roles record'.Enumeration run s a) where
    pub list-refused : (slots : Slots) (count : ℕ) {why : Refusal} {z : Result ℕ Refusal} (values : List ℤ) (names : List ℕ) → told ≡ Err why
        → said z ≡ refusal why → StoredFrom (one_list settings s attrs run j) slots count z values values names names
    unfolding one_list said ◌>>◌
    list-refused slots count values names p out = stored_refused slots count values values names names out (goes-past said (judged is) p _ refl)

    pub list-clear : (slots : Slots) (count : ℕ) (c : Result ℕ Refusal) {lists : Said (List Listed)} {values values' : List ℤ} {names names' : List ℕ} → told ≡ Ok tt
        → lists ≡ list_at s attrs run j → StoredFrom lists slots count c values values' names names'
        → StoredFrom (one_list settings s attrs run j) slots count c values values' names names'
    unfolding one_list said ◌>>◌
    list-clear slots count c p h = stored-as slots count c (goes-past said (judged is) p _ h)

-- ---- up to and with the next list

-- those of one attribute, and of what follows
abbrev with_rest : Said (List Listed) → Said (List Listed) → Said (List Listed)
with_rest l rest = l >>= λ (xs : List Listed). elements_before xs rest

test-rest : (f : Said Unit) (l rest : Said (List Listed)) → (f >> with_rest l rest) ≡ with_rest (f >> l) rest
unfolding ◌>>=◌ ◌>>◌
test-rest (gives x) l rest = refl
test-rest (refuses number place counts) l rest = refl

module _ (settings : Settings) (s attrs : List ℕ) (run : Run) where
  -- the attributes from j on
  unfoldable pub rest : ℕ → Said (List Listed)
  rest j = lists_from settings s attrs run j (run.count - j)

  abbrev own : ℕ → Bool
  own j = special record'.Enumeration (number_at settings.roles record'.Enumeration run s attrs j)

  abbrev faulty : ℕ → Said Unit
  faulty j = fault_at settings.roles record'.Enumeration run s attrs j

  rest_end : (j : ℕ) → run.count ≤ j → rest j ≡ gives []
  unfolding rest lists_from
  rest_end j h = let none : run.count - j ≡ 0 = omega arith in ap (lists_from settings s attrs run j) none

  turn : (j m : ℕ) → own j ≡ false → faulty j ≡ gives tt → lists_from settings s attrs run j (suc m) ≡ lists_from settings s attrs run (suc j) m
  unfolding lists_from elements_before ◌>>=◌ ◌>>◌
  turn j m t p =
      let here : lists_from settings s attrs run j (suc m) ≡ elements_before [] (lists_from settings s attrs run (suc j) m) = rw (p, t, lists_from) in
      here ∙ before-none (lists_from settings s attrs run (suc j) m)

  over : (d j m : ℕ) → ((k : ℕ) → j ≤ k → k < j + d → own k ≡ false) → ((k : ℕ) → j ≤ k → k < j + d → faulty k ≡ gives tt)
      → lists_from settings s attrs run j (d + m) ≡ lists_from settings s attrs run (j + d) m
  over zero j m plain clear =
      let many : zero + m ≡ m = omega arith in
      let place : j ≡ j + zero = omega arith in
      ap (lists_from settings s attrs run j) many ∙ ap (λ (x : ℕ). lists_from settings s attrs run x m) place
  over (suc d) j m plain clear =
      let many : suc d + m ≡ suc (d + m) = omega arith in
      let place : suc j + d ≡ j + suc d = omega arith in
      ap (lists_from settings s attrs run j) many ∙ turn j (d + m) (plain j (omega arith) (omega arith)) (clear j (omega arith) (omega arith))
      ∙ over d (suc j) m (λ k a b. plain k (omega arith) (omega arith)) (λ k a b. clear k (omega arith) (omega arith))
      ∙ ap (λ (x : ℕ). lists_from settings s attrs run x m) place

  -- attributes that are no lists and have no fault are passed by
  rest-past : (j k : ℕ) → j ≤ k → k ≤ run.count → Before settings.roles record'.Enumeration run s attrs j k → rest j ≡ rest k
  unfolding rest
  rest-past j k from upto w =
      let many : run.count - j ≡ k - j + (run.count - k) = omega arith in
      let place : j + (k - j) ≡ k = omega arith in
      ap (lists_from settings s attrs run j) many
      ∙ over (k - j) j (run.count - k) (λ m a b. w.plain m a (omega arith)) (λ m a b. w.clear m a (omega arith))
      ∙ ap (λ (x : ℕ). lists_from settings s attrs run x (run.count - k)) place

  own_turn : (j m : ℕ) → own j ≡ true → lists_from settings s attrs run j (suc m) ≡ with_rest (one_list settings s attrs run j) (lists_from settings s attrs run (suc j) m)
  unfolding lists_from one_list elements_before
  own_turn j m t =
      let here : lists_from settings s attrs run j (suc m) ≡ (faulty j >> with_rest (list_at s attrs run j) (lists_from settings s attrs run (suc j) m)) = rw (t, lists_from) in
      here ∙ test-rest (faulty j) (list_at s attrs run j) (lists_from settings s attrs run (suc j) m)

  rest-own : (j : ℕ) → j < run.count → own j ≡ true → rest j ≡ with_rest (one_list settings s attrs run j) (rest (j + 1))
  unfolding rest
  rest-own j h t =
      let many : run.count - j ≡ suc (run.count - (j + 1)) = omega arith in
      let place : suc j ≡ j + 1 = omega arith in
      ap (lists_from settings s attrs run j) many ∙ own_turn j (run.count - (j + 1)) t
      ∙ ap (λ (x : ℕ). with_rest (one_list settings s attrs run j) (lists_from settings s attrs run x (run.count - (j + 1)))) place

  fault-turn : (j m : ℕ) {number place : ℕ} {counts : List ℕ} → faulty j ≡ refuses number place counts
      → lists_from settings s attrs run j (suc m) ≡ refuses number place counts
  unfolding lists_from ◌>>◌
  fault-turn j m p = rw (p, lists_from)

  rest-fault : (j : ℕ) {number place : ℕ} {counts : List ℕ} → j < run.count → faulty j ≡ refuses number place counts → rest j ≡ refuses number place counts
  unfolding rest
  rest-fault j h p =
      let many : run.count - j ≡ suc (run.count - (j + 1)) = omega arith in
      ap (lists_from settings s attrs run j) many ∙ fault-turn j (run.count - (j + 1)) p

  listed_here : (f : Said Unit) (l : Said (List Listed)) {xs : List Listed} → (f >> l) ≡ gives xs → l ≡ gives xs
  unfolding ◌>>◌
  listed_here (gives x) l p = p
  listed_here (refuses number place counts) l p = absurd (given-refused (sym p))

  list-few : (j : ℕ) {xs : List Listed} → one_list settings s attrs run j ≡ gives xs → length xs ≤ length s
  unfolding one_list list_at
  list-few j {xs} p =
      let few : length xs ≤ length (block_at run.ends.«data» 4 s (attribute_at attrs (run.first + j)).value) =
      elements-few _ _ _ _ (placed-given run.key _ (listed_here (faulty j) (list_at s attrs run j) p))
      in
      let inside : length (block_at run.ends.«data» 4 s (attribute_at attrs (run.first + j)).value) ≤ length s =
      block-short run.ends.«data» 4 s (attribute_at attrs (run.first + j)).value
      in
      omega arith

  -- ---- the loop over the attributes: what is left comes to the whole

  abbrev all_lists : Said (List Listed)
  all_lists = lists_from settings s attrs run 0 run.count

  -- xs were read and stored
  pub record ListsLoop (slots : Slots) (values₀ values : List ℤ) (names₀ names : List ℕ) (j count : ℕ) : Type 0 where
    pub xs : List Listed
    pub inside : j ≤ run.count
    pub few : count ≤ j * section_limit
    pub total : count ≡ length xs
    pub values_are : values ≡ store_values slots 0 xs values₀
    pub names_are : names ≡ store_names slots 0 xs names₀
    pub left : elements_before xs (rest j) ≡ lists_from settings s attrs run 0 run.count

  module _ (slots : Slots) where
    pub lists-begin : (values : List ℤ) (names : List ℕ) → ListsLoop slots values values names names 0 0
    unfolding rest store_all
    lists-begin values names =
        record {
          xs = [];
          inside = omega arith;
          few = omega arith;
          total = refl;
          values_are = refl;
          names_are = refl;
          left = before-none (lists_from settings s attrs run 0 (run.count - 0)) ∙ ap (lists_from settings s attrs run 0) (sub-zero run.count);
        }

    module _ {values₀ values : List ℤ} {names₀ names : List ℕ} {j count : ℕ} (w : ListsLoop slots values₀ values names₀ names j count) {told : Result ℕ Refusal}
        (is : said told ≡ scan_from settings.roles record'.Enumeration run s attrs j (run.count - j)) where
      module _ {at : ℕ} (p : told ≡ Ok at) where
        stop : Stopped settings.roles record'.Enumeration run s attrs j (run.count - j) at
        unfolding said
        stop = scan-stop settings.roles record'.Enumeration run s attrs (sym (case-said said is p))

        past : elements_before w.xs (rest at) ≡ all_lists
        past =
            let inside : j ≤ run.count = w.inside in
            let upto : at ≤ j + (run.count - j) = stop.upto in
            ap (elements_before w.xs) (sym (rest-past j at stop.from (omega arith) stop.before)) ∙ w.left

        -- no list is left
        pub lists-done : run.count ≤ at → StoredFrom (lists_from settings s attrs run 0 run.count) slots 0 (Ok count) values₀ values names₀ names
        unfolding said count_from elements_before ◌>>=◌
        lists-done h =
            let all : all_lists ≡ gives w.xs = sym past ∙ ap (elements_before w.xs) (rest_end at h) ∙ ap gives (append-nil w.xs) in
            let total : count ≡ 0 + length w.xs = omega (arith, w.total) in
            record {
              answer_is = ap gives total ∙ ap (count_from 0) (sym all);
              values_are = λ ys p. w.values_are ∙ ap (λ (zs : List Listed). store_values slots 0 zs values₀) (given_is (sym all ∙ p));
              names_are = λ ys p. w.names_are ∙ ap (λ (zs : List Listed). store_names slots 0 zs names₀) (given_is (sym all ∙ p));
            }

        pub lists-countable : length s < section_limit → at < run.count → Countable s at count
        lists-countable short h =
            let from : j ≤ at = stop.from in
            let few : count ≤ j * section_limit = w.few in
            record { short = short; few = omega arith }

        pub lists-less : at < run.count → run.count - (at + 1) < run.count - j
        lists-less h = let from : j ≤ at = stop.from in omega arith

        module _ (h : at < run.count) {r : Result ℕ Refusal} {values' : List ℤ} {names' : List ℕ}
            (stored : StoredFrom (one_list settings s attrs run at) slots count r values values' names names') where
          here : elements_before w.xs (with_rest (one_list settings s attrs run at) (rest (at + 1))) ≡ all_lists
          here =
              let inside : j ≤ run.count = w.inside in
              let from : j ≤ at = stop.from in
              ap (elements_before w.xs) (sym (rest-own at h (stop.own (omega arith)))) ∙ past

          pub lists-again : {more : ℕ} → length s < section_limit → r ≡ Ok more → ListsLoop slots values₀ values' names₀ names' (at + 1) more
          unfolding ◌>>=◌
          lists-again {more} short q =
              let found : (xs : List Listed) × (one_list settings s attrs run at ≡ gives xs) × (more ≡ count + length xs) = told-listed stored q in
              let ys : List Listed = found.0 in
              let from : j ≤ at = stop.from in
              let few : count ≤ j * section_limit = w.few in
              let one : length ys ≤ length s = list-few at found.1 in
              let total : count ≡ length w.xs = w.total in
              let more' : more ≡ count + length ys = found.2 in
              let long : length (w.xs ++ ys) ≡ length w.xs + length ys = length-append w.xs ys in
              let place : count ≡ 0 + length w.xs = omega arith in
              record {
                xs = w.xs ++ ys;
                inside = omega arith;
                few = omega arith;
                total = omega arith;
                values_are =
                    stored.values_are ys found.1 ∙ ap (λ (t : List ℤ). store_values slots count ys t) w.values_are
                    ∙ ap (λ (n : ℕ). store_values slots n ys (store_values slots 0 w.xs values₀)) place ∙ sym (store-append value_words 1 slots 0 w.xs ys values₀);
                names_are =
                    stored.names_are ys found.1 ∙ ap (λ (t : List ℕ). store_names slots count ys t) w.names_are
                    ∙ ap (λ (n : ℕ). store_names slots n ys (store_names slots 0 w.xs names₀)) place ∙ sym (store-append name_words 2 slots 0 w.xs ys names₀);
                left =
                    before-before w.xs ys (rest (at + 1))
                    ∙ ap (elements_before w.xs) (ap (λ (l : Said (List Listed)). with_rest l (rest (at + 1))) (sym found.1)) ∙ here;
              }

          pub list-unread : {why : Refusal} {z : Result ℕ Refusal} → r ≡ Err why → said z ≡ refusal why
              → StoredFrom (lists_from settings s attrs run 0 run.count) slots 0 z values₀ values' names₀ names'
          unfolding elements_before ◌>>=◌
          list-unread q out =
              stored_refused slots 0 values₀ values' names₀ names' out
              (ap (λ (l : Said (List Listed)). elements_before w.xs (with_rest l (rest (at + 1)))) (sym (told-refused stored q)) ∙ here)

      pub lists-refused : {why : Refusal} {z : Result ℕ Refusal} → told ≡ Err why → said z ≡ refusal why
          → StoredFrom (lists_from settings s attrs run 0 run.count) slots 0 z values₀ values names₀ names
      unfolding said elements_before ◌>>=◌
      lists-refused {why} p out =
          let met : (k : ℕ) × FaultMet settings.roles record'.Enumeration run s attrs j (run.count - j) k (number_of why.reason) why.place [] =
          scan-refused settings.roles record'.Enumeration run s attrs (sym (case-said said is p))
          in
          let inside : j ≤ run.count = w.inside in
          let within : met.0 < j + (run.count - j) = met.1.within in
          let fault : rest j ≡ refusal why = rest-past j met.0 met.1.from (omega arith) met.1.before ∙ rest-fault met.0 (omega arith) met.1.fault in
          stored_refused slots 0 values₀ values names₀ names out (ap (elements_before w.xs) (sym fault) ∙ w.left)

-- ---- the rooms are long enough, or one of them is too short

module _ (many n m : ℕ) where
  both-fit : many ≤ n → many ≤ m → (leb many n && leb many m) ≡ true
  both-fit h k = rw (le-leb many n h, le-leb many m k)

  pub first-short : n < many → (leb many n && leb many m) ≡ false
  first-short h = rw (lt-leb many n h)

  pub second-short : many ≤ n → m < many → (leb many n && leb many m) ≡ false
  second-short h k = rw (le-leb many n h, lt-leb many m k)

-- ---- in order into the rooms

module _ (producer : Producer) (xs : List Listed) {gcc : Bool} (g : gcc ≡ is_gcc producer) {total : ℕ} (h : total ≡ length xs) where
  abbrev slots : Slots
  slots = record { reversed = gcc; total = total }

  values-by : (b : Bool) → gcc ≡ b → (values : List ℤ) → store_values slots 0 xs values ≡ sets values 0 (values_of (cond b (reversed xs) xs))
  values-by true p values = values-backwards slots xs p h values
  values-by false p values = values-forwards slots xs p values

  names-by : (b : Bool) → gcc ≡ b → (names : List ℕ) → store_names slots 0 xs names ≡ sets names 0 (names_of (cond b (reversed xs) xs))
  names-by true p names = names-backwards slots xs p h names
  names-by false p names = names-forwards slots xs p names

  values-ordered : (values : List ℤ) → store_values (record { reversed = gcc; total = total }) 0 xs values ≡ sets values 0 (values_of (in_order producer xs))
  unfolding in_order
  values-ordered values = values-by (is_gcc producer) g values

  names-ordered : (names : List ℕ) → store_names (record { reversed = gcc; total = total }) 0 xs names ≡ sets names 0 (names_of (in_order producer xs))
  unfolding in_order
  names-ordered names = names-by (is_gcc producer) g names

-- ---- no children, and a ByteSize

module _ (settings : Settings) (s rows attrs : List ℕ) (n i : ℕ) where
  abbrev childless : Said Unit
  childless = childless_fault rows i (child_walk (lent_rows settings.endian s rows attrs n) i)

  -- ---- the whole

  abbrev at : Said Enumeration
  at = enumeration_at settings (lent_rows settings.endian s rows attrs n) i

  abbrev lists : Said (List Listed)
  lists = row_lists settings (lent_rows settings.endian s rows attrs n) i

  abbrev by : Said (List Listed) → Said Enumeration
  by l = l >>= λ (xs : List Listed). enumeration_end settings s rows attrs n i (length xs)

  whole-refused : (order : Slots) {number place : ℕ} {told : List ℕ} {z : Result Enumeration Refusal} (values values' : List ℤ) (names names' : List ℕ)
      → said z ≡ refuses number place told → refuses number place told ≡ at → EnumerationStored at lists order z values values' names names'
  whole-refused order values values' names names' out p =
      record {
        answer_is = out ∙ p;
        values_are = λ e q xs r. absurd (given-refused (sym (p ∙ q)));
        names_are = λ e q xs r. absurd (given-refused (sym (p ∙ q)));
      }

  module _ {told : Result Unit Refusal} (is : said told ≡ kind_fault settings rows record'.Enumeration i) where
    pub whole-kind : (order : Slots) {why : Refusal} {z : Result Enumeration Refusal} (values : List ℤ) (names : List ℕ) → told ≡ Err why → said z ≡ refusal why
        → EnumerationStored (enumeration_at settings (lent_rows settings.endian s rows attrs n) i) (row_lists settings (lent_rows settings.endian s rows attrs n) i)
        order z values values names names
    unfolding enumeration_at said ◌>>◌
    whole-kind order values names p out = whole-refused order values values names names out (goes-past said is p _ refl)

    module _ (p : told ≡ Ok tt) {run : Run} (q : run ≡ run_of settings.endian rows i) (slots : Slots) {r : Result ℕ Refusal}
        {values values' : List ℤ} {names names' : List ℕ}
        (stored : StoredFrom (lists_from settings s attrs run 0 run.count) slots 0 r values values' names names') where
      lists-are : lists_from settings s attrs run 0 run.count ≡ lists
      unfolding row_lists
      lists-are = ap (λ (x : Run). lists_from settings s attrs x 0 x.count) q

      by-lists : {l : Said (List Listed)} → lists_from settings s attrs run 0 run.count ≡ l → {z : Said Enumeration} → z ≡ by l → z ≡ at
      unfolding enumeration_at enumeration_end said ◌>>◌
      by-lists h k = goes-past said is p _ (k ∙ ap by (sym h ∙ lists-are))

      pub whole-counted : {many : ℕ} {a : Result Enumeration Refusal} → r ≡ Ok many → said a ≡ enumeration_end settings s rows attrs n i many
          → EnumerationStored (enumeration_at settings (lent_rows settings.endian s rows attrs n) i) (row_lists settings (lent_rows settings.endian s rows attrs n) i) slots a values values' names names'
      unfolding ◌>>=◌
      whole-counted {many} c h =
          let found : (xs : List Listed) × (lists_from settings s attrs run 0 run.count ≡ gives xs) × (many ≡ 0 + length xs) = told-listed stored c in
          let same : many ≡ length found.0 = omega (arith, found.2) in
          record {
            answer_is = by-lists found.1 (h ∙ ap (enumeration_end settings s rows attrs n i) same);
            values_are = λ e t xs l. stored.values_are xs (lists-are ∙ l);
            names_are = λ e t xs l. stored.names_are xs (lists-are ∙ l);
          }

      pub whole-unread : {why : Refusal} {z : Result Enumeration Refusal} → r ≡ Err why → said z ≡ refusal why
          → EnumerationStored (enumeration_at settings (lent_rows settings.endian s rows attrs n) i)
          (row_lists settings (lent_rows settings.endian s rows attrs n) i) slots z values values' names names'
      unfolding ◌>>=◌
      whole-unread c out = whole-refused slots values values' names names' out (by-lists (told-refused stored c) refl)

  -- ---- into the rooms

  -- an enumeration has as many members as elements are listed
  abbrev Members : Said (List Listed) → Said Enumeration → Type 0
  Members l a = Of (λ (e : Enumeration). (xs : List Listed) × (l ≡ gives xs) × (e.members ≡ length xs)) a

  past-members : (f : Said Unit) (l : Said (List Listed)) (a : Said Enumeration) → Members l a → Members l (f >> a)
  unfolding ◌>>◌
  past-members (gives x) l a m = m
  past-members (refuses number place counts) l a m = tt

  sized-members : (xs : List Listed) (size : Said ℕ) (name : Option Text)
      → Members (gives xs) (size >>= λ (k : ℕ). gives (record { name = name; byte_size = k; members = length xs }))
  unfolding ◌>>=◌
  sized-members xs (gives k) name = (xs, refl, refl)
  sized-members xs (refuses number place counts) name = tt

  by_members : (l : Said (List Listed)) → Members l (by l)
  unfolding enumeration_end enumeration_sized ◌>>=◌
  by_members (gives xs) =
      past-members childless (gives xs) (enumeration_sized s attrs (run_of settings.endian rows i) (length xs))
      (sized-members xs (needed (run_of settings.endian rows i).key (word_of s attrs (run_of settings.endian rows i) attribute.byte_size))
      (name_of s attrs (run_of settings.endian rows i) attribute.name))
  by_members (refuses number place counts) = tt

  pub members-listed : {e : Enumeration} → enumeration_at settings (lent_rows settings.endian s rows attrs n) i ≡ gives e
      → (xs : List Listed) × (row_lists settings (lent_rows settings.endian s rows attrs n) i ≡ gives xs) × (e.members ≡ length xs)
  unfolding enumeration_at enumeration_end
  members-listed p = subst (Members lists) p (past-members (kind_fault settings rows record'.Enumeration i) lists (by lists) (by_members lists))

  module _ {told : Result Enumeration Refusal} (is : said told ≡ enumeration_at settings (lent_rows settings.endian s rows attrs n) i)
      (values : List ℤ) (names : List ℕ) where
    module _ {e : Enumeration} (p : told ≡ Ok e) where
      found : (xs : List Listed) × (row_lists settings (lent_rows settings.endian s rows attrs n) i ≡ gives xs) × (e.members ≡ length xs)
      unfolding said
      found = members-listed (sym (case-said said is p))

      abbrev filled : Bool → List Listed → Outcomes (Said Enumeration) ℤ ℕ
      filled fits xs =
          fills_rooms fits e (e.members ∷ []) (values_of (in_order settings.producer xs)) (names_of (in_order settings.producer xs)) values names

      -- the room decides
      by-room : {fits : Bool} → leb e.members (length values) && leb e.members (length names / 2) ≡ fits → {z : Said Enumeration} {values' : List ℤ} {names' : List ℕ}
          → BothGiven (filled fits found.0) z values' names' → BothGiven (enumeration_into settings (lent_rows settings.endian s rows attrs n) values names i) z values' names'
      unfolding enumeration_into said in_rooms
      by-room t {z} {values'} {names'} h =
          goes-in-both said is p values names _
          (subst (λ (l : Said (List Listed)). BothGiven (in_rooms values names l (filled (leb e.members (length values) && leb e.members (length names / 2)))) z values' names')
          (sym found.1) (subst (λ (b : Bool). BothGiven (filled b found.0) z values' names') (sym t) h))

      pub given-room : leb e.members (length values) && leb e.members (length names / 2) ≡ false
          → BothGiven (enumeration_into settings (lent_rows settings.endian s rows attrs n) values names i) (said_counted (Err (Room e.members))) values names
      unfolding said_counted fills_rooms
      given-room t = by-room t (record { answer_is = refl; first_is = refl; second_is = refl })

      pub given-members : e.members ≤ length values → e.members ≤ length names / 2 → {gcc : Bool} → gcc ≡ is_gcc settings.producer
          → {r : Result Enumeration Refusal} {values' : List ℤ} {names' : List ℕ}
          → EnumerationStored (enumeration_at settings (lent_rows settings.endian s rows attrs n) i) (row_lists settings (lent_rows settings.endian s rows attrs n) i) (record { reversed = gcc; total = e.members }) r values values' names names'
          → BothGiven (enumeration_into settings (lent_rows settings.endian s rows attrs n) values names i) (said_counted (Ok e)) values' names'
      unfolding said said_counted fills_rooms
      given-members h k g stored =
          let here : enumeration_at settings (lent_rows settings.endian s rows attrs n) i ≡ gives e = sym (case-said said is p) in
          by-room (both-fit e.members (length values) (length names / 2) h k)
          (record {
            answer_is = refl;
            first_is = stored.values_are e here found.0 found.1 ∙ values-ordered settings.producer found.0 g found.2 values;
            second_is = stored.names_are e here found.0 found.1 ∙ names-ordered settings.producer found.0 g found.2 names;
          })

-- ---- the enumeration of a key

pub tag-asked : (settings : Settings) (vendors sizes s rows attrs : List ℕ) (counts : Counts) (key : ℕ) {told : Result ℕ Refusal}
    → said told ≡ row_of (table s settings vendors sizes rows attrs counts) key → {i : ℕ} → told ≡ Ok i → AskedShort s rows counts.rows i
tag-asked settings vendors sizes s rows attrs counts key is p =
    record {
      asked = keyed-asked settings vendors sizes s rows attrs counts key is p;
      short = keyed-short settings vendors sizes s rows attrs counts key is p;
    }
