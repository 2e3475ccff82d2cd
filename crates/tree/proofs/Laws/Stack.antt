-- What follows from `Stack`: pushing a word, closing rows, the nearest row; and each step of the pass over the rows.
use Prim.Native.Nat.{ℕ, zero, suc, ◌+◌, ◌-◌, ◌*◌, ◌≤◌, ◌<◌}
use native.Mathlib.Nat.{le_refl, add-zero, ne_of_lt}
use native.Mathlib.Numerals.{add-one}
use native.Mathlib.Decide.{dec_lt}
use native.Mathlib.Omega.{arith}
use mathlib.Core.Path.{◌≡◌, refl, sym, ap, ◌∙◌}
use mathlib.Core.Bool.{true, false}
use mathlib.Core.List.{List, [], ◌∷◌, ◌++◌, map}
use lib.ListN.{length, get_or, set, length-map, length-set}
use lib.Seq.{get_or-set_same, get_or-set_other, sets, length-sets}
use lib.Dec.{ltb}
use borrow.Author.Tests.{lt-ltb, le-ltb}
use Rattle.format.specs.Limits.{depth_limit}
use Rattle.lent.proofs.Laws.Stores.{sets-append}
use Rattle.tree.proofs.Laws.Pick.{first-unique}
use Rattle.tree.specs.Inside.Passing.{closing, opened, open_at, nearest, open_deep, open_words, OpenListed}
use Rattle.tree.specs.Tree.{place_width}
use Rattle.tree.specs.Inside.Stack.{stack_of, top_of, height_at}

-- ---- each way that the code comes to an answer

-- how the code comes to the height, where it has come down from h rows to k
module _ (j : ℕ) (ends : List ℕ) (h : ℕ) where
  -- the uppermost row stays
  pub height-here : (k : ℕ) → height_at j ends k ≡ height_at j ends h → 0 < k → {end : ℕ} → end ≡ get_or ends (k - 1) 0 → j < end
      → k - 1 + 1 ≡ height_at j ends h
  unfolding height_at
  height-here zero same some p l = absurd (omega arith)
  height-here (suc k) same some p l =
      let back : suc k - 1 ≡ k = omega arith in
      let past : ltb j (get_or ends k 0) ≡ true = lt-ltb j (get_or ends k 0) (rw (p, back) at l) in
      let own : suc k - 1 + 1 ≡ suc k = omega arith in
      own ∙ rw past at same

  -- it is taken off
  pub height-less : (k : ℕ) → height_at j ends k ≡ height_at j ends h → 0 < k → {end : ℕ} → end ≡ get_or ends (k - 1) 0 → end ≤ j
      → height_at j ends (k - 1) ≡ height_at j ends h
  unfolding height_at
  height-less zero same some p l = absurd (omega arith)
  height-less (suc k) same some p l =
      let back : suc k - 1 ≡ k = omega arith in
      let ended : ltb j (get_or ends k 0) ≡ false = le-ltb j (get_or ends k 0) (rw (p, back) at l) in rw back (rw ended at same)

  pub height-none : (k : ℕ) → height_at j ends k ≡ height_at j ends h → k ≤ 0 → 0 ≡ height_at j ends h
  unfolding height_at
  height-none zero same none = same
  height-none (suc k) same none = absurd (omega arith)

-- ---- the stack

stack-length : (t : List ℕ) (h : ℕ) → length (stack_of t h) ≡ h
unfolding stack_of
stack-length t zero = refl
stack-length t (suc h) = ap suc (stack-length t h)

-- what is stored above the height changes nothing below it
stack-kept : (t : List ℕ) (k x h : ℕ) → h ≤ k → stack_of (set t k x) h ≡ stack_of t h
unfolding stack_of
stack-kept t k x zero l = refl
stack-kept t k x (suc h) l = rw (get_or-set_other t k h x 0 (ne_of_lt l), stack-kept t k x h (omega arith))

-- a word stored at the height is on top
stack_push : (t : List ℕ) (h x : ℕ) → h < length t → stack_of (set t h x) (suc h) ≡ x ∷ stack_of t h
unfolding stack_of
stack_push t h x l = rw (get_or-set_same t h x 0 l, stack-kept t h x h (le_refl h))

-- these rows are on the stack, each plus one, with the ends of their reaches
pub record Held (reach : ℕ → ℕ) (stack ends : List ℕ) (h : ℕ) (rows : List ℕ) : Type 0 where
  pub rows_are : stack_of stack h ≡ map suc rows
  pub ends_are : stack_of ends h ≡ map reach rows

module _ {reach : ℕ → ℕ} {stack ends : List ℕ} where
  held-length : {h : ℕ} {rows : List ℕ} → Held reach stack ends h rows → length rows ≡ h
  held-length {h} {rows} held = sym (length-map rows suc) ∙ ap length (sym held.rows_are) ∙ stack-length stack h

  held-top : (h : ℕ) (rows : List ℕ) → Held reach stack ends h rows → top_of stack h ≡ nearest rows
  unfolding top_of nearest stack_of
  held-top zero [] held = refl
  held-top zero (i ∷ rows) held = let short : length (suc i ∷ rows) ≡ 0 = held-length held in absurd (omega arith)
  held-top (suc h) [] held = let short : 0 ≡ suc h = held-length held in absurd (omega arith)
  held-top (suc h) (i ∷ rows) held = let same : get_or stack h 0 ∷ stack_of stack h ≡ suc i ∷ map suc rows = held.rows_are in cc

  -- closing takes rows off the top
  held-closing : (j h : ℕ) (rows : List ℕ) → Held reach stack ends h rows → Held reach stack ends (height_at j ends h) (closing reach j rows)
  unfolding height_at closing stack_of
  held-closing j zero [] held = held
  held-closing j zero (i ∷ rows) held = let short : length (suc i ∷ rows) ≡ 0 = held-length held in absurd (omega arith)
  held-closing j (suc h) [] held = let short : 0 ≡ suc h = held-length held in absurd (omega arith)
  held-closing j (suc h) (i ∷ rows) held =
      let nums : get_or stack h 0 ∷ stack_of stack h ≡ suc i ∷ map suc rows = held.rows_are in
      let reaches : get_or ends h 0 ∷ stack_of ends h ≡ reach i ∷ map reach rows = held.ends_are in
      let top : get_or ends h 0 ≡ reach i = cc in
      let rest : Held reach stack ends h rows = record { rows_are = cc; ends_are = cc } in
      rw top (elim (dec_lt j (reach i)) [
        | yes l ↦ rw (lt-ltb j (reach i) l) held
        | no l ↦ rw (le-ltb j (reach i) (omega arith)) (held-closing j h rows rest)
      ])

  held-push : {h : ℕ} {rows : List ℕ} → Held reach stack ends h rows → h < length stack → h < length ends
      → (j : ℕ) → Held reach (set stack h (suc j)) (set ends h (reach j)) (suc h) (j ∷ rows)
  held-push {h} held l m j =
      record {
        rows_are = stack_push stack h (suc j) l ∙ ap (λ (rest : List ℕ). suc j ∷ rest) held.rows_are;
        ends_are = stack_push ends h (reach j) m ∙ ap (λ (rest : List ℕ). reach j ∷ rest) held.ends_are;
      }

-- ---- the listing

module _ (reach : ℕ → ℕ) where
  words_length : (i k : ℕ) → length (open_words reach i k) ≡ k * place_width
  unfolding open_words
  words_length i zero = refl
  words_length i (suc k) = let rest : length (open_words reach (suc i) k) ≡ k * place_width = words_length (suc i) k in omega arith

  -- one row more
  words_more : (i k : ℕ) → open_words reach i (suc k) ≡ open_words reach i k ++ (length (open_at reach (i + k)) ∷ nearest (open_at reach (i + k)) ∷ [])
  unfolding open_words
  words_more i zero = rw add-zero
  words_more i (suc k) =
      let next : suc i + k ≡ i + suc k = omega arith in
      rw (words_more (suc i) k, next)

  listed_more : (room : List ℕ) (j : ℕ)
      → sets (sets room 0 (open_words reach 0 j)) (j * place_width) (length (open_at reach j) ∷ nearest (open_at reach j) ∷ [])
      ≡ sets room 0 (open_words reach 0 (suc j))
  listed_more room j =
      let place : 0 + length (open_words reach 0 j) ≡ j * place_width = omega (arith, words_length 0 j) in
      let row : 0 + j ≡ j = omega arith in
      sym (rw (words_more 0 j, row, sets-append room 0 (open_words reach 0 j), place))

-- ---- the pass

-- row j is reached: none before it lies too deep, those are listed, and the open ones are on the stack
pub record Passing (reach : ℕ → ℕ) (n : ℕ) (room₀ room stack ends : List ℕ) (h j : ℕ) : Type 0 where
  pub within : j ≤ n
  pub stack_long : length stack ≡ suc depth_limit
  pub ends_long : length ends ≡ suc depth_limit
  pub held : Held reach stack ends h (opened reach j)
  pub shallow : (i : ℕ) → i < j → open_deep reach i ≡ false
  pub listed : room ≡ sets room₀ 0 (open_words reach 0 j)

pub pass-begin : (reach : ℕ → ℕ) (n : ℕ) (room stack ends : List ℕ) → length stack ≡ suc depth_limit → length ends ≡ suc depth_limit
    → Passing reach n room room stack ends 0 0
unfolding opened open_words stack_of
pass-begin reach n room stack ends long long' =
    record {
      within = omega arith;
      stack_long = long;
      ends_long = long';
      held = record { rows_are = refl; ends_are = refl };
      shallow = λ i l. absurd (omega arith);
      listed = refl;
    }

pub pass-length : {reach : ℕ → ℕ} {n : ℕ} {room₀ room stack ends : List ℕ} {h j : ℕ} → Passing reach n room₀ room stack ends h j
    → length room ≡ length room₀
pass-length {reach} {room₀ = room₀} {j = j} pass = ap length pass.listed ∙ length-sets room₀ 0 (open_words reach 0 j)

pub pass-done : {reach : ℕ → ℕ} {n : ℕ} {room₀ room stack ends : List ℕ} {h j : ℕ} → Passing reach n room₀ room stack ends h j → n ≤ j
    → OpenListed reach n n room₀ room
pass-done {reach} {n} {room₀} {j = j} pass l =
    let last : j ≡ n = omega (arith, pass.within) in
    record {
      deep_is = first-unique (record {
        from = omega arith;
        to = omega arith;
        before = λ i k m. pass.shallow i (omega arith);
        here = λ k. absurd (omega arith);
      });
      room_is = pass.listed ∙ ap (λ (k : ℕ). sets room₀ 0 (open_words reach 0 k)) last;
    }

module _ {reach : ℕ → ℕ} {n : ℕ} {room₀ room stack ends : List ℕ} {h j : ℕ} (pass : Passing reach n room₀ room stack ends h j)
    {left : ℕ} (left_is : left ≡ height_at j ends h) where
  -- so many rows are open at row j
  left-held : Held reach stack ends left (open_at reach j)
  unfolding open_at
  left-held = rw left_is (held-closing j h (opened reach j) pass.held)

  pub pass-deep : depth_limit < left → j < n → OpenListed reach n j room₀ room
  unfolding open_deep
  pass-deep deep l =
      let many : length (open_at reach j) ≡ left = held-length left-held in
      record {
        deep_is = first-unique (record {
          from = omega arith;
          to = omega arith;
          before = λ i k m. pass.shallow i m;
          here = λ k. lt-ltb depth_limit (length (open_at reach j)) (omega arith);
        });
        room_is = pass.listed;
      }

  left-listed : {top : ℕ} → top ≡ top_of stack left → sets room (j * place_width) (left ∷ top ∷ []) ≡ sets room₀ 0 (open_words reach 0 (suc j))
  left-listed top-is =
      rw (pass.listed, top-is ∙ held-top left (open_at reach j) left-held, ← held-length left-held) (listed_more reach room₀ j)

  pub pass-next : {end top : ℕ} {room' stack' ends' : List ℕ} → left ≤ depth_limit → j < n → top ≡ top_of stack left
      → room' ≡ sets room (j * place_width) (left ∷ top ∷ []) → stack' ≡ set stack left (j + 1) → end ≡ reach j → ends' ≡ set ends left end
      → Passing reach n room₀ room' stack' ends' (left + 1) (j + 1)
  unfolding opened open_at open_deep
  pass-next few row top-is room_is stack_is end_is ends_is =
      let many : length (open_at reach j) ≡ left = held-length left-held in
      let space : left < length stack = omega (arith, pass.stack_long) in
      let space' : left < length ends = omega (arith, pass.ends_long) in
      rw (add-one left, add-one j) record {
        within = row;
        stack_long = rw (stack_is, length-set) pass.stack_long;
        ends_long = rw (ends_is, length-set) pass.ends_long;
        held = rw (stack_is, ends_is, end_is, add-one) (held-push left-held space space' j);
        shallow = λ i l. elim (dec_lt i j) [
          | yes earlier ↦ pass.shallow i earlier
          | no last ↦ (let same : i ≡ j = omega arith in rw same (le-ltb depth_limit (length (open_at reach j)) (omega arith)))
        ];
        listed = room_is ∙ left-listed top-is;
      }
