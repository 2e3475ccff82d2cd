-- What follows from an array's product, for each way that the code comes to an answer: one factor, and what a walk over subscripts has still to read.
use Rattle.std.specs.Prelude.{Result, Ok, Err, IsErrAnd}
use Rattle.std.specs.Result.{MatchResult}
use Prim.Native.Nat.{ℕ, zero, suc, ◌*◌, ◌-◌, ◌^◌, ◌≤◌, ◌<◌}
use native.Mathlib.Nat.{le_refl, le_of_lt, lt_of_le_of_lt, mul-le-mul_left, mul-lt-mul_of_pos_right}
use native.Mathlib.Omega.{arith}
use mathlib.Core.Path.{◌≡◌, refl, sym, ap, subst, ◌∙◌}
use mathlib.Core.Bool.{false}
use mathlib.Core.List.{List}
use lib.ListN.{length, take, drop, length-drop}
use lib.Seq.{take_all}
use lib.Dec.{eqb}
use lib.Pow.{pow_pos}
use borrow.Author.Tests.{eq-eqb, ne_eqb, le-leb, lt-leb}
use Rattle.numbers.specs.declared.Endian.{Endian}
use Rattle.format.specs.Said.{Said, gives, refusal, placed, ◌>>=◌, said}
use Rattle.format.proofs.Laws.Said.{case-said, must-passed, must-failed}
use Rattle.format.specs.declared.refusal.Refusal.{Refusal}
use Rattle.format.specs.declared.refusal.Reason.TheVariants as reason
use Rattle.blocks.specs.Subscript.{Part, said_subscript, next_subscript, UsesInside}
use Rattle.blocks.proofs.Laws.Subscript.{used-inside}
use Rattle.blocks.specs.declared.types.Type.{«Type»}
use Rattle.blocks.specs.declared.subscript.Subscript.{Subscript}
use Rattle.blocks.specs.declared.subscript.Subscript.TheVariants as subscript
use Rattle.tables.specs.Inside.Keyed.{refused_at}
use Rattle.sizes.proofs.Laws.Exit.{placed_by, placed-gave}
use Rattle.sizes.specs.Size.{size_limit, times, part_then, product_from, product_of}

-- ---- one factor

-- two numbers of 32 bits have a product of 64
pub product-fits : {a b : ℕ} → a < 2 ^ 32 → b < 2 ^ 32 → a * b < 2 ^ 64
product-fits {a} p q = lt_of_le_of_lt (mul-le-mul_left a (le_of_lt q)) (mul-lt-mul_of_pos_right p (pow_pos 32))

module _ (key size many : ℕ) where
  pub times-is : size * many ≤ size_limit → gives (size * many) ≡ times key size many
  unfolding times
  times-is h = must-passed refl reason.Big key _ (le-leb (size * many) size_limit h) refl

  pub times-big : {why : Refusal} → size_limit < size * many → why ≡ refused_at key reason.Big → refusal why ≡ times key size many
  unfolding times
  times-big h p = must-failed refl reason.Big key _ (lt-leb (size * many) size_limit h) (ap refusal p)

-- ---- a turn of the walk

-- a subscript that was read, told at the array
pub subscript-placed : (key : ℕ) (told z : Result Subscript Refusal) {d : Said Part} → said_subscript told ≡ d → (Q : Refusal → Refusal → Type 0)
    → MatchResult told (λ x. z ≡ Ok x) (λ e. IsErrAnd z (Q e)) → ((e w : Refusal) → Q e w → w ≡ refused_at key e.reason)
    → said_subscript z ≡ placed key d
unfolding said_subscript placed
subscript-placed key told z is Q cases at = placed_by said_subscript (λ e. refl) key values told z Q cases at ∙ ap (placed key) is
  where
    values : (x : Subscript) → said_subscript (Ok x) ≡ placed key (said_subscript (Ok x))
    values (subscript.Dimension index many used) = refl
    values (subscript.Element t used) = refl

module _ (e : Endian) (key size : ℕ) (block : List ℕ) where
  -- at the end nothing is read
  at-end : (turns : ℕ) → length block ≡ 0 → product_from e key turns size block ≡ gives size
  unfolding product_from
  at-end zero h = refl
  at-end (suc turns) h = rw (eq-eqb (length block) 0 h, product_from)

  -- before it, one subscript and then the rest
  one-turn : (turns : ℕ) → 0 < length block → length block ≤ turns
      → product_from e key turns size block
      ≡ (placed key (next_subscript e block) >>= part_then e key (λ used product. product_from e key (turns - 1) product (drop used block)) size)
  unfolding product_from
  one-turn zero h k = absurd (omega arith)
  one-turn (suc turns) h k =
      let test : eqb (length block) 0 ≡ false = ne_eqb (length block) 0 (λ z. omega arith) in
      let place : suc turns - 1 ≡ turns = omega arith in
      rw (test, place, product_from)

-- what is left comes to the whole
pub record Left (e : Endian) (key : ℕ) (block : List ℕ) (element : ℕ) (rest : List ℕ) (size : ℕ) : Type 0 where
  pub turns : ℕ
  pub enough : length rest ≤ turns
  pub left : product_from e key turns size rest ≡ product_of e key block element

pub begin : (e : Endian) (key : ℕ) (block : List ℕ) (element : ℕ) → Left e key block element block element
unfolding product_of
begin e key block element = record { turns = length block; enough = le_refl (length block); left = refl }

module _ {e : Endian} {key : ℕ} {block : List ℕ} {element : ℕ} {rest : List ℕ} {size : ℕ} (l : Left e key block element rest size) where
  pub product-done : length rest ≤ 0 → gives size ≡ product_of e key block element
  product-done h = sym (at-end e key size rest l.turns (omega arith)) ∙ l.left

  -- the rest as a part that is handed on
  abbrev after : ℕ → List ℕ
  after used = take (length rest - used) (drop used rest)

  is-after : (used : ℕ) → drop used rest ≡ after used
  is-after used = sym (take_all (length rest - used) (drop used rest) (omega (arith, length-drop used rest)))

  abbrev goes_on : ℕ → ℕ → Said ℕ
  goes_on used product = product_from e key (l.turns - 1) product (drop used rest)

  shorter : {used : ℕ} → (1 ≤ used) × (used ≤ length rest) → length (drop used rest) < length rest
  shorter {used} h = omega (arith, h.0, h.1, length-drop used rest)

  less : {used : ℕ} → (1 ≤ used) × (used ≤ length rest) → length (after used) < length rest
  less {used} h = subst (λ (u : List ℕ). length u < length rest) (is-after used) (shorter h)

  again : {used product : ℕ} → (1 ≤ used) × (used ≤ length rest) → goes_on used product ≡ product_of e key block element
      → Left e key block element (after used) product
  again {used} {product} h p =
      let fewer : length (drop used rest) < length rest = shorter h in
      subst (λ (u : List ℕ). Left e key block element u product) (is-after used)
      (record { turns = l.turns - 1; enough = omega (arith, l.enough); left = p })

  -- a subscript that was read, its refusal placed at the array
  module _ (more : 0 < length rest) {told : Result Subscript Refusal} (is : said_subscript told ≡ placed key (next_subscript e rest)) where
    turned : {r : Result Subscript Refusal} → told ≡ r → (said_subscript r >>= part_then e key goes_on size) ≡ product_of e key block element
    turned p =
        ap (λ (d : Said Part). d >>= part_then e key goes_on size) (case-said said_subscript is p)
        ∙ sym (one-turn e key size rest l.turns more l.enough) ∙ l.left

    inside : {r : Result Subscript Refusal} {part : Part} → told ≡ r → said_subscript r ≡ gives part → UsesInside rest part
    inside p q = used-inside e rest (placed-gave key (next_subscript e rest) (sym (case-said said_subscript is p) ∙ q))

    module _ {x : Subscript} (came : told ≡ Ok x) where
      read : {y : Subscript} → x ≡ y → told ≡ Ok y
      read p = came ∙ ap Ok p

      module _ {index many used : ℕ} (p : x ≡ subscript.Dimension index many used) where
        dimension-used : (1 ≤ used) × (used ≤ length rest)
        unfolding said_subscript
        dimension-used = inside (read p) refl

        pub dimension-inside : used ≤ length rest
        dimension-inside = dimension-used.1

        pub dimension-less : length (after used) < length rest
        dimension-less = less dimension-used

        module _ {sized : Result ℕ Refusal} (q : said sized ≡ times key size many) where
          multiplied : {r : Result ℕ Refusal} → sized ≡ r → (said r >>= goes_on used) ≡ product_of e key block element
          unfolding said_subscript part_then ◌>>=◌
          multiplied h = ap (λ (d : Said ℕ). d >>= goes_on used) (case-said said q h) ∙ turned (read p)

          pub again-dimension : {product : ℕ} → sized ≡ Ok product → Left e key block element (after used) product
          unfolding said ◌>>=◌
          again-dimension h = again dimension-used (multiplied h)

          pub product-big : {why : Refusal} → sized ≡ Err why → refusal why ≡ product_of e key block element
          unfolding said ◌>>=◌
          product-big h = multiplied h

      module _ {t : «Type»} {used : ℕ} (p : x ≡ subscript.Element t used) where
        element-used : (1 ≤ used) × (used ≤ length rest)
        unfolding said_subscript
        element-used = inside (read p) refl

        pub element-inside : used ≤ length rest
        element-inside = element-used.1

        pub element-less : length (after used) < length rest
        element-less = less element-used

        pub again-element : Left e key block element (after used) size
        unfolding said_subscript part_then ◌>>=◌
        again-element = again element-used (turned (read p))

    pub product-refused : {why : Refusal} → told ≡ Err why → refusal why ≡ product_of e key block element
    unfolding said_subscript ◌>>=◌
    product-refused p = turned p
