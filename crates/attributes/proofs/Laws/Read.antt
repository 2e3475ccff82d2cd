-- What the code computes comes to `Read`.
use Rattle.std.specs.Prelude.{Result, Ok, Err, Option, Some, None}
use Prim.Native.Nat.{ℕ, ◌+◌, ◌-◌}
use native.Mathlib.Omega.{arith}
use mathlib.Core.Path.{◌≡◌, refl, ap}
use mathlib.Core.Bool.{Bool, true, false, cond}
use mathlib.Core.List.{List}
use lib.ListN.{length}
use lib.Dec.{ltb}
use Rattle.numbers.proofs.Laws.Tests.{cond-all}
use Rattle.numbers.specs.Value.{value_of, there}
use Rattle.numbers.proofs.Laws.Value.{read_all}
use Rattle.numbers.specs.declared.Endian.{Endian}
use Rattle.format.specs.Known.{known}
use Rattle.format.specs.FormKind.{form_of}
use Rattle.format.specs.declared.form_kind.FormKind.{FormKind}
use Rattle.format.specs.declared.form_kind.FormKind.TheVariants.{Addr, Ref, Block2, Block4, Data2, Data4, Data8, String, Undefined}
use Rattle.attributes.specs.Text.{zero_from}
use Rattle.attributes.specs.End.{fixed_end, block_end, text_end, value_end}
use Rattle.attributes.specs.Read.{ending, numbered}
use Rattle.attributes.specs.declared.value.Unread.{Unread}
use Rattle.attributes.specs.declared.value.Unread.TheVariants.{Short, Unknown}
use Rattle.attributes.specs.declared.read.Attribute.{Attribute}
use Rattle.attributes.specs.Inside.Read.{known_end, end_told}

-- ---- a value whose end is told ends there

pub ended-well : (r : Result ℕ Unread) {next : ℕ} → Some next ≡ end_told r → Ok next ≡ r
unfolding end_told
ended-well (Ok x) p = cc
ended-well (Err why) p = cc

-- ---- a value is at most short: that a number is not known is told of the number

abbrev AtMostShort : Result ℕ Unread → Type 0
AtMostShort (Ok next) = Unit
AtMostShort (Err (Short field)) = Unit
AtMostShort (Err (Unknown field)) = ⊥

module _ (s : List ℕ) where
  fixed-short : (at w : ℕ) → AtMostShort (fixed_end s at w)
  unfolding fixed_end
  fixed-short at w = cond-all AtMostShort (there s at w) (λ t. tt) (λ t. tt)

  block-short : (e : Endian) (w at : ℕ) → AtMostShort (block_end e w s at)
  unfolding block_end
  block-short e w at =
      read_all (λ n. fixed_end s (at + w) n) (Err (Short at)) e w s at AtMostShort (λ t. fixed-short (at + w) (value_of e w s at)) (λ t. tt)

  value-short : (form : FormKind) (e : Endian) (at : ℕ) → AtMostShort (value_end form e s at)
  unfolding value_end text_end
  value-short Addr e at = fixed-short at 4
  value-short Ref e at = fixed-short at 4
  value-short Block2 e at = block-short e 2 at
  value-short Block4 e at = block-short e 4 at
  value-short Data2 e at = fixed-short at 2
  value-short Data4 e at = fixed-short at 4
  value-short Data8 e at = fixed-short at 8
  value-short String e at = cond-all AtMostShort (ltb (zero_from s at) (length s)) (λ t. tt) (λ t. tt)
  value-short Undefined e at = tt

-- ---- what the end of its value says of an attribute

abbrev pub as_attribute : ℕ → ℕ → Result ℕ Unread → Result Attribute Unread
as_attribute value n (Ok next) = Ok (record { number = n; value = value; next = next })
as_attribute value n (Err (Short field)) = Err (Short field)
as_attribute value n (Err (Unknown place)) = Err (Unknown (place - 2))

-- one that is told as unknown is told with its value's place
pub unknown_place : (vendors : List ℕ) (e : Endian) (s : List ℕ) (value n : ℕ) {place : ℕ} → Err (Unknown place) ≡ known_end vendors e s value n → place ≡ value
unfolding known_end
unknown_place vendors e s value n {place} = go (known vendors n) (value_end (form_of n) e s value) (value-short s (form_of n) e value)
  where
    go : (b : Bool) (v : Result ℕ Unread) → AtMostShort v → Err (Unknown place) ≡ cond b v (Err (Unknown value)) → place ≡ value
    go true (Ok next) h p = cc
    go true (Err (Short field)) h p = cc
    go true (Err (Unknown field)) h p = absurd h
    go false v h p = cc

as-numbered : (at n : ℕ) (b : Bool) (v : Result ℕ Unread) → AtMostShort v
    → as_attribute (at + 2) n (cond b v (Err (Unknown (at + 2)))) ≡ cond b (ending n (at + 2) v) (Err (Unknown at))
unfolding ending
as-numbered at n true (Ok next) h = refl
as-numbered at n true (Err (Short field)) h = refl
as-numbered at n true (Err (Unknown field)) h = absurd h
as-numbered at n false v h = let same : at + 2 - 2 ≡ at = omega arith in ap (λ (place : ℕ). Err (Unknown place)) same

pub numbered_told : (vendors : List ℕ) (e : Endian) (s : List ℕ) (at n : ℕ) {told : Result ℕ Unread} → told ≡ known_end vendors e s (at + 2) n
    → as_attribute (at + 2) n told ≡ numbered vendors e s at n
unfolding known_end numbered
numbered_told vendors e s at n is = rw is (as-numbered at n (known vendors n) (value_end (form_of n) e s (at + 2)) (value-short s (form_of n) e (at + 2)))
