-- A success lies inside the section and moves forward.
use Rattle.std.specs.Prelude.{Result, Ok, Err}
use Prim.Native.Nat.{ℕ, ◌+◌, ◌≤◌, ◌<◌}
use native.Mathlib.Omega.{arith}
use mathlib.Core.Path.{◌≡◌, refl, subst}
use mathlib.Core.Bool.{true}
use mathlib.Core.List.{List}
use lib.ListN.{length}
use lib.Dec.{ltb}
use borrow.Author.Tests.{ltb-true}
use Rattle.numbers.proofs.Laws.Tests.{cond-all}
use Rattle.numbers.specs.Value.{value_of, there}
use Rattle.numbers.proofs.Laws.Value.{there-inside, read_all}
use Rattle.numbers.specs.declared.Endian.{Endian}
use Rattle.format.specs.Known.{known}
use Rattle.format.specs.FormKind.{form_of}
use Rattle.format.specs.declared.form_kind.FormKind.{FormKind}
use Rattle.format.specs.declared.form_kind.FormKind.TheVariants.{Addr, Ref, Block2, Block4, Data2, Data4, Data8, String, Undefined}
use Rattle.attributes.specs.Text.{zero_from}
use Rattle.attributes.proofs.Laws.Text.{zero-after}
use Rattle.attributes.specs.End.{fixed_end, block_end, text_end, value_end}
use Rattle.attributes.specs.Read.{ending, numbered, read_attribute}
use Rattle.attributes.specs.declared.read.Attribute.{Attribute}
use Rattle.attributes.specs.declared.value.Unread.{Unread}
use Rattle.attributes.specs.declared.value.Unread.TheVariants.{Short}
use Rattle.attributes.specs.Ahead.{Ahead, ReadInside}

fixed-ahead : (s : List ℕ) (at w from : ℕ) → from ≤ at + w → Ahead s from (fixed_end s at w)
unfolding fixed_end
fixed-ahead s at w from h = cond-all (Ahead s from) (there s at w) (λ t. (h, there-inside s at w t)) (λ t. tt)

block-ahead : (e : Endian) (w : ℕ) (s : List ℕ) (at from : ℕ) → from ≤ at + w → Ahead s from (block_end e w s at)
unfolding block_end
block-ahead e w s at from h =
    read_all (λ n. fixed_end s (at + w) n) (Err (Short at)) e w s at (Ahead s from)
    (λ t. fixed-ahead s (at + w) (value_of e w s at) from (omega arith)) (λ t. tt)

text-ahead : (s : List ℕ) (at : ℕ) → Ahead s (at + 1) (text_end s at)
unfolding text_end
text-ahead s at =
    let after : at ≤ zero_from s at = zero-after s at refl in
    cond-all (Ahead s (at + 1)) (ltb (zero_from s at) (length s))
    (λ t. let z : zero_from s at < length s = ltb-true (zero_from s at) (length s) t in (omega arith, omega arith)) (λ t. tt)

pub value-ahead : (form : FormKind) (e : Endian) (s : List ℕ) (at : ℕ) → Ahead s (at + 1) (value_end form e s at)
unfolding value_end
value-ahead Addr e s at = fixed-ahead s at 4 (at + 1) (omega arith)
value-ahead Ref e s at = fixed-ahead s at 4 (at + 1) (omega arith)
value-ahead Block2 e s at = block-ahead e 2 s at (at + 1) (omega arith)
value-ahead Block4 e s at = block-ahead e 4 s at (at + 1) (omega arith)
value-ahead Data2 e s at = fixed-ahead s at 2 (at + 1) (omega arith)
value-ahead Data4 e s at = fixed-ahead s at 4 (at + 1) (omega arith)
value-ahead Data8 e s at = fixed-ahead s at 8 (at + 1) (omega arith)
value-ahead String e s at = text-ahead s at
value-ahead Undefined e s at = tt

abbrev Good : List ℕ → List ℕ → ℕ → Result Attribute Unread → Type 0
Good vendors s at (Ok a) = ReadInside vendors s at a.number a.value a.next
Good vendors s at (Err why) = Unit

ending-good : (vendors s : List ℕ) (at n : ℕ) (end : Result ℕ Unread) → known vendors n ≡ true → Ahead s (at + 2 + 1) end
    → Good vendors s at (ending n (at + 2) end)
unfolding ending
ending-good vendors s at n (Ok next) k h = record { is_known = k; value_place = refl; forward = omega arith; inside = h.1 }
ending-good vendors s at n (Err why) k h = tt

good : (vendors : List ℕ) (e : Endian) (s : List ℕ) (at : ℕ) → Good vendors s at (read_attribute vendors e s at)
unfolding read_attribute numbered
good vendors e s at =
    let n : ℕ = value_of e 2 s at in
    read_all (numbered vendors e s at) (Err (Short at)) e 2 s at (Good vendors s at)
    (λ t. cond-all (Good vendors s at) (known vendors n)
    (λ k. ending-good vendors s at n (value_end (form_of n) e s (at + 2)) k (value-ahead (form_of n) e s (at + 2)))
    (λ k. tt)) (λ t. tt)

-- the theorem
pub read-inside : (vendors : List ℕ) (e : Endian) (s : List ℕ) (at : ℕ) {a : Attribute} → read_attribute vendors e s at ≡ Ok a
    → ReadInside vendors s at a.number a.value a.next
read-inside vendors e s at p = subst (Good vendors s at) p (good vendors e s at)
