-- Attributes that were read are known, and their values end inside.
use Rattle.std.specs.Prelude.{Result, Ok, Err}
use Prim.Native.Nat.{ℕ, zero, suc, ◌+◌, ◌≤◌}
use native.Mathlib.Nat.{le_refl}
use native.Mathlib.Omega.{arith}
use mathlib.Core.Path.{◌≡◌, refl}
use mathlib.Core.Bool.{Bool, true, false, ◌||◌, ◌&&◌}
use mathlib.Core.List.{List, [], ◌∷◌}
use lib.Dec.{ltb, eqb}
use Rattle.entries.specs.Source.{source}
use Rattle.numbers.proofs.Laws.Tests.{cond-all}
use Rattle.numbers.specs.Value.{value_of}
use Rattle.numbers.proofs.Laws.Value.{read_all}
use Rattle.numbers.specs.declared.Endian.{Endian}
use Rattle.format.specs.Said.{Said, gives, refuses, ◌>>=◌}
use Rattle.format.specs.Known.{known}
use Rattle.format.specs.FormKind.{form_of}
use Rattle.format.specs.AttributeKind as number
use Rattle.attributes.specs.End.{value_end}
use Rattle.attributes.specs.Ahead.{Ahead}
use Rattle.attributes.proofs.Laws.Inside.{value-ahead}
use Rattle.attributes.specs.Read.{ending, numbered, read_attribute}
use Rattle.attributes.specs.declared.read.Attribute.{Attribute}
use Rattle.attributes.specs.declared.value.Unread.{Unread}
use Rattle.attributes.specs.declared.value.Unread.TheVariants as missing
use Rattle.tables.proofs.Laws.Held.{AttrKnown}
use Rattle.tables.specs.declared.row.Attr.{Attr}
use Rattle.entries.specs.Run.{AttrsRead, ran, attr, read_on, run_ends, read_run}

-- attributes of which each has a known number and a value that ends inside
pub data AllKnown (s vendors : List ℕ) (e : Endian) : List Attr → Type 0 where
  none_known : AllKnown s vendors e []
  more_known : {a : Attr} {xs : List Attr} → AttrKnown s vendors e a → AllKnown s vendors e xs → AllKnown s vendors e (a ∷ xs)

-- an attribute that was read is such, and reading moved forward
abbrev AttributeKnown : List ℕ → List ℕ → Endian → ℕ → Result Attribute Unread → Type 0
AttributeKnown s vendors e at (Ok a) = AttrKnown s vendors e (attr a.number a.value) × (at ≤ a.next)
AttributeKnown s vendors e at (Err why) = Unit

-- so is each that was read one after the other
abbrev pub RunKnown : List ℕ → List ℕ → Endian → ℕ → Said AttrsRead → Type 0
RunKnown s vendors e at (gives x) = AllKnown s vendors e x.attrs × (at ≤ x.stopped)
RunKnown s vendors e at (refuses number place counts) = Unit

-- the two cases of a test
pub by-test : {P : Type 0} (b : Bool) → (b ≡ true → P) → (b ≡ false → P) → P
by-test true f g = f refl
by-test false f g = g refl

module _ (s vendors : List ℕ) (e : Endian) where
  ending-known : (at n : ℕ) (told : Result ℕ Unread) → known vendors n ≡ true → value_end (form_of n) e s (at + 2) ≡ told → Ahead s (at + 2 + 1) told
      → AttributeKnown s vendors e at (ending n (at + 2) told)
  unfolding ending
  ending-known at n (Ok next) k p ahead = (record { is_known = k; next = next; ends = p }, omega arith)
  ending-known at n (Err why) k p ahead = tt

  attribute-known : (at : ℕ) → AttributeKnown s vendors e at (read_attribute vendors e s at)
  unfolding read_attribute numbered
  attribute-known at =
      let n : ℕ = value_of e 2 s at in
      read_all (numbered vendors e s at) (Err (missing.Short at)) e 2 s at (AttributeKnown s vendors e at)
      (λ t. cond-all (AttributeKnown s vendors e at) (known vendors n)
      (λ k. ending-known at n (value_end (form_of n) e s (at + 2)) k refl (value-ahead (form_of n) e s (at + 2))) (λ k. tt)) (λ t. tt)

  first-known : {a : Attr} {at next : ℕ} (r : Said AttrsRead) → AttrKnown s vendors e a → at ≤ next → RunKnown s vendors e next r
      → RunKnown s vendors e at (r >>= (λ later. gives (ran (a ∷ later.attrs) later.high later.stopped)))
  unfolding ◌>>=◌
  first-known (gives later) x forward others = (more_known x others.0, omega (arith, others.1))
  first-known (refuses number place counts) x forward others = tt

  on-known : (at : ℕ) (x : Result Attribute Unread) (k : ℕ → ℕ → Said AttrsRead) → AttributeKnown s vendors e at x
      → ((n next : ℕ) → RunKnown s vendors e next (k n next))
      → RunKnown s vendors e at (read_on x k)
  unfolding read_on
  on-known at (Ok a) k x others = first-known (k a.number a.next) x.0 x.1 (others a.number a.next)
  on-known at (Err (missing.Short field)) k x others = tt
  on-known at (Err (missing.Unknown field)) k x others = tt

  module _ (global : ℕ) (root : Bool) (end : ℕ) where
    -- after a number, a HighPc may have been seen
    seen : Bool → ℕ → Bool
    seen high n = high || (root && eqb n number.high_pc)

    -- the theorem
    pub run-known : (f : ℕ) (high : Bool) (at : ℕ) → RunKnown s vendors e at (read_run (source vendors global s) e root end f high at)
    unfolding read_run seen
    run-known zero high at = (none_known, le_refl at)
    run-known (suc f) high at =
        by-test (ltb at end)
        (λ t. by-test (run_ends global s e high at) (λ u. rw (t, u, read_run) (none_known, le_refl at))
        (λ u. rw (t, u, read_run)
        (on-known at (read_attribute vendors e s at) (λ n next. read_run (source vendors global s) e root end f (seen high n) next) (attribute-known at)
        (λ n next. run-known f (seen high n) next))))
        (λ t. rw (t, read_run) (none_known, le_refl at))
