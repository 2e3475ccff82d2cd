-- What follows from `Fields`, for each way that the code comes to an answer.
use Rattle.std.specs.Prelude.{Option, Some, None, ok_or}
use Prim.Native.Nat.{ℕ, zero, suc, ◌+◌, ◌-◌, ◌≤◌, ◌<◌}
use native.Mathlib.Nat.{not-suc-le-zero}
use native.Mathlib.Omega.{arith}
use mathlib.Core.Path.{◌≡◌, refl, sym, ◌∙◌}
use mathlib.Core.Bool.{cond}
use mathlib.Core.List.{List}
use Rattle.format.specs.declared.refusal.Reason.TheVariants as reason
use Rattle.tables.specs.Inside.Keyed.{refused_at}
use Rattle.records.proofs.Laws.Taken.{by-case}
use Rattle.records.specs.Scan.{attribute_at}
use Rattle.attributes.specs.Parts.{block_at}
use Rattle.blocks.specs.Location.{process_address}
use Rattle.format.specs.Said.{gives, refuses}
use Rattle.records.specs.Fields.{is_sought, last_from, location_block, as_address, address_by}
use Rattle.records.specs.declared.scan.Run.{Run}
use Rattle.records.specs.declared.fields.Sought.{Sought}

-- what the code was told decides a definition that goes by it
pub by-told : {A B : Type 0} (f : A → B) {told x y : A} {r : B} → told ≡ x → told ≡ y → r ≡ f y → r ≡ f x
by-told f is p h = by-case f (sym is ∙ p) h

-- ---- the last that is sought

-- the last of k decides, or those before it do
pub last-step : (what : Sought) (attrs : List ℕ) (first k : ℕ) → 0 < k
    → last_from what attrs first k
    ≡ cond (is_sought what (attribute_at attrs (first + (k - 1))).number) (Some (first + (k - 1))) (last_from what attrs first (k - 1))
unfolding last_from
last-step what attrs first zero h = absurd (not-suc-le-zero h)
last-step what attrs first (suc n) h = let before : suc n - 1 ≡ n = omega arith in rw (before, last_from)

pub last-none : (what : Sought) (attrs : List ℕ) (first k : ℕ) → k ≤ 0 → last_from what attrs first k ≡ None
unfolding last_from
last-none what attrs first zero h = refl
last-none what attrs first (suc n) h = absurd (not-suc-le-zero h)

pub ruleset lasts = (last-step, last-none)

-- ---- an address

pub address-there : (s attrs : List ℕ) (run : Run) (k : ℕ)
    → address_by s attrs run (Some k) ≡ as_address (process_address run.ends.section (block_at run.ends.«data» 2 s (attribute_at attrs k).value))
unfolding address_by location_block
address-there s attrs run k = refl

pub address-none : (s attrs : List ℕ) (run : Run) → address_by s attrs run None ≡ None
unfolding address_by
address-none s attrs run = refl

pub address-given : (x : ℕ) → as_address (gives x) ≡ Some x
unfolding as_address
address-given x = refl

pub address-refused : (number place : ℕ) (told : List ℕ) → as_address (refuses number place told) ≡ None
unfolding as_address
address-refused number place told = refl

pub ruleset addresses = (address-there, address-none, address-given, address-refused)
