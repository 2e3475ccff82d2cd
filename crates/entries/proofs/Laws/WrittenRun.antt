-- Attributes that are exact and were read were written by the standard, and reading stopped at their end.
use Prim.Native.Nat.{ℕ, zero, suc, ◌+◌, ◌%◌, ◌≤◌, ◌<◌}
use native.Mathlib.Nat.{le_refl}
use native.Mathlib.Omega.{arith}
use Rattle.std.specs.Prelude.{Err}
use mathlib.Core.Path.{◌≡◌, sym, ap, ◌∙◌}
use mathlib.Core.Bool.{true, false}
use mathlib.Core.List.{List, [], ◌∷◌, ◌++◌}
use lib.ListN.{length, length-append}
use borrow.Author.Tests.{lt-ltb}
use Rattle.numbers.specs.Value.{value_of, read_at}
use Rattle.numbers.specs.Written.{Bytes}
use Rattle.numbers.specs.declared.Endian.{Endian}
use Rattle.numbers.proofs.Laws.Stands.{Stands, none-stands, both-stand}
use Rattle.numbers.proofs.Laws.Written.{inside-there}
use Rattle.standard.specs.Numbers.{Form, form_number}
use Rattle.standard.specs.Entries.{Attribute, written_attribute, written_attributes}
use Rattle.standard.specs.Exact.{ValueEnds, Attributes}
use Rattle.standard.specs.Exact as exact
use Rattle.format.specs.Said.{gives, unread}
use Rattle.format.specs.Known.{known}
use Rattle.format.specs.declared.refusal.Reason.TheVariants as reason
use Rattle.format.proofs.Laws.Said.{step-gave, given_is, given-refused}
use Rattle.attributes.specs.Read.{ending, numbered, read_attribute}
use Rattle.attributes.specs.declared.value.Unread.TheVariants as missing
use Rattle.entries.specs.Source.{Source, source}
use Rattle.entries.specs.Run.{AttrsRead, found, read_on, run_ends, read_run}
use Rattle.entries.specs.Standard.{taken}
use Rattle.entries.proofs.Laws.KnownRun.{by-test}
use Rattle.entries.proofs.Laws.StandardAgrees.{on-listed, taken-agrees, form-agrees, ends-told}
use Rattle.entries.proofs.Laws.StandardRun.{run_step, run-stops}
use Rattle.entries.proofs.Laws.WrittenValue.{AttributeFound, attribute-found, value-forward}

-- attributes that stand at a place and end at another
pub record RunFound (numbers : List ℕ) (e : Endian) (s : List ℕ) (at next : ℕ) : Type 0 where
  pub found : List (Attribute numbers e)
  pub stands : Stands s at (written_attributes numbers e found)
  pub ends : at + length (written_attributes numbers e found) ≡ next

-- one attribute more, before the others
first_found : {numbers : List ℕ} {e : Endian} {s : List ℕ} {at next end : ℕ} → AttributeFound numbers e s at next → RunFound numbers e s next end
    → RunFound numbers e s at end
unfolding written_attributes
first_found {numbers} {e} {s} {at} {next} {end} x others =
    let front : List ℕ = written_attribute numbers e x.found in
    let back : List ℕ = written_attributes numbers e others.found in
    let whole : length (front ++ back) ≡ length front + length back = length-append front back in
    let here : at + length front ≡ next = x.ends in
    let there : next + length back ≡ end = others.ends in
    record { found = x.found ∷ others.found; stands = both-stand s at front back x.stands (rw here others.stands); ends = omega arith }

-- attributes end where they are said to, not before where they begin
attributes-forward : {e : Endian} {s : List ℕ} {end at : ℕ} → Attributes e s end at → at ≤ end
attributes-forward {end = end} exact.none = le_refl end
attributes-forward (exact.more at next form h p v rest) = omega arith

module _ (vendors : List ℕ) (e : Endian) (s : List ℕ) (at : ℕ) {next : ℕ} {form : Form} (has_form : value_of e 2 s at % 16 ≡ form_number form)
    (ends : ValueEnds e s form (at + 2) next) (fits : next ≤ length s) where
  -- a number and a value that ends inside are read where the number is known
  known_read : known vendors (value_of e 2 s at) ≡ true → read_attribute vendors e s at ≡ found (value_of e 2 s at) (at + 2) next
  unfolding read_attribute numbered ending read_at
  known_read k =
      let forward : at + 2 ≤ next = value-forward ends in
      rw (inside-there s at 2 (omega arith), k, form-agrees (value_of e 2 s at) form has_form, ends-told ends fits)

  unknown-read : known vendors (value_of e 2 s at) ≡ false → read_attribute vendors e s at ≡ Err (missing.Unknown at)
  unfolding read_attribute numbered read_at
  unknown-read k = let forward : at + 2 ≤ next = value-forward ends in rw (inside-there s at 2 (omega arith), k)

-- an unknown number refuses the run
run-refused : (r : Source) (e : Endian) (end f : ℕ) {at : ℕ} → at < end → read_attribute r.vendors e r.section at ≡ Err (missing.Unknown at)
    → read_run r e false end (suc f) false at ≡ unread reason.Attribute at at
unfolding read_run read_on run_ends
run-refused r e end f {at} h p = rw (lt-ltb at end h, p, read_run)

module _ (vendors : List ℕ) (global : ℕ) (e : Endian) (s : List ℕ) (small : Bytes s) (end : ℕ) (fits : end ≤ length s) where
  pub run-found : {at : ℕ} → Attributes e s end at → (f : ℕ) {x : AttrsRead} → length s < at + f
      → read_run (source vendors global s) e false end f false at ≡ gives x → RunFound (taken vendors) e s at end × (x.stopped ≡ end)
  unfolding written_attributes
  run-found exact.none f h read =
      let x = given_is (sym (run-stops (source vendors global s) e end f (le_refl end)) ∙ read) in
      (record { found = []; stands = none-stands fits; ends = omega arith }, ap (λ (run : AttrsRead). run.stopped) (sym x))
  run-found (exact.more at next form before p v rest) zero h read = absurd (omega arith)
  run-found (exact.more at next form before p v rest) (suc f) h read =
      let n : ℕ = value_of e 2 s at in
      let forward : next ≤ end = attributes-forward rest in
      let passed : at + 2 ≤ next = value-forward v in
      by-test (known vendors n)
      (λ k.
      let later = step-gave (read_run (source vendors global s) e false end f false next) _ (sym (run_step (source vendors global s) e end f before (known_read vendors e s at p v (omega arith) k)) ∙ read) in
      let others = run-found rest f (omega arith) later.1 in
      let first = attribute-found small (on-listed (taken vendors) (taken-agrees vendors n ∙ k)) p v (omega arith) in
      (first_found first others.0, ap (λ (run : AttrsRead). run.stopped) (sym (given_is later.2)) ∙ others.1))
      (λ k. absurd (given-refused (sym read ∙ run-refused (source vendors global s) e end f before (unknown-read vendors e s at p v (omega arith) k))))
