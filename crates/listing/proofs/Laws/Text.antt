-- What follows from `Text`: the lines, and how long they are.
use Prim.Native.Nat.{ℕ, ◌+◌, ◌^◌, ◌≤◌, ◌<◌}
use native.Mathlib.Omega.{arith}
use mathlib.Core.List.{List}
use lib.ListN.{length, length-append}
use lib.Dec.{eqb}
use Rattle.numbers.proofs.Laws.Tests.{cond-all}
use Rattle.tables.specs.Unit.{no_unit}
use Rattle.digits.proofs.Laws.Digits.{digits-length, decimal-length, decimal-short}
use Rattle.digits.specs.Digits.{hex_text, decimal_text}
use Rattle.listing.specs.Text.{space, newline, rows_word, refused_word, at_word, line_limit, header_text, entry_text, unit_text, row_text, refusal_text}
use Rattle.digits.specs.Put.{Put}
use Rattle.digits.proofs.Laws.Put.{put-after}

pub header-put : (n : ℕ) {at p q r : ℕ} {a b c d : List ℕ} → Put rows_word at p a b → Put (decimal_text n) p q b c → Put newline q r c d
    → Put (header_text n) at r a d
unfolding header_text
header-put n f g h = put-after (put-after f g) h

pub entry-put : (key depth kind : ℕ) {at p₁ p₂ p₃ p₄ p₅ : ℕ} {l l₁ l₂ l₃ l₄ l₅ : List ℕ} → Put (hex_text 8 key) at p₁ l l₁ → Put space p₁ p₂ l₁ l₂
    → Put (decimal_text depth) p₂ p₃ l₂ l₃ → Put space p₃ p₄ l₃ l₄ → Put (hex_text 4 kind) p₄ p₅ l₄ l₅ → Put (entry_text key depth kind) at p₅ l l₅
unfolding entry_text
entry-put key depth kind f₁ f₂ f₃ f₄ f₅ = put-after (put-after (put-after (put-after f₁ f₂) f₃) f₄) f₅

pub row_put : (key depth kind unit : ℕ) {at p₁ p₂ p₃ p₄ : ℕ} {l l₁ l₂ l₃ l₄ : List ℕ} → Put (entry_text key depth kind) at p₁ l l₁ → Put space p₁ p₂ l₁ l₂
    → Put (unit_text unit) p₂ p₃ l₂ l₃ → Put newline p₃ p₄ l₃ l₄ → Put (row_text key depth kind unit) at p₄ l l₄
unfolding row_text
row_put key depth kind unit f₁ f₂ f₃ f₄ = put-after (put-after (put-after f₁ f₂) f₃) f₄

pub refusal-put : (number place : ℕ) {at p₁ p₂ p₃ p₄ p₅ : ℕ} {l l₁ l₂ l₃ l₄ l₅ : List ℕ} → Put refused_word at p₁ l l₁
    → Put (decimal_text number) p₁ p₂ l₁ l₂ → Put at_word p₂ p₃ l₂ l₃ → Put (hex_text 8 place) p₃ p₄ l₃ l₄ → Put newline p₄ p₅ l₄ l₅
    → Put (refusal_text number place) at p₅ l l₅
unfolding refusal_text
refusal-put number place f₁ f₂ f₃ f₄ f₅ = put-after (put-after (put-after (put-after f₁ f₂) f₃) f₄) f₅

-- how long they are
pub header-length : (n : ℕ) → n < 2 ^ 64 → length (header_text n) ≤ line_limit
unfolding header_text
header-length n h = simp length-append (omega (arith, decimal-length n h))

unit-length : (unit : ℕ) → length (unit_text unit) ≤ 8
unfolding unit_text
unit-length unit = cond-all (λ (text : List ℕ). length text ≤ 8) (eqb unit no_unit) (λ e. omega arith) (λ d. omega (arith, digits-length 16 8 unit))

entry_length : (key depth kind : ℕ) → depth < 2 ^ 32 → length (entry_text key depth kind) ≤ 24
unfolding entry_text
entry_length key depth kind h = simp length-append (omega (arith, decimal-short depth h, digits-length 16 8 key, digits-length 16 4 kind))

pub row-length : (key depth kind unit : ℕ) → depth < 2 ^ 32 → length (row_text key depth kind unit) ≤ line_limit
unfolding row_text
row-length key depth kind unit h = simp length-append (omega (arith, entry_length key depth kind h, unit-length unit))

-- where they end
pub entry_place : (key depth kind : ℕ) {at r : ℕ} {a b : List ℕ} → depth < 2 ^ 32 → Put (entry_text key depth kind) at r a b → r ≤ at + 24
entry_place key depth kind h f = omega (arith, entry_length key depth kind h, f.place_is)

pub unit-place : (unit : ℕ) {at r : ℕ} {a b : List ℕ} → Put (unit_text unit) at r a b → r ≤ at + 8
unit-place unit f = omega (arith, unit-length unit, f.place_is)

pub refusal-length : (number place : ℕ) → number < 2 ^ 32 → length (refusal_text number place) ≤ line_limit
unfolding refusal_text
refusal-length number place h = simp length-append (omega (arith, decimal-short number h, digits-length 16 8 place))
