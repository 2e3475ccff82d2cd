-- Bytes that stand at a place of a section: they are inside it, and byte by byte the same.
use Prim.Native.Nat.{ℕ, zero, suc, ◌+◌, ◌-◌, ◌≤◌, ◌<◌}
use native.Mathlib.Nat.{add_assoc, add-zero, zero-add}
use native.Mathlib.Decide.{dec_le}
use native.Mathlib.Omega.{arith}
use mathlib.Core.Path.{◌≡◌, sym, ap, ◌∙◌}
use mathlib.Core.List.{List, [], ◌∷◌, ◌++◌}
use lib.ListN.{length, get_or, take, drop, length-append, length-drop, get_or-append}
use lib.Seq.{length-take-le, get_or-append-add, get_or-take, get_or-drop, ext_get_or}

-- the bytes xs stand in s from `at` on
pub record Stands (s : List ℕ) (at : ℕ) (xs : List ℕ) : Type 0 where
  pub fits : at + length xs ≤ length s
  pub same : (i : ℕ) → i < length xs → get_or s (at + i) 0 ≡ get_or xs i 0

-- a section stands at its own beginning, and nothing else of its length does
pub all-stands : (s : List ℕ) → Stands s 0 s
all-stands s = record { fits = omega arith; same = λ i h. ap (λ (k : ℕ). get_or s k 0) (zero-add i) }

pub stands-all : {s xs : List ℕ} → Stands s 0 xs → length xs ≡ length s → xs ≡ s
stands-all {s} {xs} q h = ext_get_or 0 xs s h (λ i b. sym (q.same i b) ∙ ap (λ (k : ℕ). get_or s k 0) (zero-add i))

-- nothing stands everywhere inside
pub none-stands : {s : List ℕ} {at : ℕ} → at ≤ length s → Stands s at []
none-stands h = record { fits = omega arith; same = λ i b. absurd (omega arith) }

-- two runs of bytes, one after the other
module _ (s : List ℕ) (at : ℕ) (xs ys : List ℕ) where
  pub front-stands : Stands s at (xs ++ ys) → Stands s at xs
  front-stands q =
      let whole : length (xs ++ ys) ≡ length xs + length ys = length-append xs ys in
      let inside : at + length (xs ++ ys) ≤ length s = q.fits in
      record { fits = omega arith; same = λ i h. q.same i (omega arith) ∙ get_or-append xs ys 0 i h }

  pub back-stands : Stands s at (xs ++ ys) → Stands s (at + length xs) ys
  back-stands q =
      let whole : length (xs ++ ys) ≡ length xs + length ys = length-append xs ys in
      let inside : at + length (xs ++ ys) ≤ length s = q.fits in
      record {
        fits = omega arith;
        same = λ i h. ap (λ (k : ℕ). get_or s k 0) (add_assoc at (length xs) i) ∙ q.same (length xs + i) (omega arith) ∙ get_or-append-add xs ys i 0;
      }

  pub both-stand : Stands s at xs → Stands s (at + length xs) ys → Stands s at (xs ++ ys)
  both-stand p q =
      let whole : length (xs ++ ys) ≡ length xs + length ys = length-append xs ys in
      let inside : at + length xs + length ys ≤ length s = q.fits in
      record { fits = omega arith; same = byte }
    where
      byte : (i : ℕ) → i < length (xs ++ ys) → get_or s (at + i) 0 ≡ get_or (xs ++ ys) i 0
      byte i h =
          let whole : length (xs ++ ys) ≡ length xs + length ys = length-append xs ys in
          elim (dec_le (suc i) (length xs)) [
            | yes b ↦ p.same i b ∙ sym (get_or-append xs ys 0 i b)
            | no b ↦
                let k : ℕ = i - length xs in
                let place : at + i ≡ at + length xs + k = omega arith in
                let index : length xs + k ≡ i = omega arith in
                ap (λ (j : ℕ). get_or s j 0) place ∙ q.same k (omega arith) ∙ sym (get_or-append-add xs ys k 0) ∙ ap (λ (j : ℕ). get_or (xs ++ ys) j 0) index
          ]

-- one byte
module _ (s : List ℕ) (at x : ℕ) where
  pub byte-stands : at < length s → get_or s at 0 ≡ x → Stands s at (x ∷ [])
  byte-stands h p = record { fits = omega arith; same = only }
    where
      only : (i : ℕ) → i < 1 → get_or s (at + i) 0 ≡ get_or (x ∷ []) i 0
      only zero b = ap (λ (k : ℕ). get_or s k 0) (add-zero at) ∙ p
      only (suc i) b = absurd (omega arith)

  pub stands-byte : (xs : List ℕ) → Stands s at (x ∷ xs) → get_or s at 0 ≡ x
  stands-byte xs q = ap (λ (k : ℕ). get_or s k 0) (sym (add-zero at)) ∙ q.same 0 (omega arith)

-- the n bytes from `at` on
module _ (s : List ℕ) (at n : ℕ) (inside : at + n ≤ length s) where
  pub part_length : length (take n (drop at s)) ≡ n
  part_length = length-take-le n (drop at s) (rw length-drop (omega arith))

  pub part-stands : Stands s at (take n (drop at s))
  part-stands =
      let count : length (take n (drop at s)) ≡ n = part_length in
      record { fits = omega arith; same = λ i h. sym (get_or-take n (drop at s) i 0 (omega arith) ∙ get_or-drop at s i 0) }
