-- Bytes that stand at a place of a section, as a part of it and between what is before and behind.
use Rattle.std.proofs.Common.{◌≡◌, ℕ, ◌+◌, ◌<◌, ◌≤◌, List, ◌++◌, length, get_or, take, drop, sym, ap, ◌∙◌, subst, add_assoc, arith, length-append, take-append-drop, length-take-le, drop-drop, get_or-append-add, ext_get_or}
use native.Mathlib.Decide.{dec_le}
use lib.ListN.{get_or-append, get_or-eq_default}
use Rattle.numbers.specs.Written.{Bytes}
use Rattle.numbers.proofs.Laws.Written.{inside-there}
use Rattle.numbers.proofs.Laws.Stands.{Stands, part_length, part-stands}
use Rattle.attributes.specs.Parts.{part_at}

-- between what is before and behind
pub split-stands : (xs ys zs : List ℕ) → Stands (xs ++ (ys ++ zs)) (length xs) ys
split-stands xs ys zs =
    let back : length (ys ++ zs) ≡ length ys + length zs = length-append ys zs in
    let whole : length (xs ++ (ys ++ zs)) ≡ length xs + length (ys ++ zs) = length-append xs (ys ++ zs) in
    record { fits = omega arith; same = λ i h. get_or-append-add xs (ys ++ zs) i 0 ∙ get_or-append ys zs 0 i h }

-- what stands between two parts of a section
pub stands_at : {s : List ℕ} {at : ℕ} (before body behind : List ℕ) → s ≡ before ++ (body ++ behind) → length before ≡ at → Stands s at body
stands_at {s} before body behind p h =
    subst (λ (k : ℕ). Stands s k body) h (subst (λ (u : List ℕ). Stands u (length before) body) (sym p) (split-stands before body behind))

module _ {s : List ℕ} {at : ℕ} {xs : List ℕ} (q : Stands s at xs) where
  stands-take : take (length xs) (drop at s) ≡ xs
  stands-take =
      let n : ℕ = length xs in
      let count : length (take n (drop at s)) ≡ n = part_length s at n q.fits in
      let part : Stands s at (take n (drop at s)) = part-stands s at n q.fits in
      ext_get_or 0 (take n (drop at s)) xs count (λ i h. sym (part.same i h) ∙ q.same i (omega arith))

  pub stands-part : part_at s at (length xs) ≡ xs
  unfolding part_at
  stands-part = rw (inside-there s at (length xs) q.fits) stands-take

  pub stands-split : s ≡ take at s ++ (xs ++ drop (at + length xs) s)
  stands-split =
      sym (take-append-drop at s)
      ∙ ap (λ (u : List ℕ). take at s ++ u)
      (sym (take-append-drop (length xs) (drop at s))
      ∙ ap (λ (u : List ℕ). u ++ drop (length xs) (drop at s)) stands-take
      ∙ ap (λ (u : List ℕ). xs ++ u) (drop-drop (length xs) at s))

  pub front_length : length (take at s) ≡ at
  front_length = length-take-le at s (omega (arith, q.fits))

  -- what stands in them stands in the section
  pub stands-within : {i : ℕ} {ys : List ℕ} → Stands xs i ys → Stands s (at + i) ys
  stands-within {i} {ys} p =
      let outer : at + length xs ≤ length s = q.fits in
      let inner : i + length ys ≤ length xs = p.fits in
      record {
        fits = omega arith;
        same = λ k h. ap (λ (j : ℕ). get_or s j 0) (add_assoc at i k) ∙ q.same (i + k) (omega arith) ∙ p.same k h;
      }

  pub bytes-within : Bytes s → Bytes xs
  bytes-within small = record { small = byte }
    where
      byte : (i : ℕ) → get_or xs i 0 < 256
      byte i =
          elim (dec_le (i + 1) (length xs)) [
            | yes h ↦ subst (λ (k : ℕ). k < 256) (q.same i (omega arith)) (small.small (at + i))
            | no h ↦ subst (λ (k : ℕ). k < 256) (sym (get_or-eq_default xs 0 (omega arith))) (omega arith)
          ]
