-- What follows from `Put`: texts one after the other, and a text in a lent part.
use Prim.Native.Nat.{ℕ, suc, ◌+◌, ◌-◌, ◌≤◌, ◌<◌, min}
use native.Mathlib.Nat.{add-zero}
use native.Mathlib.Numerals.{add-one}
use native.Mathlib.Decide.{dec_le}
use native.Mathlib.Omega.{arith}
use mathlib.Core.Path.{◌≡◌, refl, sym, ap, ◌∙◌}
use mathlib.Core.Logic.{◌≢◌}
use mathlib.Core.List.{List, [], ◌∷◌, ◌++◌}
use lib.ListN.{length, get_or, take, drop, set, length-append, length-set, drop_of_length-le}
use lib.Seq.{set_comm, drop-cons, sets, length-sets}
use Rattle.lent.proofs.Laws.Stores.{sets-append, sets-out, sets-rest}
use Rattle.digits.specs.Put.{Put}

-- nothing is written where a text is empty
pub put-none : (at : ℕ) (l : List ℕ) → Put [] at at l l
put-none at l = record { place_is = omega arith; bytes_are = refl }

-- a text after a text
pub put-after : {xs ys : List ℕ} {at p q : ℕ} {a b c : List ℕ} → Put xs at p a b → Put ys p q b c → Put (xs ++ ys) at q a c
put-after {xs} {ys} {at} {p} {q} {a} {b} {c} f g =
    record {
      place_is = omega (arith, length-append xs ys, f.place_is, g.place_is);
      bytes_are = g.bytes_are ∙ rw (f.bytes_are, f.place_is) (sym (sets-append a at xs ys));
    }

-- a run's last byte may be stored first
pub sets_last : (l : List ℕ) (i : ℕ) (xs : List ℕ) (x : ℕ) → sets l i (xs ++ (x ∷ [])) ≡ sets (set l (i + length xs) x) i xs
sets_last l i [] x = rw add-zero
sets_last l i (y ∷ ys) x =
    let next : suc i + length ys ≡ i + suc (length ys) = omega arith in
    let apart : i ≢ i + suc (length ys) = omega arith in
    sets_last (set l i y) (suc i) ys x
    ∙ ap (λ (k : ℕ). sets (set (set l i y) k x) (suc i) ys) next
    ∙ ap (λ (m : List ℕ). sets m (suc i) ys) (set_comm l i (i + suc (length ys)) y x apart)

-- a text byte by byte: the byte at i is stored, and those after it are left
pub text-next : (l text : List ℕ) (i : ℕ) {m : List ℕ} → i < length text → m ≡ set l i (get_or text i 0)
    → sets m (i + 1) (drop (i + 1) text) ≡ sets l i (drop i text)
text-next l text i h e = rw (e, add-one, drop-cons text i 0)

pub text-done : (l text : List ℕ) (i : ℕ) → length text ≤ i → sets l i (drop i text) ≡ l
text-done l text i h = rw (drop_of_length-le text h)

-- ---- the rest of a line

-- the rest begins at its place, or at the end where that lies past it
rest-place : (l : List ℕ) (at : ℕ) (text : List ℕ) → sets l (min at (length l)) text ≡ sets l at text
rest-place l at text =
    elim (dec_le at (length l)) [
      | yes h ↦ let e : min at (length l) ≡ at = omega arith in ap (λ (k : ℕ). sets l k text) e
      | no h ↦ sets-out l (min at (length l)) text (omega arith) ∙ sym (sets-out l at text (omega arith))
    ]

-- a field written into the lent rest of a line is written into the line
pub put_rest : (text l : List ℕ) (at : ℕ) {n m : ℕ} {part : List ℕ} → n ≡ min at (length l) → Put text 0 m (take (length l - n) (drop n l)) part
    → Put text at (at + m) l (take n l ++ (part ++ drop (length l - n) (drop n l)))
put_rest text l at {n} {m} {part} e f =
    record {
      place_is = omega (arith, f.place_is);
      bytes_are =
          sets-rest l n text f.bytes_are ∙ ap (λ (k : ℕ). sets l k text) e ∙ rest-place l at text;
    }

-- a text changes no length
pub put-length : {text : List ℕ} {at next : ℕ} {before after : List ℕ} → Put text at next before after → length after ≡ length before
put-length {text} {at} {next} {before} f = ap length f.bytes_are ∙ length-sets before at text

pub set-length : (l : List ℕ) (i x : ℕ) {m : List ℕ} → m ≡ set l i x → length m ≡ length l
set-length l i x e = ap length e ∙ length-set l i x
