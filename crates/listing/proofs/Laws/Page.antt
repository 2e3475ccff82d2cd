-- The lines of a table's rows, turn by turn.
use Prim.Native.Nat.{ℕ, suc, ◌+◌, ◌*◌, ◌-◌, ◌^◌, ◌≤◌, ◌<◌}
use native.Mathlib.Numerals.{add-one}
use native.Mathlib.Omega.{arith}
use mathlib.Core.Path.{◌≡◌, sym, ◌∙◌}
use mathlib.Core.List.{List, ◌++◌}
use lib.ListN.{length, get_or, take}
use lib.Seq.{length-take-le}
use Rattle.tables.specs.Row.{row_at}
use Rattle.tables.specs.declared.row.Row.{Row}
use Rattle.listing.specs.Text.{line_limit, page_limit, header_text, refusal_text, row_text, rows_text, listing_text}
use Rattle.listing.proofs.Laws.Text.{header-length, row-length, refusal-length}
use Rattle.digits.specs.Put.{Put}
use Rattle.listing.specs.Text.{Printed}
use Rattle.digits.proofs.Laws.Put.{put-none, put-after, put-length}

module _ (rows room : List ℕ) (n at : ℕ) (page₀ : List ℕ) where
  -- i rows are written, up to the place `next`: whatever writes the others there has written all
  pub record RowsLeft (page : List ℕ) (next i : ℕ) : Type 0 where
    pub inside : i ≤ n
    pub same : length page ≡ length page₀
    pub near : next ≤ at + i * line_limit
    pub rest : (q : ℕ) (c : List ℕ) → Put (rows_text rows room i (n - i)) next q page c → Put (rows_text rows room 0 n) at q page₀ c

  rows-one : (i : ℕ) → i < n
      → rows_text rows room i (n - i) ≡ row_text (row_at rows i).key (get_or room (2 * i) 0) (row_at rows i).kind (row_at rows i).unit ++ rows_text rows room (i + 1) (n - (i + 1))
  unfolding rows_text
  rows-one i h =
      let e : n - i ≡ suc (n - (i + 1)) = omega arith in
      rw (e, add-one)

  -- one row more
  pub rows-again : {page p : List ℕ} {next r i : ℕ} (row : Row) (depth : ℕ) → RowsLeft page next i → i < n → row ≡ row_at rows i → depth ≡ get_or room (2 * i) 0
      → depth < 2 ^ 32 → Put (row_text row.key depth row.kind row.unit) next r page p → RowsLeft p r (i + 1)
  rows-again {page} {p} {next} {r} {i} row depth left h e d small f =
      record {
        inside = omega arith;
        same = put-length f ∙ left.same;
        near = omega (arith, left.near, f.place_is, row-length row.key depth row.kind row.unit small);
        rest = λ q c g. left.rest q c (rw (rows-one i h, ← e, ← d) (put-after f g));
      }

  pub rows-done : {page : List ℕ} {next i : ℕ} → RowsLeft page next i → n ≤ i → Put (rows_text rows room 0 n) at next page₀ page
  unfolding rows_text
  rows-done {page} {next} {i} left h =
      let none : n - i ≡ 0 = omega arith in
      left.rest next page (rw none (put-none next page))

-- ---- a page

pub refusal-printed : (number place : ℕ) {r : ℕ} {a b : List ℕ} → number < 2 ^ 32 → Put (refusal_text number place) 0 r a b
    → Printed (refusal_text number place) r a b
refusal-printed number place h f = record { put = f; fits = omega (arith, refusal-length number place h, f.place_is) }

pub listing-printed : (rows room : List ℕ) (n : ℕ) {p r : ℕ} {a b c : List ℕ} → n ≤ 1024 → Put (header_text n) 0 p a b
    → Put (rows_text rows room 0 n) p r b c × r ≤ p + n * line_limit → Printed (listing_text rows room n) r a c
listing-printed rows room n h f g =
    record { put = put-after f g.0; fits = omega (arith, header-length n (omega arith), f.place_is, g.1) }

-- so many bytes of a page that holds the text are there to be shown
pub printed-shown : {text : List ℕ} {r : ℕ} {a b : List ℕ} → Printed text r a b → length a ≡ page_limit → r ≡ length (take r b)
printed-shown {text} {r} {a} {b} f h = sym (length-take-le r b (omega (arith, put-length f.put, f.fits)))
