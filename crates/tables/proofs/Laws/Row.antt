-- What follows from `Row`: what the code reads and stores, and that a table's rows and attributes are those that were stored.
use Prim.Native.Nat.{ℕ, ◌+◌, ◌*◌, ◌≤◌, ◌<◌}
use native.Mathlib.Nat.{add-zero}
use native.Mathlib.Omega.{arith}
use mathlib.Core.Path.{◌≡◌, refl, sym}
use mathlib.Core.List.{List, ◌++◌}
use lib.ListN.{length, get_or}
use lib.Seq.{sets}
use Rattle.tables.specs.Row.{row_width, attr_width, row_words, attr_words, rows_words, attrs_words, row_at, attr_at, rows_from, attrs_from}
use Rattle.tables.proofs.Laws.Flat.{Kind, length-all, runs_append, all_back}
use Rattle.tables.specs.declared.row.Row.{Row}
use Rattle.tables.specs.declared.row.Attr.{Attr}

-- ---- reading, word by word

module _ (t : List ℕ) (i : ℕ) where
  pub row_read : {k d f a n u : ℕ} → k ≡ get_or t (i * row_width) 0 → d ≡ get_or t (i * row_width + 1) 0 → f ≡ get_or t (i * row_width + 2) 0
      → a ≡ get_or t (i * row_width + 3) 0 → n ≡ get_or t (i * row_width + 4) 0 → u ≡ get_or t (i * row_width + 5) 0
      → record { key = k; kind = d; flags = f; first = a; count = n; unit = u } ≡ row_at t i
  unfolding row_at
  row_read p₁ p₂ p₃ p₄ p₅ p₆ = cc

  pub attr-read : {n v : ℕ} → n ≡ get_or t (i * attr_width) 0 → v ≡ get_or t (i * attr_width + 1) 0 → record { number = n; value = v } ≡ attr_at t i
  unfolding attr_at
  attr-read p q = cc

-- ---- a table's rows and attributes are those that were stored

-- only a row's own words are read, and they say it
pub row_same : (t u : List ℕ) (i : ℕ) → ((k : ℕ) → k < row_width → get_or t (i * row_width + k) 0 ≡ get_or u (i * row_width + k) 0) → row_at t i ≡ row_at u i
unfolding row_at
row_same t u i h =
    let h₀ : get_or t (i * row_width) 0 ≡ get_or u (i * row_width) 0 = rw add-zero at (h 0 (omega arith)) in
    cc (h 1 (omega arith), h 2 (omega arith), h 3 (omega arith), h 4 (omega arith), h 5 (omega arith))

row_is : (t : List ℕ) (i : ℕ) (r : Row) → ((k : ℕ) → k < row_width → get_or t (i * row_width + k) 0 ≡ get_or (row_words r) k 0) → row_at t i ≡ r
unfolding row_words
row_is t i r h =
    let h₀ : get_or t (i * row_width) 0 ≡ r.key = rw add-zero at (h 0 (omega arith)) in
    sym (row_read t i (sym h₀) (sym (h 1 (omega arith))) (sym (h 2 (omega arith)))
    (sym (h 3 (omega arith))) (sym (h 4 (omega arith))) (sym (h 5 (omega arith))))

attr-same : (t u : List ℕ) (i : ℕ) → ((k : ℕ) → k < attr_width → get_or t (i * attr_width + k) 0 ≡ get_or u (i * attr_width + k) 0) → attr_at t i ≡ attr_at u i
unfolding attr_at
attr-same t u i h =
    let h₀ : get_or t (i * attr_width) 0 ≡ get_or u (i * attr_width) 0 = rw add-zero at (h 0 (omega arith)) in
    cc (h 1 (omega arith))

attr-is : (t : List ℕ) (i : ℕ) (a : Attr) → ((k : ℕ) → k < attr_width → get_or t (i * attr_width + k) 0 ≡ get_or (attr_words a) k 0) → attr_at t i ≡ a
unfolding attr_words
attr-is t i a h =
    let h₀ : get_or t (i * attr_width) 0 ≡ a.number = rw add-zero at (h 0 (omega arith)) in
    sym (attr-read t i (sym h₀) (sym (h 1 (omega arith))))

row_kind : Kind Row
unfolding row_words rows_words rows_from
row_kind =
    record {
      width = row_width;
      words = row_words;
      all = rows_words;
      one = row_at;
      from = rows_from;
      words_length = λ r. refl;
      all_none = refl;
      all_more = λ r rs. refl;
      from_none = λ t i. refl;
      from_more = λ t i n. refl;
      one_same = row_same;
      one_is = row_is;
    }

attr_kind : Kind Attr
unfolding attr_words attrs_words attrs_from
attr_kind =
    record {
      width = attr_width;
      words = attr_words;
      all = attrs_words;
      one = attr_at;
      from = attrs_from;
      words_length = λ a. refl;
      all_none = refl;
      all_more = λ a rest. refl;
      from_none = λ t i. refl;
      from_more = λ t i n. refl;
      one_same = attr-same;
      one_is = attr-is;
    }

-- the rows

pub rows_long : (rs : List Row) → length (rows_words rs) ≡ length rs * row_width
unfolding row_kind
rows_long rs = length-all row_kind rs

pub rows_append : (t : List ℕ) (i : ℕ) (xs ys : List Row)
    → sets t (i * row_width) (rows_words (xs ++ ys)) ≡ sets (sets t (i * row_width) (rows_words xs)) ((i + length xs) * row_width) (rows_words ys)
unfolding row_kind
rows_append t i xs ys = runs_append row_kind t i xs ys

pub rows_back : (t : List ℕ) (xs : List Row) → length xs * row_width ≤ length t → rows_from (sets t 0 (rows_words xs)) 0 (length xs) ≡ xs
unfolding row_kind
rows_back t xs h = all_back row_kind t 0 xs (omega arith)

-- the attributes

pub attrs-long : (xs : List Attr) → length (attrs_words xs) ≡ length xs * attr_width
unfolding attr_kind
attrs-long xs = length-all attr_kind xs

pub attrs-append : (t : List ℕ) (i : ℕ) (xs ys : List Attr)
    → sets t (i * attr_width) (attrs_words (xs ++ ys)) ≡ sets (sets t (i * attr_width) (attrs_words xs)) ((i + length xs) * attr_width) (attrs_words ys)
unfolding attr_kind
attrs-append t i xs ys = runs_append attr_kind t i xs ys

pub attrs-back : (t : List ℕ) (xs : List Attr) → length xs * attr_width ≤ length t → attrs_from (sets t 0 (attrs_words xs)) 0 (length xs) ≡ xs
unfolding attr_kind
attrs-back t xs h = all_back attr_kind t 0 xs (omega arith)
