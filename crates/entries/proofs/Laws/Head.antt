-- What follows from `Head`, for each way that the code comes to a head.
use Rattle.std.specs.Prelude.{Result, Ok}
use Prim.Native.Nat.{ℕ, ◌+◌, ◌^◌, ◌≤◌, ◌<◌}
use native.Mathlib.Omega.{arith}
use mathlib.Core.Path.{◌≡◌, sym, ap, ◌∙◌, subst}
use mathlib.Core.Bool.{Bool}
use mathlib.Core.List.{List}
use lib.ListN.{length}
use lib.Dec.{leb, eqb}
use borrow.Author.Tests.{lt-ltb, le-ltb, leb-false}
use Rattle.numbers.proofs.Laws.Tests.{cond-all}
use Rattle.numbers.specs.Value.{read_at}
use Rattle.numbers.specs.declared.Endian.{Endian}
use Rattle.format.specs.Lookup.{is_on}
use Rattle.format.specs.TagKind.{tags}
use Rattle.format.specs.TagKind as tag
use Rattle.format.specs.declared.refusal.Reason.TheVariants as reason
use Rattle.entries.specs.Head.{headless, null_end, tag_head, size_head, head_at}
use Rattle.entries.specs.Inside.Promise.{HeadBounds, HeadRead}
use Rattle.entries.specs.declared.head.Head.{Head}
use Rattle.entries.specs.declared.head.Head.TheVariants.{Null}
use Rattle.entries.specs.declared.head.HeadError.{HeadError}

-- a null entry's end
module _ (at size : ℕ) where
  null-bounds : size < 8 → (at + 4 ≤ null_end at size) × (null_end at size ≤ at + 8)
  unfolding null_end
  null-bounds h =
      cond-all (λ (end : ℕ). (at + 4 ≤ end) × (end ≤ at + 8)) (leb size 4) (λ t. (omega arith, omega arith))
      (λ t. let k : 4 < size = leb-false size 4 t in (omega arith, omega arith))

-- a tag
module _ (erased : Bool) (end place kind : ℕ) where
  tag-bounds : (s : List ℕ) (at : ℕ) → at + 6 ≤ length s → at + 8 ≤ end → end ≤ at + 2 ^ 32 → HeadBounds s at (tag_head erased end place kind)
  unfolding tag_head
  tag-bounds s at h k l =
      cond-all (HeadBounds s at) (is_on kind tags)
      (λ m. cond-all (HeadBounds s at) (eqb kind tag.padding)
      (λ p. cond-all (HeadBounds s at) erased (λ q. (h, l)) (λ q. (omega arith, omega arith, l))) (λ p. (h, l))) (λ m. tt)

-- a size
module _ (erased : Bool) (s : List ℕ) (e : Endian) (at size : ℕ) (here : at + 4 ≤ length s) where
  pub size-null : {end : ℕ} → size < 8 → end ≡ null_end at size → HeadRead s at (size_head erased s e at size) (Ok (Null end))
  unfolding size_head
  size-null {end} h p =
      let q : null_end at size ≡ end = sym p in
      let b = null-bounds at size h in
      let low : at + 4 ≤ end = subst (λ (n : ℕ). at + 4 ≤ n) q b.0 in
      let high : end ≤ at + 8 = subst (λ (n : ℕ). n ≤ at + 8) q b.1 in
      record { answer = rw (lt-ltb size 8 h) (ap (λ (n : ℕ). Ok (Null n)) p); bounds = (here, low, high) }

  pub size-tag : (kind : ℕ) {r : Result Head HeadError} → 8 ≤ size → size < 2 ^ 32 → at + 6 ≤ length s → r ≡ tag_head erased (at + size) (at + 4) kind
      → tag_head erased (at + size) (at + 4) kind ≡ read_at (tag_head erased (at + size) (at + 4)) (headless reason.Short (at + 4)) e 2 s (at + 4)
      → HeadRead s at (size_head erased s e at size) r
  unfolding size_head
  size-tag kind {r} h l k p q =
      record {
        answer = rw (le-ltb size 8 h) (p ∙ q);
        bounds = subst (HeadBounds s at) (sym p) (tag-bounds erased (at + size) (at + 4) kind s at k (omega arith) (omega arith));
      }

  pub size-short : 8 ≤ size
      → headless reason.Short (at + 4) ≡ read_at (tag_head erased (at + size) (at + 4)) (headless reason.Short (at + 4)) e 2 s (at + 4)
      → {z : Result Head HeadError} → z ≡ headless reason.Short (at + 4) → HeadRead s at (size_head erased s e at size) z
  unfolding size_head
  size-short h p q = record { answer = q ∙ rw (le-ltb size 8 h) p; bounds = subst (HeadBounds s at) (sym q) tt }

-- a head that was read after its size
pub head-sized : (erased : Bool) (s : List ℕ) (e : Endian) (at size : ℕ) {r : Result Head HeadError} → HeadRead s at (size_head erased s e at size) r
    → size_head erased s e at size ≡ read_at (size_head erased s e at) (headless reason.Short at) e 4 s at → HeadRead s at (head_at erased s e at) r
unfolding head_at
head-sized erased s e at size h p = record { answer = h.answer ∙ p; bounds = h.bounds }

pub head-short : (erased : Bool) (s : List ℕ) (e : Endian) (at : ℕ)
    → headless reason.Short at ≡ read_at (size_head erased s e at) (headless reason.Short at) e 4 s at
    → {z : Result Head HeadError} → z ≡ headless reason.Short at → HeadRead s at (head_at erased s e at) z
unfolding head_at
head-short erased s e at p q = record { answer = q ∙ p; bounds = subst (HeadBounds s at) (sym q) tt }
