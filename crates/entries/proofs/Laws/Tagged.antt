-- A size of four bytes, a tag of two and what follows them, as they stand one after the other.
use Prim.Native.Nat.{ℕ, ◌+◌, ◌^◌, ◌<◌}
use native.Mathlib.Omega.{arith}
use mathlib.Core.Path.{◌≡◌}
use mathlib.Core.List.{List, ◌++◌}
use lib.ListN.{length, length-append}
use Rattle.numbers.specs.Value.{value_of}
use Rattle.numbers.specs.declared.Endian.{Endian}
use Rattle.numbers.specs.Written.{bytes_of}
use Rattle.numbers.proofs.Laws.Stands.{Stands, front-stands, back-stands, both-stand}
use Rattle.numbers.proofs.Laws.Written.{bytes-length, number_read}

-- they stand at `at`
pub record Tagged (e : Endian) (s : List ℕ) (at size kind : ℕ) (body : List ℕ) : Type 0 where
  pub size_stands : Stands s at (bytes_of e 4 size)
  pub tag_stands : Stands s (at + 4) (bytes_of e 2 kind)
  pub body_stands : Stands s (at + 6) body

module _ (e : Endian) (size kind : ℕ) where
  head-length : length (bytes_of e 4 size ++ bytes_of e 2 kind) ≡ 6
  head-length =
      let four : length (bytes_of e 4 size) ≡ 4 = bytes-length e 4 size in
      let two : length (bytes_of e 2 kind) ≡ 2 = bytes-length e 2 kind in
      rw length-append (omega arith)

  -- the size counts itself and the tag
  pub tagged-length : (body : List ℕ) → length (bytes_of e 4 size ++ bytes_of e 2 kind ++ body) ≡ length body + 6
  tagged-length body =
      let six : length (bytes_of e 4 size ++ bytes_of e 2 kind) ≡ 6 = head-length in
      rw (length-append (bytes_of e 4 size ++ bytes_of e 2 kind) body) (omega arith)

module _ (e : Endian) (s : List ℕ) (at size kind : ℕ) (body : List ℕ) where
  pub tagged : Stands s at (bytes_of e 4 size ++ bytes_of e 2 kind ++ body) → Tagged e s at size kind body
  tagged q =
      let four : List ℕ = bytes_of e 4 size in
      let two : List ℕ = bytes_of e 2 kind in
      let begin : Stands s at (four ++ two) = front-stands s at (four ++ two) body q in
      record {
        size_stands = front-stands s at four two begin;
        tag_stands = rw (bytes-length e 4 size) at (back-stands s at four two begin);
        body_stands = rw (head-length e size kind) at (back-stands s at (four ++ two) body q);
      }

  pub tagged-stands : Tagged e s at size kind body → Stands s at (bytes_of e 4 size ++ bytes_of e 2 kind ++ body)
  tagged-stands t =
      let four : List ℕ = bytes_of e 4 size in
      let two : List ℕ = bytes_of e 2 kind in
      both-stand s at (four ++ two) body (both-stand s at four two t.size_stands (rw (bytes-length e 4 size) t.tag_stands))
      (rw (head-length e size kind) t.body_stands)

-- the tag is what two bytes behind the size say
pub tag_read : {e : Endian} {s : List ℕ} {at size kind : ℕ} {body : List ℕ} → kind < 256 ^ 2 → Tagged e s at size kind body
    → value_of e 2 s (at + 4) ≡ kind
tag_read {e} {s} {at} {kind = kind} small t = number_read e 2 s (at + 4) kind small t.tag_stands
