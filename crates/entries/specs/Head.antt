-- What an entry begins with (rules 1 to 3): a 4-byte size, and if that is 8 or more a 2-byte tag, all in data endianness.
use Rattle.std.specs.Prelude.{Result, Ok, Err, ℕ, ◌+◌, Bool, cond, List, leb, ltb, eqb}
use Rattle.numbers.specs.Value.{read_at}
use Rattle.numbers.specs.declared.Endian.{Endian}
use Rattle.format.specs.Lookup.{is_on}
use Rattle.format.specs.TagKind.{tags}
use Rattle.format.specs.TagKind as tag
use Rattle.format.specs.declared.refusal.Reason.TheVariants as reason
use Rattle.entries.specs.declared.head.Head.{Head}
use Rattle.entries.specs.declared.head.Head.TheVariants.{Null, Skipped, Root, Ordinary}
use Rattle.entries.specs.declared.head.HeadError.{HeadError}
use Rattle.format.specs.declared.refusal.Reason.{Reason}

-- no head, for this reason; and the first byte of the field that tells it
abbrev pub headless : Reason → ℕ → Result Head HeadError
headless why byte = Err (record { why = why; byte = byte })

-- a null entry of size 0 to 4 uses four bytes, one of 5 to 7 steps on to that size, even beyond the end
unfoldable pub null_end : ℕ → ℕ → ℕ
null_end at size = cond (leb size 4) (at + 4) (at + size)

-- the tag, at `place`, of an entry that ends at `end`: padding is an erased root where the flag is on, else it is stepped over
unfoldable pub tag_head : Bool → ℕ → ℕ → ℕ → Result Head HeadError
tag_head erased end place kind =
    cond (is_on kind tags) (cond (eqb kind tag.padding) (cond erased (Ok (Root end)) (Ok (Skipped end))) (Ok (Ordinary kind end)))
    (headless reason.Tag place)

-- the size of the entry at `at`
unfoldable pub size_head : Bool → List ℕ → Endian → ℕ → ℕ → Result Head HeadError
size_head erased s e at size =
    cond (ltb size 8) (Ok (Null (null_end at size))) (read_at (tag_head erased (at + size) (at + 4)) (headless reason.Short (at + 4)) e 2 s (at + 4))

-- what the entry at `at` begins with: short where size or tag is not there. What could not be read or is not known tells its first byte
unfoldable pub head_at : Bool → List ℕ → Endian → ℕ → Result Head HeadError
head_at erased s e at = read_at (size_head erased s e at) (headless reason.Short at) e 4 s at
