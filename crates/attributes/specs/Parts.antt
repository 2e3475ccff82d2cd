-- A string or a block as that part of the section: where it lies, and its bytes. What is not wholly inside is cut; of it there are no bytes.
use Rattle.std.specs.Prelude.{Option, Some, None, ℕ, ◌+◌, ◌≤◌, ◌≡◌, cond, List, [], length, take, drop, ltb}
use Rattle.numbers.specs.Value.{there, read_at}
use Rattle.numbers.specs.declared.Endian.{Endian}
use Rattle.format.specs.Lookup.{index_of}
use Rattle.attributes.specs.Text.{zero_from}
use Rattle.attributes.specs.declared.decode.Extent.{Extent}

-- ---- which part it is, said once: `is` makes something of its place and its length, `cut` stands for one that is not wholly inside

-- n bytes from a place on
abbrev pub part_by : {A : Type 0} → (ℕ → ℕ → A) → A → List ℕ → ℕ → ℕ → A
part_by is cut s from n = cond (there s from n) (is from n) cut

-- a block whose length has w bytes: the part behind them, as long as they say
abbrev pub block_by : {A : Type 0} → (ℕ → ℕ → A) → A → Endian → ℕ → List ℕ → ℕ → A
block_by part cut e w s at = read_at (λ n. part (at + w) n) cut e w s at

-- a text up to its zero
abbrev pub text_by : {A : Type 0} → (ℕ → ℕ → A) → A → List ℕ → ℕ → A
text_by is cut s at = cond (ltb (zero_from s at) (length s)) (is at (index_of 0 (drop at s))) cut

-- ---- where it lies

-- a place and a length
abbrev pub lies : ℕ → ℕ → Option Extent
lies place n = Some (record { place = place; length = n })

-- n bytes from a place on
unfoldable pub part_lies : List ℕ → ℕ → ℕ → Option Extent
part_lies s from n = part_by lies None s from n

-- the bytes of a block whose length has w bytes
unfoldable pub block_lies : Endian → ℕ → List ℕ → ℕ → Option Extent
block_lies e w s at = block_by (part_lies s) None e w s at

-- the bytes of a text up to its zero
unfoldable pub text_lies : List ℕ → ℕ → Option Extent
text_lies s at = text_by lies None s at

-- ---- its bytes

-- those that stand there
abbrev pub bytes_from : List ℕ → ℕ → ℕ → List ℕ
bytes_from s place n = take n (drop place s)

-- n bytes from a place on
unfoldable pub part_at : List ℕ → ℕ → ℕ → List ℕ
part_at s from n = part_by (bytes_from s) [] s from n

-- the bytes of a block whose length has w bytes
unfoldable pub block_at : Endian → ℕ → List ℕ → ℕ → List ℕ
block_at e w s at = block_by (part_at s) [] e w s at

-- the bytes of a text up to its zero
unfoldable pub text_at : List ℕ → ℕ → List ℕ
text_at s at = text_by (bytes_from s) [] s at

-- ---- for the theorem that both speak of one part

-- a part is what stands at a place, as long as it is told, all of it inside
pub record Stretch (s : List ℕ) (x : Extent) (part : List ℕ) : Type 0 where
  pub inside : x.place + x.length ≤ length s
  pub bytes : part ≡ bytes_from s x.place x.length
  pub long : length part ≡ x.length

-- so is one that lies somewhere; one that is cut has no bytes
abbrev pub Shown : List ℕ → Option Extent → List ℕ → Type 0
Shown s (Some x) part = Stretch s x part
Shown s None part = part ≡ []
