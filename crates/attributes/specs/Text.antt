-- A text: bytes up to a zero.
use Rattle.std.specs.Prelude.{ℕ, ◌+◌, List, drop}
use Rattle.format.specs.Lookup.{index_of}

-- the place of the first zero at or after `at`; where there is none, a place that is not in the section
unfoldable pub zero_from : List ℕ → ℕ → ℕ
zero_from s at = at + index_of 0 (drop at s)
