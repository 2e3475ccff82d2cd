-- What a room that was filled holds: n words from its beginning, and behind them what it held before.
use Rattle.std.specs.Prelude.{ℕ, ◌≤◌, ◌≡◌, List, length, take, drop}

-- n elements, which are these; they fit; what lies behind them stays
pub record Filled {E : Type 0} (words : List E) (n : ℕ) (room room' : List E) : Type 0 where
  pub many : length words ≡ n
  pub fits : n ≤ length room
  pub front : take n room' ≡ words
  pub behind : drop n room' ≡ drop n room
