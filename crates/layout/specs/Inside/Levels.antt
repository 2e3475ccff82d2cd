-- How the sizes of all rows are taken: level by level, from those of the level below.
use Rattle.std.specs.Prelude.{ℕ, ◌*◌, ◌≤◌, ◌<◌, ◌≡◌, Bool, true, not, cond, eqb, List, length, get_or}
use Rattle.format.specs.Said.{Said, gives, refuses, refuse}
use Rattle.format.specs.declared.settings.Settings.{Settings}
use Rattle.format.specs.declared.refusal.Reason.TheVariants as reason
use Rattle.tables.specs.Table.{lent_rows}
use Rattle.tables.specs.Row.{row_at}
use Rattle.sizes.specs.Size.{row_size, entry_size}
use Rattle.sizes.specs.Inside.Size.{TableReady, type_size_from}
use Rattle.sizes.specs.Inside.Noted.{noted_width, noted_at}

-- the levels that a structure's members have left: one less than the limit
abbrev pub deepest : ℕ
deepest = 31

-- row i where no level is left
unfoldable pub last_level : List ℕ → ℕ → Said ℕ
last_level rows i = refuse reason.Depth (row_at rows i).key

-- only a refusal for its depth can change with a level more
unfoldable pub settled : Said ℕ → Bool
settled (gives size) = true
settled (refuses number place counts) = not (eqb number 10)

module _ (settings : Settings) (sizes s rows attrs : List ℕ) (n : ℕ) where
  -- row i: its noted size if that is settled; else its size where the entries that it names have noted sizes
  unfoldable pub next_level : List ℕ → ℕ → Said ℕ
  next_level noted i = cond (settled (noted_at noted i)) (noted_at noted i) (row_size settings (lent_rows settings.endian s rows attrs n) (type_size_from settings sizes s rows attrs n noted 0) i)

  -- row i with so many levels left
  unfoldable pub size_left : ℕ → ℕ → Said ℕ
  size_left levels i = entry_size settings sizes (lent_rows settings.endian s rows attrs n) levels (row_at rows i).key

-- the first k of n rows are noted
pub record NotedUpTo (size_at : ℕ → Said ℕ) (n k : ℕ) (noted : List ℕ) : Type 0 where
  pub fits : n * noted_width ≤ length noted
  pub each : (i : ℕ) → i < k → noted_at noted i ≡ size_at i

-- and all of them are settled, if that is told
pub record LevelFilled (size_at : ℕ → Said ℕ) (n k : ℕ) (noted : List ℕ) (all : Bool) : Type 0 where
  pub filled : NotedUpTo size_at n k noted
  pub stay : all ≡ true → (i : ℕ) → i < k → settled (size_at i) ≡ true

-- a table that was tested, and room for a size of each row
pub record FillAsked (s rows : List ℕ) (n : ℕ) (noted : List ℕ) : Type 0 where
  pub ready : TableReady s rows n
  pub fits : n * noted_width ≤ length noted

-- so many words are the other list's now; if they were so before, nothing changed
pub record TakenOver (words : ℕ) (noted next : List ℕ) (same : Bool) (noted' : List ℕ) : Type 0 where
  pub taken : (k : ℕ) → k < words → get_or noted' k 0 ≡ get_or next k 0
  pub same_long : length noted' ≡ length noted
  pub kept : same ≡ true → noted' ≡ noted
