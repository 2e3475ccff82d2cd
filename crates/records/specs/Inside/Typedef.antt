-- How the code reads a typedef: from one specification to the next, keeping what the first of them fills; at the end it looks up the row's own last
-- name and type.
use Rattle.format.specs.declared.refusal.Refusal.{Refusal}
use Rattle.std.specs.Prelude.{Result, Ok, Err, Option, Some, None, ℕ, ◌-◌, cond, List, leb}
use Rattle.format.specs.AttributeKind as attribute
use Rattle.format.specs.Said.{Said, gives, refusal, ◌>>=◌}
use Rattle.format.specs.declared.settings.Settings.{Settings}
use Rattle.tables.specs.Table.{lent_rows}
use Rattle.records.specs.Inside.Scan.{scan_from}
use Rattle.records.specs.Fields.{last_from, name_by, needed, type_by}
use Rattle.records.specs.Typedef.{Held, nothing, holds, SoFar, type_needed, specified}
use Rattle.records.specs.declared.taken.Record.TheVariants as record'
use Rattle.records.specs.declared.scan.Run.{Run}
use Rattle.records.specs.declared.fields.Sought.TheVariants as sought
use Rattle.records.specs.declared.fields.Text.{Text}
use Rattle.records.specs.declared.typedef.Typedef.{Typedef}
use Rattle.records.specs.declared.typedef.Pause.{Pause}

-- ---- what answers say

-- where the attributes come to: an attribute that is a specification, and the row that it names; or their end
pub data Reached : Type 0 where
  meets : ℕ → ℕ → Reached
  over : Reached

-- where they pause
unfoldable pub said_pause : Result (Option Pause) Refusal → Said Reached
said_pause (Ok (Some pause)) = gives (meets pause.at pause.row)
said_pause (Ok None) = gives over
said_pause (Err why) = refusal why

-- ---- name and type

-- the first specification fills; later ones find nothing missing
unfoldable pub first_filling : Option Typedef → Typedef → Option Typedef
first_filling (Some first) next = Some first
first_filling None next = Some next

-- the row's own name, or that of a specification
unfoldable pub typedef_name : Option Text → Option Typedef → Option Text
typedef_name (Some text) f = Some text
typedef_name None (Some first) = Some first.name
typedef_name None None = None

module _ (s attrs : List ℕ) (run : Run) where
  -- the row's own type, or that of a specification
  unfoldable pub typedef_type : Option ℕ → Option Typedef → Held
  typedef_type (Some k) f = holds (type_by s attrs run (Some k))
  typedef_type None (Some first) = holds (gives first.of)
  typedef_type None None = nothing

  -- what is known after j attributes: the last of a kind among them, or what the first specification fills
  unfoldable pub known_at : ℕ → Option Typedef → SoFar
  known_at j f =
      record {
        name = typedef_name (name_by s attrs (last_from (sought.Number attribute.name) attrs run.first j)) f;
        of = typedef_type (last_from sought.Type attrs run.first j) f;
      }

  -- and after all
  abbrev pub known_of : Option Typedef → SoFar
  known_of f = known_at run.count f

-- ---- specifications

module _ (settings : Settings) (s rows attrs : List ℕ) (n : ℕ) (run : Run) (levels : ℕ) where
  -- where the scan stopped: after the last attribute, or at a specification
  unfoldable pub pause_at : ℕ → Said Reached
  pause_at j = cond (leb run.count j) (gives over) (specified settings (lent_rows settings.endian s rows attrs n) run levels j >>= λ r. gives (meets j r))

  -- from attribute j on
  unfoldable pub pause_from : ℕ → Said Reached
  pause_from j = do
    k ← scan_from settings.roles record'.Typedef run s attrs j (run.count - j)
    pause_at k
