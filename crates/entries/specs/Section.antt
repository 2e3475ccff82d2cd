-- The public calls: settings, a section, lent tables.
use Rattle.entries.specs.declared.section.CountError.{CountError}
use Rattle.entries.specs.declared.section.CountError.TheVariants as count
use Rattle.entries.specs.declared.section.SectionError.{SectionError}
use Rattle.entries.specs.declared.section.SectionError.TheVariants as section
use Rattle.std.specs.Prelude.{Result, Ok, Err, ℕ, false, List, [], ◌∷◌, length, ltb}
use Rattle.entries.specs.Source.{source, mode}
use Rattle.lent.specs.Outcome.{Outcomes}
use Rattle.format.specs.Limits.{section_limit, erased_limit}
use Rattle.format.specs.Settings.{settings_hold}
use Rattle.format.specs.Said.{Said, gives, refusal, unread, wanting, must, ◌>>=◌, ◌>>◌, in_rooms, fills_rooms}
use Rattle.format.specs.declared.settings.Settings.{Settings}
use Rattle.format.specs.declared.refusal.Reason.TheVariants as reason
use Rattle.tables.specs.Holds.{fitting}
use Rattle.tables.specs.Row.{rows_words, attrs_words}
use Rattle.tables.specs.Unit.{with_units}
use Rattle.tables.specs.declared.row.Counts.{Counts}
use Rattle.entries.specs.Walk.{Entries, read_tags}

-- what counting says
unfoldable pub said_count : Result Counts CountError → Said Counts
said_count (Ok counts) = gives counts
said_count (Err (count.Refused why)) = refusal why
said_count (Err (count.Unread why byte)) = unread why.reason why.place byte

-- what reading says
unfoldable pub said_section : Result Counts SectionError → Said Counts
said_section (Ok counts) = gives counts
said_section (Err (section.Refused why)) = refusal why
said_section (Err (section.Unread why byte)) = unread why.reason why.place byte
said_section (Err (section.Room counts)) = wanting (counts.rows ∷ counts.attrs ∷ [])

-- the whole section, from its first byte to its last: outside erased data, in section endianness, sixteen levels allowed
unfoldable pub whole_walk : Settings → List ℕ → List ℕ → Said Entries
whole_walk settings vendors s =
    read_tags (source vendors settings.roles.global_ref s) settings.erased erased_limit (mode false settings.endian) (length s) 0 0

-- so many rows and attributes
abbrev pub counts : ℕ → ℕ → Counts
counts n m = record { rows = n; attrs = m }

-- 1, then 2, then what reading meets
unfoldable pub section_entries : Settings → List ℕ → List ℕ → List ℕ → Said Entries
section_entries settings vendors sizes s = do
  must (settings_hold settings vendors sizes) reason.Settings 0
  must (ltb (length s) section_limit) reason.Long 0
  whole_walk settings vendors s

-- how many of both were read
abbrev pub counts_of : Entries → Counts
counts_of all = counts (length all.rows) (length all.attrs)

-- only counted: whatever the limits, and with no tables
unfoldable pub count_debug_section : Settings → List ℕ → List ℕ → List ℕ → Said Counts
count_debug_section settings vendors sizes s = do
  all ← section_entries settings vendors sizes s
  gives (counts_of all)

-- into the lent tables if it fits them, the rows with their units, words past it as they were; else 8 with the counts that are needed
unfoldable pub read_debug_section : Settings → List ℕ → List ℕ → List ℕ → List ℕ → List ℕ → Outcomes (Said Counts) ℕ ℕ
read_debug_section settings vendors sizes s rows attrs =
    in_rooms rows attrs (section_entries settings vendors sizes s)
    (λ all. fills_rooms (fitting (counts_of all) (length rows) (length attrs)) (counts_of all) (length all.rows ∷ length all.attrs ∷ [])
    (rows_words (with_units all.rows)) (attrs_words all.attrs) rows attrs)
