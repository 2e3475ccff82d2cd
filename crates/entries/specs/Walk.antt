-- Entries one after the other, while the place is before the end; and inside erased roots, down to the levels still allowed.
use Rattle.std.specs.Prelude.{ℕ, zero, suc, ◌+◌, Bool, true, false, List, [], ◌∷◌, ◌++◌, length, ltb}
use Rattle.entries.specs.declared.entry.Mode.{Mode}
use Rattle.entries.specs.Source.{Source, mode}
use Rattle.numbers.specs.declared.Endian.{Endian}
use Rattle.format.specs.Said.{Said, gives, refuse, ◌>>=◌}
use Rattle.format.specs.declared.refusal.Reason.TheVariants as reason
use Rattle.tables.specs.declared.row.Row.{Row}
use Rattle.tables.specs.declared.row.Attr.{Attr}
use Rattle.entries.specs.Entry.{Entry, next, inside, read_entry}

-- what reading entries comes to: rows and attributes, and where reading stopped. A refusal's place is the innermost entry's key
pub record Entries : Type 0 where
  pub rows : List Row
  pub attrs : List Attr
  pub stopped : ℕ

-- the same, in short
abbrev pub entries : List Row → List Attr → ℕ → Entries
entries rows attrs stopped = record { rows = rows; attrs = attrs; stopped = stopped }

-- what was read, and behind it what follows, given how many attributes there are then, and the place; a is their number before
unfoldable pub entries_then : ℕ → Entries → (ℕ → ℕ → Said Entries) → Said Entries
entries_then a front follow = do
  back ← follow (a + length front.attrs) front.stopped
  gives (entries (front.rows ++ back.rows) (front.attrs ++ back.attrs) back.stopped)

-- an entry, and what stands inside it
unfoldable pub whole_entry : (Endian → ℕ → ℕ → ℕ → Said Entries) → ℕ → Entry → Said Entries
whole_entry within a (next rs xs place) = gives (entries rs xs place)
whole_entry within a (inside r xs place e end) = entries_then a (entries (r ∷ []) xs place) (within e end)

module _ (r : Source) (erased : Bool) where
  -- the entries from `at` up to `end`; `within` reads what stands inside a root. At most as many as the first number, which is never reached
  unfoldable pub entries_from : (Endian → ℕ → ℕ → ℕ → Said Entries) → ℕ → Mode → ℕ → ℕ → ℕ → ℕ → Said Entries
  entries_from within levels m end zero a at = gives (entries [] [] at)
  entries_from within levels m end (suc f) a at =
      elim (ltb at end) [
        | true ↦ do
          entry ← read_entry r erased levels m at a
          front ← whole_entry within a entry
          entries_then a front (entries_from within levels m end f)
        | false ↦ gives (entries [] [] at)
      ]

  -- with so many levels still allowed; inside a root one fewer is, and entries are read as erased
  unfoldable pub read_tags : ℕ → Mode → ℕ → ℕ → ℕ → Said Entries
  read_tags zero m end a at = entries_from (λ e' end' b at'. refuse reason.Nested at') zero m end (suc (length r.section)) a at
  read_tags (suc l) m end a at = entries_from (λ e' end' b at'. read_tags l (mode true e') end' b at') (suc l) m end (suc (length r.section)) a at
