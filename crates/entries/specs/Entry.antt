-- One entry (rules 1 to 4): a row and its attributes, and where reading stopped; of an erased root also what stands inside it.
use Rattle.std.specs.Prelude.{Result, Ok, Err, ℕ, zero, suc, ◌+◌, Bool, true, false, cond, List, [], ◌∷◌, length}
use Rattle.entries.specs.declared.entry.Mode.{Mode}
use Rattle.entries.specs.Source.{Source}
use Rattle.numbers.specs.Value.{read_at}
use Rattle.numbers.specs.declared.Endian.{Endian}
use Rattle.numbers.specs.declared.Endian.TheVariants.{Big, Little}
use Rattle.format.specs.Known.{known}
use Rattle.format.specs.TagKind as tag
use Rattle.format.specs.Said.{Said, gives, refuse, unread, ◌>>=◌, placed}
use Rattle.format.specs.declared.refusal.Reason.TheVariants as reason
use Rattle.tables.specs.Unit.{no_unit}
use Rattle.tables.specs.declared.row.Row.{Row}
use Rattle.tables.specs.declared.row.Attr.{Attr}
use Rattle.entries.specs.Head.{head_at}
use Rattle.entries.specs.Run.{AttrsRead, read_run}
use Rattle.entries.specs.declared.head.Head.{Head}
use Rattle.entries.specs.declared.head.Head.TheVariants.{Null, Skipped, Root, Ordinary}
use Rattle.entries.specs.declared.head.HeadError.{HeadError}

-- what reading an entry comes to: its row (none for padding that is stepped over), its attributes, where reading stopped; of an erased root also the
-- data endianness inside it and where it ends. A refusal's place is the entry's key
pub data Entry : Type 0 where
  next : List Row → List Attr → ℕ → Entry
  inside : Row → List Attr → ℕ → Endian → ℕ → Entry

-- the other endianness
unfoldable pub flip : Endian → Endian
flip Big = Little
flip Little = Big

-- 4 where the data is little-endian
unfoldable pub little_flag : Endian → ℕ
little_flag Big = 0
little_flag Little = 4

-- a flag that counts so much
unfoldable pub flag_of : Bool → ℕ → ℕ
flag_of on value = cond on value 0

-- a row's flags: 1 erased, 2 erased root, 4 little-endian data
unfoldable pub flags_of : Bool → Bool → Endian → ℕ
flags_of is_erased root e = flag_of is_erased 1 + flag_of root 2 + little_flag e

-- the row of the entry at `at`, whose attributes begin with number a of the table; its unit is not told before all rows are read
abbrev pub row : Bool → Bool → Endian → ℕ → ℕ → ℕ → List Attr → Row
row is_erased root e at kind a xs = record { key = at; kind = kind; flags = flags_of is_erased root e; first = a; count = length xs; unit = no_unit }

-- an erased root's kind: a subroutine if a HighPc was read, else a local variable
unfoldable pub root_kind : Bool → ℕ
root_kind high = cond high tag.subroutine tag.local_variable

-- the data endianness of a root at `at`: outside erased data two bytes are looked at, and if they are no known attribute number it flips
unfoldable pub root_endian : List ℕ → List ℕ → Bool → Endian → ℕ → Said Endian
root_endian vendors s true e at = gives e
root_endian vendors s false e at = read_at (λ n. gives (cond (known vendors n) e (flip e))) (unread reason.Short at (at + 6)) e 2 s (at + 6)

module _ (r : Source) where
  -- the attributes of the entry at `at`: they begin after size and tag
  unfoldable pub attributes : Endian → Bool → ℕ → ℕ → Said AttrsRead
  attributes e root end at = placed at (read_run r e root end (suc (length r.section)) false (at + 6))

  -- by what it begins with; a root wants one more level
  unfoldable pub entry_from : ℕ → Mode → ℕ → ℕ → Result Head HeadError → Said Entry
  entry_from levels m at a (Ok (Null place)) = gives (next (row m.erased false m.endian at tag.padding a [] ∷ []) [] place)
  entry_from levels m at a (Ok (Skipped place)) = gives (next [] [] place)
  entry_from levels m at a (Ok (Root end)) =
      elim levels [
        | zero ↦ refuse reason.Nested at
        | suc l ↦ do
          e ← root_endian r.vendors r.section m.erased m.endian at
          run ← attributes e true end at
          gives (inside (row true true e at (root_kind run.high) a run.attrs) run.attrs run.stopped e end)
      ]
  entry_from levels m at a (Ok (Ordinary kind end)) = do
    run ← attributes m.endian false end at
    gives (next (row m.erased false m.endian at kind a run.attrs ∷ []) run.attrs run.stopped)
  entry_from levels m at a (Err field) = unread field.why at field.byte

  -- the entry at `at`, whose attributes begin with number a of the table
  unfoldable pub read_entry : Bool → ℕ → Mode → ℕ → ℕ → Said Entry
  read_entry erased levels m at a = entry_from levels m at a (head_at erased r.section m.endian at)
