-- An entry's attributes: one after the other while the place is before the entry's end. The last one may overrun it.
use Rattle.std.specs.Prelude.{Result, Ok, Err, ℕ, zero, suc, Bool, true, false, not, ◌&&◌, ◌||◌, List, [], ◌∷◌, ltb, eqb}
use Rattle.entries.specs.Source.{Source}
use Rattle.format.specs.Settings.{plays}
use Rattle.numbers.specs.Value.{read_at}
use Rattle.numbers.specs.declared.Endian.{Endian}
use Rattle.format.specs.AttributeKind as number
use Rattle.format.specs.Said.{Said, gives, unread, ◌>>=◌}
use Rattle.format.specs.declared.refusal.Reason.TheVariants as reason
use Rattle.attributes.specs.Read.{read_attribute}
use Rattle.attributes.specs.declared.read.Attribute.{Attribute}
use Rattle.attributes.specs.declared.value.Unread.{Unread}
use Rattle.attributes.specs.declared.value.Unread.TheVariants as missing
use Rattle.tables.specs.declared.row.Attr.{Attr}

-- what reading attributes comes to: the attributes, whether a HighPc was among them, and where reading stopped. A refusal's place and
-- byte are the field's first byte: an entry tells it at its key
pub record AttrsRead : Type 0 where
  pub attrs : List Attr
  pub high : Bool
  pub stopped : ℕ

-- the same, in short
abbrev pub ran : List Attr → Bool → ℕ → AttrsRead
ran attrs high stopped = record { attrs = attrs; high = high; stopped = stopped }

-- an attribute: its number and the place of its value
abbrev pub attr : ℕ → ℕ → Attr
attr n value = record { number = n; value = value }

-- an attribute that was read, in short
abbrev pub found : ℕ → ℕ → ℕ → Result Attribute Unread
found n value next = Ok (record { number = n; value = value; next = next })

-- after a HighPc an erased root's attributes end at the first number that is not MwGlobalRef; where no number is there, reading goes on and is short
unfoldable pub run_ends : ℕ → List ℕ → Endian → Bool → ℕ → Bool
run_ends global s e high at = high && not (read_at (plays global) true e 2 s at)

-- what was read, and then what follows it
unfoldable pub read_on : Result Attribute Unread → (ℕ → ℕ → Said AttrsRead) → Said AttrsRead
read_on (Ok a) follow = do
  later ← follow a.number a.next
  gives (ran (attr a.number a.value ∷ later.attrs) later.high later.stopped)
read_on (Err (missing.Short field)) follow = unread reason.Short field field
read_on (Err (missing.Unknown field)) follow = unread reason.Attribute field field

-- the attributes from `at` up to `end`; at most as many as the first number, which is never reached. Only an erased root looks for a HighPc
unfoldable pub read_run : Source → Endian → Bool → ℕ → ℕ → Bool → ℕ → Said AttrsRead
read_run r e root end zero high at = gives (ran [] high at)
read_run r e root end (suc f) high at =
    elim (ltb at end) [
      | true ↦ elim (run_ends r.global r.section e high at) [
        | true ↦ gives (ran [] high at)
        | false ↦ read_on (read_attribute r.vendors e r.section at)
            (λ n next. read_run r e root end f (high || (root && eqb n number.high_pc)) next)
      ]
      | false ↦ gives (ran [] high at)
    ]
