-- What the functions inside promise, in one record each: the answer, what the tables then hold, and bounds that keep every sum small. They ask for a section
-- below 2 ^ 32 bytes and a place and counts to go on from.
use Rattle.std.specs.Prelude.{Result, Ok, Err, ℕ, ◌+◌, ◌*◌, ◌^◌, ◌≤◌, ◌<◌, ◌≡◌, Bool, true, false, cond, List, [], ◌∷◌, length}
use Rattle.std.proofs.lemmas.List.Edits.{sets}
use Rattle.numbers.specs.declared.Endian.{Endian}
use Rattle.format.specs.Limits.{section_limit}
use Rattle.format.specs.Said.{Said, gives, refuses, refuse, unread, ◌>>=◌, placed}
use Rattle.format.specs.TagKind as tag
use Rattle.format.specs.declared.refusal.Reason.TheVariants as reason
use Rattle.tables.specs.Row.{row_width, attr_width, rows_words, attrs_words}
use Rattle.tables.specs.declared.row.Row.{Row}
use Rattle.tables.specs.declared.row.Attr.{Attr}
use Rattle.entries.specs.Run.{AttrsRead}
use Rattle.entries.specs.Entry.{Entry, next, inside, row, root_kind}
use Rattle.entries.specs.Walk.{Entries}
use Rattle.entries.specs.declared.run.AttrsRead as run
use Rattle.entries.specs.declared.entry.State.{State}
use Rattle.entries.specs.declared.entry.Shape.{Shape}
use Rattle.entries.specs.declared.entry.EntryError.{EntryError}
use Rattle.entries.specs.declared.entry.EntryError.TheVariants as error
use Rattle.entries.specs.declared.entry.Entry as entry
use Rattle.entries.specs.declared.head.Head.{Head}
use Rattle.entries.specs.declared.head.Head.TheVariants.{Null, Skipped, Root, Ordinary}
use Rattle.entries.specs.declared.head.HeadError.{HeadError}
use Rattle.attributes.specs.declared.value.Unread as missing

-- ---- what an entry begins with

-- where the bytes were found, and where it ends: a size is below 2 ^ 32
abbrev pub HeadBounds : List ℕ → ℕ → Result Head HeadError → Type 0
HeadBounds s at (Ok (Null place)) = (at + 4 ≤ length s) × (at + 4 ≤ place) × (place ≤ at + 8)
HeadBounds s at (Ok (Skipped place)) = (at + 4 ≤ length s) × (at + 4 ≤ place) × (place ≤ at + 2 ^ 32)
HeadBounds s at (Ok (Root end)) = (at + 6 ≤ length s) × (end ≤ at + 2 ^ 32)
HeadBounds s at (Ok (Ordinary kind end)) = (at + 6 ≤ length s) × (end ≤ at + 2 ^ 32)
HeadBounds s at (Err field) = Unit

-- what reading a head answers
pub record HeadRead (s : List ℕ) (at : ℕ) (what r : Result Head HeadError) : Type 0 where
  pub answer : r ≡ what
  pub bounds : HeadBounds s at r

-- ---- an entry's attributes

-- asked of reading attributes: the place is inside, and no more attributes than bytes came before
pub record RunReady (s : List ℕ) (at attrs : ℕ) : Type 0 where
  pub small : length s < section_limit
  pub here : at ≤ length s
  pub few : attrs ≤ at

-- what the code says, a refusal told at a place
unfoldable pub said_run : {A : Type 0} → ℕ → Result A missing.Unread → Said A
said_run key (Ok x) = gives x
said_run key (Err (missing.TheVariants.Short byte)) = unread reason.Short key byte
said_run key (Err (missing.TheVariants.Unknown byte)) = unread reason.Attribute key byte

-- its answer: place and count go on, `attrs` being the count before
abbrev pub run_answer : ℕ → Said AttrsRead → Said run.AttrsRead
run_answer attrs what = what >>= (λ x. gives (record { at = x.stopped; attrs = attrs + length x.attrs; high = x.high }))

-- the attributes xs were stored, from number `attrs` on, and reading stopped at `place`
pub record RunStored (s : List ℕ) (at attrs : ℕ) (xs : List Attr) (place : ℕ) (table₀ table₁ : List ℕ) : Type 0 where
  pub words : table₁ ≡ sets table₀ (attrs * attr_width) (attrs_words xs)
  pub few : attrs + length xs ≤ place
  pub forward : at ≤ place
  pub here : place ≤ length s

-- what is said of the table; of a refusal nothing: it comes while empty tables count
abbrev pub RunStores : List ℕ → ℕ → ℕ → Said AttrsRead → List ℕ → List ℕ → Type 0
RunStores s at attrs (gives x) table₀ table₁ = RunStored s at attrs x.attrs x.stopped table₀ table₁
RunStores s at attrs (refuses number place counts) table₀ table₁ = Unit

-- what reading attributes answers and stores; it does not know the entry's key, at which a refusal is told
pub record RunRead (s : List ℕ) (at attrs : ℕ) (what : Said AttrsRead) (r : Result run.AttrsRead missing.Unread) (table₀ table₁ : List ℕ) : Type 0 where
  pub answer : (key : ℕ) → said_run key r ≡ run_answer attrs (placed key what)
  pub stores : RunStores s at attrs what table₀ table₁

-- ---- one entry, and entries one after the other

-- what the code says of an entry, or of entries one after the other
unfoldable pub said_read : {A : Type 0} → Result A EntryError → Said A
said_read (Ok x) = gives x
said_read (Err (error.Nested key)) = refuse reason.Nested key
said_read (Err (error.Unread why key byte)) = unread why key byte

-- an attribute that was not read, told of its entry
unfoldable pub unread_at : ℕ → missing.Unread → EntryError
unread_at key (missing.TheVariants.Short byte) = error.Unread reason.Short key byte
unread_at key (missing.TheVariants.Unknown byte) = error.Unread reason.Attribute key byte

-- a place and an end stay below this: a section's length and one more size
abbrev pub farthest : ℕ
farthest = 2 ^ 33

-- where a section's reading begins
abbrev pub start : State
start = record { at = 0; rows = 0; attrs = 0 }

-- asked of reading entries: no more rows and attributes than bytes came before
pub record Ready (s : List ℕ) (from : State) : Type 0 where
  pub small : length s < section_limit
  pub rows_few : from.rows ≤ from.at
  pub attrs_few : from.attrs ≤ from.at
  pub near : from.at ≤ farthest

-- where reading stands after n more rows and m more attributes
abbrev pub advanced : State → ℕ → ℕ → ℕ → State
advanced from n m place = record { at = place; rows = from.rows + n; attrs = from.attrs + m }

-- the rows rs and the attributes xs were stored, and reading stopped at `place`
pub record Stored (from : State) (rs : List Row) (xs : List Attr) (place : ℕ) (rows₀ rows₁ attrs₀ attrs₁ : List ℕ) : Type 0 where
  pub row_cells : rows₁ ≡ sets rows₀ (from.rows * row_width) (rows_words rs)
  pub attr_cells : attrs₁ ≡ sets attrs₀ (from.attrs * attr_width) (attrs_words xs)
  pub rows_few : from.rows + length rs ≤ place
  pub attrs_few : from.attrs + length xs ≤ place
  pub forward : from.at ≤ place
  pub near : place ≤ farthest

-- an entry takes four bytes that are there
pub record Taken (s : List ℕ) (from : State) (place : ℕ) : Type 0 where
  pub there : from.at + 4 ≤ length s
  pub forward : from.at + 4 ≤ place

-- a null entry: only its row is stored
pub record NullReady (from : State) (place : ℕ) : Type 0 where
  pub small : from.at < 2 ^ 32
  pub rows_few : from.rows ≤ from.at
  pub attrs_few : from.attrs ≤ from.at

-- what storing it answers
pub record NullRead (from : State) (is_erased : Bool) (e : Endian) (place : ℕ) (r : entry.Entry) (rows₀ rows₁ : List ℕ) : Type 0 where
  pub answer : r ≡ entry.TheVariants.Next (advanced from 1 0 place)
  pub words : rows₁ ≡ sets rows₀ (from.rows * row_width) (rows_words (row is_erased false e from.at tag.padding from.attrs [] ∷ []))

-- an entry's own kind; a root has none
unfoldable pub kind_of : Bool → ℕ → Bool → ℕ
kind_of root kind high = cond root (root_kind high) kind

-- an ordinary entry
abbrev pub ordinary : Bool → Endian → ℕ → ℕ → ℕ → AttrsRead → Entry
ordinary is_erased e at kind a run = next (row is_erased false e at kind a run.attrs ∷ []) run.attrs run.stopped

-- an erased root that ends at `end`
abbrev pub rooted : Endian → ℕ → ℕ → ℕ → AttrsRead → Entry
rooted e at end a run = inside (row true true e at (root_kind run.high) a run.attrs) run.attrs run.stopped e end

-- an entry's attributes, then its row
pub record BodyReady (s : List ℕ) (from : State) : Type 0 where
  pub ready : Ready s from
  pub here : from.at + 6 ≤ length s

-- the answer: one row more, and the attributes
abbrev pub body_answer : State → Said AttrsRead → Said State
body_answer from what = what >>= (λ x. gives (advanced from 1 (length x.attrs) x.stopped))

-- what is said of the tables
abbrev pub BodyStores : List ℕ → State → Shape → Said AttrsRead → List ℕ → List ℕ → List ℕ → List ℕ → Type 0
BodyStores s from shape (gives x) rows₀ rows₁ attrs₀ attrs₁ =
    Stored from (row shape.erased shape.root shape.endian from.at (kind_of shape.root shape.kind x.high) from.attrs x.attrs ∷ [])
    x.attrs x.stopped rows₀ rows₁ attrs₀ attrs₁
    × Taken s from x.stopped
BodyStores s from shape (refuses number place counts) rows₀ rows₁ attrs₀ attrs₁ = Unit

-- what reading a body answers and stores
pub record BodyRead (s : List ℕ) (from : State) (shape : Shape) (what : Said AttrsRead) (r : Result State EntryError)
    (rows₀ rows₁ attrs₀ attrs₁ : List ℕ) : Type 0 where
  pub answer : said_read r ≡ body_answer from what
  pub stores : BodyStores s from shape what rows₀ rows₁ attrs₀ attrs₁

-- what the code answers of an entry
unfoldable pub entry_answer : State → Entry → entry.Entry
entry_answer from (next rs xs place) = entry.TheVariants.Next (advanced from (length rs) (length xs) place)
entry_answer from (inside r xs place e end) = entry.TheVariants.Inside (advanced from 1 (length xs) place) e end

abbrev pub EntryStores : List ℕ → State → Said Entry → List ℕ → List ℕ → List ℕ → List ℕ → Type 0
EntryStores s from (gives (next rs xs place)) rows₀ rows₁ attrs₀ attrs₁ = Stored from rs xs place rows₀ rows₁ attrs₀ attrs₁ × Taken s from place
EntryStores s from (gives (inside r xs place e end)) rows₀ rows₁ attrs₀ attrs₁ =
    Stored from (r ∷ []) xs place rows₀ rows₁ attrs₀ attrs₁ × Taken s from place × (end ≤ farthest)
EntryStores s from (refuses number place counts) rows₀ rows₁ attrs₀ attrs₁ = Unit

pub record EntryRead (s : List ℕ) (from : State) (what : Said Entry) (r : Result entry.Entry EntryError) (rows₀ rows₁ attrs₀ attrs₁ : List ℕ) : Type 0 where
  pub answer : said_read r ≡ (what >>= (λ x. gives (entry_answer from x)))
  pub stores : EntryStores s from what rows₀ rows₁ attrs₀ attrs₁

-- of entries one after the other: where reading then stands
unfoldable pub walked : State → Said Entries → Said State
walked from what = do
  all ← what
  gives (advanced from (length all.rows) (length all.attrs) all.stopped)

abbrev pub WalkStores : State → Said Entries → List ℕ → List ℕ → List ℕ → List ℕ → Type 0
WalkStores from (gives all) rows₀ rows₁ attrs₀ attrs₁ = Stored from all.rows all.attrs all.stopped rows₀ rows₁ attrs₀ attrs₁
WalkStores from (refuses number place wanted) rows₀ rows₁ attrs₀ attrs₁ = Unit

pub record WalkRead (from : State) (what : Said Entries) (r : Result State EntryError) (rows₀ rows₁ attrs₀ attrs₁ : List ℕ) : Type 0 where
  pub answer : said_read r ≡ walked from what
  pub stores : WalkStores from what rows₀ rows₁ attrs₀ attrs₁
