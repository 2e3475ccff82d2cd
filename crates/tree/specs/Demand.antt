-- Demand 3, the tree theorem, in its own words, of the rows of a table: row i is entry number i in file order, and its key is where the entry begins.
use Rattle.std.specs.Prelude.{Option, Some, None, ℕ, suc, ◌+◌, ◌*◌, ◌≤◌, ◌<◌, ◌≡◌, ◌⊎◌, ◌↔◌, List, [], ◌∷◌, length, get_or, drop}
use Rattle.std.proofs.lemmas.List.Edits.{sets}
use Rattle.format.specs.Said.{Said, gives}
use Rattle.tables.specs.Table.{Rows}
use Rattle.tables.specs.Row.{row_at}
use Rattle.links.specs.Attribute.{reference_of}

-- ---- lists

-- a number stands on a list
abbrev pub Among : ℕ → List ℕ → Type 0
Among n [] = ⊥
Among n (x ∷ xs) = (x ≡ n) ⊎ Among n xs

-- numbers that rise, the first at least `least`
abbrev pub RiseFrom : ℕ → List ℕ → Type 0
RiseFrom least [] = Unit
RiseFrom least (x ∷ xs) = (least ≤ x) × RiseFrom (suc x) xs

-- exactly the numbers that have a property, each once, in order
pub record Exactly (P : ℕ → Type 0) (xs : List ℕ) : Type 0 where
  pub rising : RiseFrom 0 xs
  pub all : (n : ℕ) → P n → Among n xs
  pub only : (n : ℕ) → Among n xs → P n

module _ (t : Rows) where
  -- ---- reaches

  -- where the entry of row i begins
  abbrev pub key_of : ℕ → ℕ
  key_of i = (row_at t.rows i).key

  -- what its sibling reference (attribute 0x0012) names, if it has one
  abbrev pub sibling_of : ℕ → Option ℕ
  sibling_of i = reference_of t.endian t.section t.rows t.attrs i 0x0012

  -- row i's reach runs from itself up to, and not with, a row: it is row i alone without a reference, all the rest where the reference names the
  -- section's end, and else runs up to the later row that the reference names
  pub data ReachEnds : ℕ → ℕ → Type 0 where
    alone : (i : ℕ) → i < t.count → sibling_of i ≡ None → ReachEnds i (suc i)
    rest : (i : ℕ) → i < t.count → sibling_of i ≡ Some (length t.section) → ReachEnds i t.count
    up_to : (i j : ℕ) → i < j → j < t.count → sibling_of i ≡ Some (key_of j) → ReachEnds i j

  -- row j lies in row i's reach
  pub record Lies (i j : ℕ) : Type 0 where
    pub end : ℕ
    pub ends : ReachEnds i end
    pub from : i ≤ j
    pub before : j < end

  -- two reaches overlap: some row lies in both
  pub record Overlap (i j : ℕ) : Type 0 where
    pub row : ℕ
    pub in_first : Lies i row
    pub in_second : Lies j row

  -- row i's reach holds row j's
  abbrev pub Holds : ℕ → ℕ → Type 0
  Holds i j = (k : ℕ) → Lies j k → Lies i k

  -- ---- depth and parent

  -- row j's depth: the number of others' reaches it lies in
  pub record Depth (j d : ℕ) : Type 0 where
    pub others : List ℕ
    pub exactly : Exactly (λ i. (i ≡ j → ⊥) × Lies i j) others
    pub many : length others ≡ d

  -- row j's parent: the nearest earlier row whose reach holds it, told as its number plus one; or none, told as 0
  pub data Parent (j : ℕ) : ℕ → Type 0 where
    none : ((i : ℕ) → i < j → Lies i j → ⊥) → Parent j 0
    nearest : (i : ℕ) → i < j → Lies i j → ((k : ℕ) → i < k → k < j → Lies k j → ⊥) → Parent j (suc i)

  -- ---- the listing

  -- each reference names a later row or the end, and no two reaches overlap without one holding the other
  pub record IsTree : Type 0 where
    pub named : (i : ℕ) → i < t.count → (end : ℕ) × ReachEnds i end
    pub nested : (i j : ℕ) → Overlap i j → Holds i j ⊎ Holds j i

  -- besides, no row lies in more than 32 others' reaches, and the listing, two words a row, fits the room
  pub record Listable (room : List ℕ) : Type 0 where
    pub tree : IsTree
    pub shallow : (j d : ℕ) → j < t.count → Depth j d → d ≤ 32
    pub fits : t.count * 2 ≤ length room

  -- a room that holds the listing: for every row, in file order, its depth and its parent; words behind it are as they were
  pub record Listed (room room' : List ℕ) : Type 0 where
    pub depths : (j : ℕ) → j < t.count → Depth j (get_or room' (j * 2) 0)
    pub parents : (j : ℕ) → j < t.count → Parent j (get_or room' (j * 2 + 1) 0)
    pub behind : drop (t.count * 2) room' ≡ drop (t.count * 2) room
    pub same_length : length room' ≡ length room

  -- ---- the child walk

  -- row c is no null entry, and row i is its parent
  abbrev pub ChildOf : ℕ → ℕ → Type 0
  ChildOf i c = (c < t.count) × ((row_at t.rows c).kind ≡ 0 → ⊥) × Parent c (suc i)

  -- a walk gives exactly the children of row i, in order, where they fit the room
  pub record Walked (i : ℕ) (room : List ℕ) (told : Said ℕ) (room' : List ℕ) : Type 0 where
    pub children : List ℕ
    pub exactly : Exactly (ChildOf i) children
    pub given : length children ≤ length room → (told ≡ gives (length children)) × (room' ≡ sets room 0 children)

-- a call that is lent a room: the room, what the call says, and the room then
pub record Called : Type 0 where
  pub room : List ℕ
  pub said : Said ℕ
  pub room' : List ℕ

-- the theorem, of the listing of a table and of the child walk of its row i
pub record TreeTheorem (t : Rows) (listing : Called) (i : ℕ) (walk : Called) : Type 0 where
  -- the listing is given exactly when it can be, and it then tells how many rows there are
  pub exactly_when : ((n : ℕ) × (listing.said ≡ gives n)) ↔ Listable t listing.room
  pub counted : (n : ℕ) → listing.said ≡ gives n → n ≡ t.count
  -- what it then holds
  pub contents : Listable t listing.room → Listed t listing.room listing.room'
  -- the child walk of any row
  pub walked : IsTree t → i < t.count → Walked t i walk.room walk.said walk.room'
