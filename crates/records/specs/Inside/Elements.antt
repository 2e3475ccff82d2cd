-- How the code stores the elements of lists: one reader that counts on empty rooms and fills lent ones.
use Rattle.std.specs.Prelude.{Result, ℕ, suc, ◌+◌, ◌-◌, ◌*◌, ◌^◌, ◌<◌, ◌≡◌, cond, List, [], ◌∷◌, ◌++◌, length, ℤ}
use Rattle.format.specs.declared.refusal.Refusal.{Refusal}
use Rattle.format.specs.Said.{said}
use Rattle.std.proofs.lemmas.List.Edits.{sets}
use Rattle.format.specs.Said.{Said, gives, ◌>>=◌}
use Rattle.records.specs.Elements.{Listed}
use Rattle.records.specs.declared.elements.Slots.{Slots}

-- ---- an element in its slot

-- number k goes to slot k, or from the back
unfoldable pub slot_of : Slots → ℕ → ℕ
slot_of slots k = cond slots.reversed (slots.total - suc k) k

-- what an element puts into each room
abbrev pub value_words : Listed → List ℤ
value_words x = x.value ∷ []

abbrev pub name_words : Listed → List ℕ
name_words x = x.place ∷ x.length ∷ []

-- an element that is listed
abbrev pub listed_as : ℤ → ℕ → ℕ → Listed
listed_as value place len = record { value = value; place = place; length = len }

-- in its slot of the two rooms, as far as it fits
pub record ElementsStored (slot : ℕ) (x : Listed) (values values' : List ℤ) (names names' : List ℕ) : Type 0 where
  pub values_are : values' ≡ sets values (slot * 1) (value_words x)
  pub names_are : names' ≡ sets names (slot * 2) (name_words x)

-- ---- lists

-- elements from number k on, each in its slot of a room of `width` words each
unfoldable pub store_all : {A : Type 0} → (Listed → List A) → ℕ → Slots → ℕ → List Listed → List A → List A
store_all words width slots k [] room = room
store_all words width slots k (x ∷ xs) room = store_all words width slots (suc k) xs (sets room (slot_of slots k * width) (words x))

-- the values: a word each; the names: two
abbrev pub store_values : Slots → ℕ → List Listed → List ℤ → List ℤ
store_values slots k xs room = store_all value_words 1 slots k xs room

abbrev pub store_names : Slots → ℕ → List Listed → List ℕ → List ℕ
store_names slots k xs room = store_all name_words 2 slots k xs room

-- places and counts that can be added up
pub record Addable (base width : ℕ) (block : List ℕ) (k : ℕ) : Type 0 where
  pub place_small : base + length block < 2 ^ 64
  pub width_small : length block + width < 2 ^ 64
  pub count_small : k + length block < 2 ^ 64

-- so many elements, and what follows
unfoldable pub elements_before : List Listed → Said (List Listed) → Said (List Listed)
elements_before xs lists = do
  ys ← lists
  gives (xs ++ ys)

-- how many there are after k others
unfoldable pub count_from : ℕ → Said (List Listed) → Said ℕ
count_from k lists = do
  xs ← lists
  gives (k + length xs)

-- lists from number k on in their slots; of the rooms something is said only where all were read
pub record StoredFrom (lists : Said (List Listed)) (slots : Slots) (k : ℕ) (r : Result ℕ Refusal) (values values' : List ℤ) (names names' : List ℕ) : Type 0 where
  pub answer_is : said r ≡ count_from k lists
  pub values_are : (xs : List Listed) → lists ≡ gives xs → values' ≡ store_values slots k xs values
  pub names_are : (xs : List Listed) → lists ≡ gives xs → names' ≡ store_names slots k xs names
