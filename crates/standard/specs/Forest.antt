-- How the standard flattens a tree: in prefix order; AT_sibling refers to the entry behind an entry's children; a chain of children is ended by a
-- null entry; an entry without AT_sibling has no children. No padding stands among these entries.
use Rattle.std.specs.Prelude.{ℕ, ◌+◌, ◌≤◌, ◌≡◌, Bool, true, false, cond, List, [], ◌∷◌, ◌++◌, length, eqb}
use Rattle.numbers.specs.Written.{Bytes}
use Rattle.numbers.specs.declared.Endian.{Endian}
use Rattle.standard.specs.Entries.{Value, number, Attribute, Die, null, padding, entry, written_die, written_dies}

-- AT_sibling
abbrev pub sibling_number : ℕ
sibling_number = 0x0012

module _ (numbers : List ℕ) (e : Endian) where
  -- what the sibling references among these attributes name
  unfoldable pub siblings_in : List (Attribute numbers e) → List Value
  siblings_in [] = []
  siblings_in (a ∷ rest) = cond (eqb a.kind sibling_number) (a.value ∷ siblings_in rest) (siblings_in rest)

  -- an entry, neither a null nor padding, with these sibling references
  abbrev pub References : Die numbers e → List Value → Type 0
  References (null fill few small) values = ⊥
  References (padding fill some few small) values = ⊥
  References (entry tag k p a rest few) values = siblings_in (a ∷ rest) ≡ values

  -- the place behind an entry that begins at `at`
  abbrev pub behind : ℕ → Die numbers e → ℕ
  behind at d = at + length (written_die numbers e d)

  -- entries that are written from a place on are a forest; `true` where a null ends it
  pub data Forest : Bool → ℕ → List (Die numbers e) → Type 0 where
    done : (at : ℕ) → Forest false at []
    ended : (at : ℕ) (fill : List ℕ) (few : length fill ≤ 3) (small : Bytes fill) → Forest true at (null fill few small ∷ [])
    -- without a reference, and so without children
    alone : (closed : Bool) (at : ℕ) (d : Die numbers e) (rest : List (Die numbers e)) → References d [] → Forest closed (behind at d) rest
        → Forest closed at (d ∷ rest)
    -- the next entry is its sibling
    childless : (closed : Bool) (at : ℕ) (d : Die numbers e) (rest : List (Die numbers e)) → References d (number (behind at d) ∷ [])
        → Forest closed (behind at d) rest → Forest closed at (d ∷ rest)
    -- its children follow it, up to and with a null; its sibling stands behind them
    family : (closed : Bool) (at : ℕ) (d : Die numbers e) (children rest : List (Die numbers e))
        → References d (number (behind at d + length (written_dies numbers e children)) ∷ []) → Forest true (behind at d) children
        → Forest closed (behind at d + length (written_dies numbers e children)) rest → Forest closed at (d ∷ children ++ rest)
