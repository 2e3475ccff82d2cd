-- A forest that the standard writes, by example, so that `forest-listed` speaks of something: an entry with one child, and a sibling behind them.
use Prim.Native.Nat.{ℕ, ◌^◌, ◌<◌}
use native.Mathlib.Omega.{arith}
use mathlib.Core.Path.{◌≡◌, refl}
use mathlib.Core.Bool.{true, false}
use mathlib.Core.List.{[], ◌∷◌, ◌++◌}
use Rattle.numbers.specs.Written.{bytes_of}
use Rattle.numbers.specs.declared.Endian.TheVariants.{Big}
use Rattle.standard.specs.Numbers.{REF, form_number, tags, attributes}
use Rattle.standard.specs.Entries.{number, reference, Attribute, written_attribute, written_attributes, Die, null, entry, written_die, written_dies}
use Rattle.standard.specs.Forest.{siblings_in, Forest, done, ended, childless, family}
use Rattle.entries.specs.Standard.{without, taken}
use Rattle.tree.specs.Standard.{forest_places}

-- AT_sibling
unfoldable sibling : (to : ℕ) → to < 256 ^ 4 → Attribute (taken []) Big
unfolding taken without attributes form_number
sibling to h = record {
  kind = 0x0012;
  form = REF;
  value = number to;
  body = bytes_of Big 4 to;
  small = omega arith;
  in_use = record { index = 0; inside = omega arith; stands = refl };
  has_form = refl;
  written = reference to h;
}

-- an entry with no other attribute
unfoldable pub unit : (to : ℕ) → to < 256 ^ 4 → Die (taken []) Big
unfolding taken without attributes tags sibling written_attributes written_attribute bytes_of
unit to h = entry 0x11 (record { index = 14; inside = omega arith; stands = refl }) (λ p. omega arith) (sibling to h) [] (omega arith)

-- the null entry of four bytes
unfoldable pub nothing : Die (taken []) Big
nothing = null [] (omega arith) (record { small = λ i. omega arith })

-- an entry of 12 bytes, its child of 12 and the null of 4, its sibling of 12
unfoldable pub forest : Forest (taken []) Big false 0 (unit 28 (omega arith) ∷ (unit 24 (omega arith) ∷ nothing ∷ []) ++ (unit 40 (omega arith) ∷ []))
unfolding unit nothing sibling siblings_in written_attributes written_attribute written_die written_dies bytes_of
forest =
    family false 0 (unit 28 (omega arith)) (unit 24 (omega arith) ∷ nothing ∷ []) (unit 40 (omega arith) ∷ []) refl
    (childless true 12 (unit 24 (omega arith)) (nothing ∷ []) refl (ended 24 [] (omega arith) (record { small = λ i. omega arith })))
    (childless false 28 (unit 40 (omega arith)) [] refl (done 40))

-- what it says of its four entries
pub example-places : forest_places forest 0 0 0 ≡ 0 ∷ 0 ∷ 1 ∷ 1 ∷ 1 ∷ 1 ∷ 0 ∷ 0 ∷ []
unfolding forest forest_places
example-places = refl
