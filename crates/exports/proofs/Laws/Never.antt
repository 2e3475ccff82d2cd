-- No number that crosses is 14: of the calls that read records, by `NoFourteen` of `layout`.
use Prim.Native.Nat.{ℕ}
use native.Mathlib.Omega.{arith}
use mathlib.Core.Path.{◌≡◌, sym, ◌∙◌}
use mathlib.Core.List.{List, [], ◌∷◌}
use Rattle.format.specs.Said.{Said, gives, refuses, Never}
use Rattle.format.proofs.Laws.Never.{never-is}
use Rattle.tables.specs.Table.{Table}
use Rattle.sizes.specs.Size.{size_of_key}
use Rattle.layout.specs.Layout.{layout_of_key}
use Rattle.layout.specs.All.{all_layouts}
use Rattle.layout.proofs.Laws.Never.{no-fourteen}
use Rattle.exports.specs.Crossing.{crossed, number_told, layout_told, layouts_told, SaysOne, LayoutCrosses, LayoutsCross}
use Rattle.exports.specs.declared.told.Results.{Results}

-- what crosses has the number that is said
told-never : {A : Type 0} (given : A → Results) (wanted : List ℕ → Results) (held : Results) (d : Said A) → Never 14 d
    → (crossed given wanted held d).number ≡ 14 → ⊥
unfolding crossed
told-never given wanted held (gives x) h p = absurd (omega (arith, p))
told-never given wanted held (refuses number place []) h p = never-is h p
told-never given wanted held (refuses number place (n ∷ more)) h p = never-is h p

module _ (t : Table) (held : Results) where
  pub size-never : (key : ℕ) {number place size : ℕ} → SaysOne (number_told held (size_of_key t key)) number place size → number ≡ 14 → ⊥
  unfolding number_told
  size-never key says p = told-never _ _ held (size_of_key t key) ((no-fourteen t).sizes key) (sym says.number_is ∙ p)

  pub layout-never : (key : ℕ) (room : List ℕ) {number place row size members : ℕ} {room' : List ℕ}
      → LayoutCrosses held (layout_of_key t key room) number place row size members room' → number ≡ 14 → ⊥
  unfolding layout_told
  layout-never key room crosses p =
      told-never _ _ held (layout_of_key t key room).answer ((no-fourteen t).layouts key room) (sym crosses.says.says.says.number_is ∙ p)

  pub layouts-never : (structures room : List ℕ) {number place many members : ℕ} {structures' room' : List ℕ}
      → LayoutsCross held (all_layouts t structures room) number place many members structures' room' → number ≡ 14 → ⊥
  unfolding layouts_told
  layouts-never structures room crosses p =
      told-never _ _ held (all_layouts t structures room).answer ((no-fourteen t).all structures room) (sym crosses.says.says.number_is ∙ p)
