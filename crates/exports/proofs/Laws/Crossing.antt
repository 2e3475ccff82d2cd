-- What follows from `Crossing`, for the proofs.
use Prim.Native.Nat.{ℕ}
use mathlib.Core.Path.{◌≡◌, ap, ◌∙◌, subst}
use mathlib.Core.List.{List}
use Rattle.tables.specs.Table.{table}
use Rattle.lent.specs.Outcome.{Given, BothGiven}
use Rattle.numbers.specs.declared.Endian.{Endian}
use Rattle.format.specs.Said.{Said}
use Rattle.format.specs.declared.settings.Settings.{Settings}
use Rattle.tables.specs.declared.row.Counts.{Counts}
use Rattle.entries.specs.Section.{count_debug_section, read_debug_section}
use Rattle.sizes.specs.Size.{size_of_key}
use Rattle.layout.specs.All.{all_layouts}
use Rattle.layout.specs.declared.all.LayoutCounts.{LayoutCounts}
use Rattle.layout.specs.Layout.{layout_of_key}
use Rattle.layout.specs.declared.one.Layout.{Layout}
use Rattle.blocks.specs.Location.{process_offset}
use Rattle.tree.specs.Tree.{list_tree}
use Rattle.exports.specs.Crossing.{counts_told, number_told, layout_told, layouts_told, SaysOne, SaysTwo, SaysThree, SectionCrosses, TreeCrosses, LayoutCrosses, LayoutsCross}
use Rattle.exports.specs.declared.told.Results.{Results}
use Rattle.exports.specs.declared.told.Told.{Told}

-- what was told, field by field
said-one : (told : Told) {t : Told} → t ≡ told → SaysOne told t.number t.place t.first
said-one told p =
    record {
      number_is = ap (λ (x : Told). x.number) p;
      place_is = ap (λ (x : Told). x.place) p;
      first_is = ap (λ (x : Told). x.first) p;
    }

said-two : (told : Told) {t : Told} → t ≡ told → SaysTwo told t.number t.place t.first t.second
said-two told p = record { says = said-one told p; second_is = ap (λ (x : Told). x.second) p }

said-three : (told : Told) {t : Told} → t ≡ told → SaysThree told t.number t.place t.first t.second t.third
said-three told p = record { says = said-two told p; third_is = ap (λ (x : Told). x.third) p }

module _ (held : Results) {settings settings' : Settings} (same : settings ≡ settings') (vendors sizes s : List ℕ) where
  pub count-crosses : {z : Said Counts} {t : Told} → z ≡ count_debug_section settings vendors sizes s → t ≡ counts_told held z
      → SaysThree (counts_told held (count_debug_section settings' vendors sizes s)) t.number t.place t.first t.second t.third
  count-crosses p q = said-three _ (q ∙ ap (counts_told held) (p ∙ ap (λ (x : Settings). count_debug_section x vendors sizes s) same))

  module _ (rows attrs : List ℕ) where
    pub read-crosses : {z : Said Counts} {t : Told} {rows₁ attrs₁ : List ℕ} → BothGiven (read_debug_section settings vendors sizes s rows attrs) z rows₁ attrs₁
        → t ≡ counts_told held z
        → SectionCrosses held (read_debug_section settings' vendors sizes s rows attrs) t.number t.place t.first t.second t.third rows₁ attrs₁
    read-crosses {z} {t} {rows₁} {attrs₁} p q =
        subst (λ (x : Settings). SectionCrosses held (read_debug_section x vendors sizes s rows attrs) t.number t.place t.first t.second t.third rows₁ attrs₁) same
        (record { says = said-three _ (q ∙ ap (counts_told held) p.answer_is); row_table = p.first_is; attr_table = p.second_is })

    module _ {counts counts' : Counts} (many : counts ≡ counts') where
      pub size-crosses : (key : ℕ) {z : Said ℕ} {t : Told} → z ≡ size_of_key (table s settings vendors sizes rows attrs counts) key → t ≡ number_told held z
          → SaysOne (number_told held (size_of_key (table s settings' vendors sizes rows attrs counts') key)) t.number t.place t.first
      size-crosses key p q =
          said-one _
          (q
          ∙ ap (number_told held)
          (p ∙ ap (λ (x : Settings). size_of_key (table s x vendors sizes rows attrs counts) key) same ∙ ap (λ (n : Counts). size_of_key (table s settings' vendors sizes rows attrs n) key) many))

      pub tree-crosses : (room : List ℕ) {z : Said ℕ} {t : Told} {room₁ : List ℕ}
          → Given (list_tree (table s settings vendors sizes rows attrs counts) room) z room₁ → t ≡ number_told held z
          → TreeCrosses held (list_tree (table s settings' vendors sizes rows attrs counts') room) t.number t.place t.first room₁
      tree-crosses room {z} {t} {room₁} p q =
          subst (λ (n : Counts). TreeCrosses held (list_tree (table s settings' vendors sizes rows attrs n) room) t.number t.place t.first room₁) many
          (subst (λ (x : Settings). TreeCrosses held (list_tree (table s x vendors sizes rows attrs counts) room) t.number t.place t.first room₁) same
          (record { says = said-one _ (q ∙ ap (number_told held) p.answer_is); room_is = p.room_is }))

      pub layout-crosses : (key : ℕ) (room : List ℕ) {z : Said Layout} {t : Told} {room₁ : List ℕ}
          → Given (layout_of_key (table s settings vendors sizes rows attrs counts) key room) z room₁ → t ≡ layout_told held z
          → LayoutCrosses held (layout_of_key (table s settings' vendors sizes rows attrs counts') key room) t.number t.place t.first t.second t.third room₁
      layout-crosses key room {z} {t} {room₁} p q =
          subst (λ (n : Counts). LayoutCrosses held (layout_of_key (table s settings' vendors sizes rows attrs n) key room) t.number t.place t.first t.second t.third room₁) many
          (subst (λ (x : Settings). LayoutCrosses held (layout_of_key (table s x vendors sizes rows attrs counts) key room) t.number t.place t.first t.second t.third room₁) same
          (record { says = said-three _ (q ∙ ap (layout_told held) p.answer_is); room_is = p.room_is }))

      pub layouts-cross : (structures room : List ℕ) {z : Said LayoutCounts} {t : Told} {structures₁ room₁ : List ℕ}
          → BothGiven (all_layouts (table s settings vendors sizes rows attrs counts) structures room) z structures₁ room₁ → t ≡ layouts_told held z
          → LayoutsCross held (all_layouts (table s settings' vendors sizes rows attrs counts') structures room) t.number t.place t.first t.second structures₁ room₁
      layouts-cross structures room {z} {t} {structures₁} {room₁} p q =
          subst (λ (n : Counts). LayoutsCross held (all_layouts (table s settings' vendors sizes rows attrs n) structures room) t.number t.place t.first t.second structures₁ room₁) many
          (subst (λ (x : Settings). LayoutsCross held (all_layouts (table s x vendors sizes rows attrs counts) structures room) t.number t.place t.first t.second structures₁ room₁) same
          (record { says = said-two _ (q ∙ ap (layouts_told held) p.answer_is); structure_room = p.first_is; member_room = p.second_is }))

pub offset-crosses : (held : Results) {e e' : Endian} → e ≡ e' → (block : List ℕ) {z : Said ℕ} {t : Told} → z ≡ process_offset e block → t ≡ number_told held z
    → SaysOne (number_told held (process_offset e' block)) t.number t.place t.first
offset-crosses held same block p q = said-one _ (q ∙ ap (number_told held) (p ∙ ap (λ (x : Endian). process_offset x block) same))
