-- All layouts are what the keys give one by one: every structure and class of the table is there once, in file order, with the layout or refusal that
-- `layout_of_key` has for its key.
use Rattle.std.specs.Prelude.{Result, Ok}
use Rattle.format.specs.declared.refusal.Refusal.{Refusal}
use Rattle.format.specs.Said.{said}
use Prim.Native.Nat.{ℕ, zero, suc, ◌/◌, ◌<◌}
use mathlib.Core.Path.{◌≡◌, refl, sym, ap, ◌∙◌}
use mathlib.Core.Bool.{Bool, true, false, cond}
use mathlib.Core.List.{List, [], ◌∷◌, map}
use lib.ListN.{length}
use lib.Dec.{leb}
use Rattle.tables.specs.Table.{table, lent_rows}
use Rattle.format.specs.declared.settings.Settings.{Settings}
use Rattle.blocks.specs.declared.types.Type.{«Type»}
use Rattle.tables.specs.Row.{row_at}
use Rattle.tables.proofs.Laws.Find.{row-of-own-key}
use Rattle.tables.specs.Tests.{Tells}
use Rattle.tables.proofs.Laws.Tests.{passed-held}
use Rattle.tables.proofs.Laws.Held.{held-rising}
use Rattle.tables.specs.declared.row.Counts.{Counts}
use Rattle.format.specs.Said.{Said, gives, refuses, ◌>>=◌, ◌>>◌, in_room, fills_room}
use Rattle.format.proofs.Laws.Said.{comes-past}
use Rattle.tables.specs.Keyed.{found_row, row_of}
use Rattle.sizes.specs.Size.{inner_size, shape_of}
use Rattle.layout.specs.Layout.{Lay, row_lay, layout_of, layout_at, laid_words, laid_width, layout_into, layout_of_key}
use Rattle.sizes.specs.Size.{is_structure}
use Rattle.layout.specs.All.{Structure, laid_of, also_if, structure_at, structures_from}
use Rattle.layout.specs.AllEach.{row_numbers_from, only_structures, given_alone}

-- ---- every structure and class once, in file order

kept_map : (f : ℕ → Structure) (b : Bool) (i : ℕ) {xs : List Structure} (is : List ℕ) → xs ≡ map f is → also_if b (f i) xs ≡ map f (cond b (i ∷ is) is)
unfolding also_if
kept_map f true i is p = ap (λ (ys : List Structure). f i ∷ ys) p
kept_map f false i is p = p

module _ (settings : Settings) (s rows attrs : List ℕ) (n : ℕ) (size_of : «Type» → Said ℕ) where
  structures_are : (i left : ℕ) → structures_from settings (lent_rows settings.endian s rows attrs n) size_of i left ≡ map (structure_at settings (lent_rows settings.endian s rows attrs n) size_of) (only_structures rows (row_numbers_from i left))
  unfolding structures_from only_structures row_numbers_from
  structures_are i zero = refl
  structures_are i (suc left) =
      kept_map (structure_at settings (lent_rows settings.endian s rows attrs n) size_of) (is_structure (shape_of (row_at rows i).kind)) i (only_structures rows (row_numbers_from (suc i) left))
      (structures_are (suc i) left)

  -- what all layouts tell is told row by row
  pub all-structures : structures_from settings (lent_rows settings.endian s rows attrs n) size_of 0 n ≡ map (structure_at settings (lent_rows settings.endian s rows attrs n) size_of) (only_structures rows (row_numbers_from 0 n))
  all-structures = structures_are 0 n

  own-rows : (is : List ℕ) → map (λ (x : Structure). x.row) (map (structure_at settings (lent_rows settings.endian s rows attrs n) size_of) is) ≡ is
  unfolding structure_at
  own-rows [] = refl
  own-rows (i ∷ is) = ap (λ (js : List ℕ). i ∷ js) (own-rows is)

  -- of these rows
  pub all-rows : map (λ (x : Structure). x.row) (structures_from settings (lent_rows settings.endian s rows attrs n) size_of 0 n) ≡ only_structures rows (row_numbers_from 0 n)
  all-rows = ap (map (λ (x : Structure). x.row)) all-structures ∙ own-rows (only_structures rows (row_numbers_from 0 n))

-- ---- each has the layout or refusal that its key gives

module _ (settings : Settings) (s rows attrs : List ℕ) (n : ℕ) (size_of : «Type» → Said ℕ) (room : List ℕ) (i : ℕ) where
  laid-alone : (d : Said Lay)
      → in_room room d
      (λ l. fills_room (leb (length l.members) (length room / laid_width)) (layout_of settings (lent_rows settings.endian s rows attrs n) size_of i l) (length l.members ∷ []) (laid_words l.members) room)
      ≡ in_room room (d >>= λ l. gives (layout_of settings (lent_rows settings.endian s rows attrs n) size_of i l))
      (λ x. fills_room (leb (length (laid_of d)) (length room / laid_width)) x (length (laid_of d) ∷ []) (laid_words (laid_of d)) room)
  unfolding laid_of in_room ◌>>=◌
  laid-alone (gives l) = refl
  laid-alone (refuses number place counts) = refl

  into-alone : layout_into settings (lent_rows settings.endian s rows attrs n) size_of room i ≡ given_alone room (structure_at settings (lent_rows settings.endian s rows attrs n) size_of i)
  unfolding layout_into layout_at structure_at given_alone
  into-alone = laid-alone (row_lay settings (lent_rows settings.endian s rows attrs n) size_of i)

module _ {settings : Settings} {vendors sizes s rows attrs : List ℕ} {counts : Counts} {told : (Result Unit Refusal)} (is : Tells (table s settings vendors sizes rows attrs counts) told)
    (p : told ≡ Ok tt) where
  own_row : (i : ℕ) → i < counts.rows → said (Ok i) ≡ row_of (table s settings vendors sizes rows attrs counts) (row_at rows i).key
  unfolding row_of found_row said
  own_row i l =
      comes-past is.told p _ (ap (found_row (row_at rows i).key) (sym (row-of-own-key (held-rising (passed-held is p)) i l)))

  -- what all layouts tell of row i is what its key gives
  pub each_layout : (i : ℕ) → i < counts.rows → (room : List ℕ) → layout_of_key (table s settings vendors sizes rows attrs counts) (row_at rows i).key room
      ≡ given_alone room (structure_at settings (lent_rows settings.endian s rows attrs counts.rows) (inner_size (table s settings vendors sizes rows attrs counts)) i)
  unfolding layout_of_key said in_room
  each_layout i l room =
      ap (λ (d : Said ℕ). in_room room d (layout_into settings (lent_rows settings.endian s rows attrs counts.rows) (inner_size (table s settings vendors sizes rows attrs counts)) room))
      (sym (own_row i l))
      ∙ into-alone settings s rows attrs counts.rows (inner_size (table s settings vendors sizes rows attrs counts)) room i
