-- What the room of a layout holds.
use Rattle.std.specs.Prelude.{ℕ, ◌*◌, ◌<◌, ◌≡◌, List, length}
use Rattle.lent.specs.Filled.{Filled}
use Rattle.format.specs.Said.{gives}
use Rattle.tables.specs.Row.{row_at}
use Rattle.tables.specs.Table.{Table, table_rows}
use Rattle.sizes.specs.Size.{inner_size}
use Rattle.layout.specs.Layout.{Laid, lay, row_lay, layout_at, laid_words, laid_width}
use Rattle.layout.specs.declared.one.Layout.{Layout}

-- the layout of a key, and the room after it was given
pub record LayoutFilled (t : Table) (key : ℕ) (x : Layout) (room room' : List ℕ) : Type 0 where
  pub there : x.row < t.counts.rows
  pub key_is : (row_at t.rows x.row).key ≡ key
  pub layout_is : layout_at t.settings (table_rows t) (inner_size t) x.row ≡ gives x
  -- its members, in walk order
  pub list : List Laid
  pub largest : ℕ
  pub are : row_lay t.settings (table_rows t) (inner_size t) x.row ≡ gives (lay list largest)
  pub many : length list ≡ x.members
  pub filled : Filled (laid_words list) (x.members * laid_width) room room'
