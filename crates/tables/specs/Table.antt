-- A table and what it is asked with: what every call on a table takes.
use Rattle.std.specs.Prelude.{ℕ, List}
use Rattle.numbers.specs.declared.Endian.{Endian}
use Rattle.format.specs.declared.settings.Settings.{Settings}
use Rattle.tables.specs.declared.row.Counts.{Counts}
use Rattle.tables.specs.declared.table.Table as lent

-- the section and the settings, vendor list and sizes that it was read with; rows and attributes, and how many of each
pub record Table : Type 0 where
  pub section : List ℕ
  pub settings : Settings
  pub vendors : List ℕ
  pub sizes : List ℕ
  pub rows : List ℕ
  pub attrs : List ℕ
  pub counts : Counts

-- the same, in short
abbrev pub table : List ℕ → Settings → List ℕ → List ℕ → List ℕ → List ℕ → Counts → Table
table section settings vendors sizes rows attrs counts =
    record { section = section; settings = settings; vendors = vendors; sizes = sizes; rows = rows; attrs = attrs; counts = counts }

-- what a caller lends, as it is when the call begins
abbrev pub table_of : lent.«Table» → Table
table_of t = table t.section.now t.settings t.vendors.now t.sizes.now t.rows.now t.attrs.now t.counts

-- what is below a call asked of a table that was tested: its rows and attributes, how many rows, the section and its endianness
pub record Rows : Type 0 where
  pub endian : Endian
  pub section : List ℕ
  pub rows : List ℕ
  pub attrs : List ℕ
  pub count : ℕ

-- the same, in short
abbrev pub lent_rows : Endian → List ℕ → List ℕ → List ℕ → ℕ → Rows
lent_rows endian section rows attrs count = record { endian = endian; section = section; rows = rows; attrs = attrs; count = count }

-- those of a table
abbrev pub table_rows : Table → Rows
table_rows t = lent_rows t.settings.endian t.section t.rows t.attrs t.counts.rows
