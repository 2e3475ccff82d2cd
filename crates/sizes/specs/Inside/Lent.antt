-- What a definition over the parts of a table says of a table that is lent: each hands it these parts, in the order in which all definitions here take them.
use Rattle.std.specs.Prelude.{ℕ, List}
use Rattle.numbers.specs.declared.Endian.{Endian}
use Rattle.format.specs.declared.settings.Settings.{Settings}
use Rattle.tables.specs.declared.table.Table as lent

-- its settings, section, rows and attributes, and how many rows there are
abbrev pub over {ℓ} : {A : Type ℓ} → (Settings → List ℕ → List ℕ → List ℕ → ℕ → A) → lent.«Table» → A
over f t = f t.settings t.section.now t.rows.now t.attrs.now t.counts.rows

-- the same with the sizes of fundamental types
abbrev pub over_sizes {ℓ} : {A : Type ℓ} → (Settings → List ℕ → List ℕ → List ℕ → List ℕ → ℕ → A) → lent.«Table» → A
over_sizes f t = f t.settings t.sizes.now t.section.now t.rows.now t.attrs.now t.counts.rows

-- of the settings only the endianness
abbrev pub over_rows {ℓ} : {A : Type ℓ} → (Endian → List ℕ → List ℕ → List ℕ → ℕ → A) → lent.«Table» → A
over_rows f t = f t.settings.endian t.section.now t.rows.now t.attrs.now t.counts.rows
