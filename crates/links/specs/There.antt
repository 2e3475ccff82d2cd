-- What a typed lookup finds, told as the bytes that are there.
use Rattle.std.specs.Prelude.{Option, Some, None, ℕ, ◌+◌, ◌≤◌, ◌<◌, ◌≡◌, ◌⊎◌, false, List, length}
use Rattle.numbers.specs.Value.{value_of}
use Rattle.numbers.specs.declared.Endian.{Endian}
use Rattle.format.specs.FormKind.{is_form}
use Rattle.format.specs.declared.form_kind.FormKind.{FormKind}
use Rattle.format.specs.declared.form_kind.FormKind.TheVariants.{Addr, Ref, Block2, Block4, Data2, Data4, Data8, String, Undefined}
use Rattle.attributes.specs.Text.{zero_from}
use Rattle.attributes.specs.declared.decode.Extent.{Extent}
use Rattle.tables.specs.Row.{row_at}
use Rattle.links.specs.Attribute.{attribute_of}
use Rattle.links.specs.declared.lookup.Wanted.TheVariants as wanted

-- ---- numbers

-- the forms of the lookups that tell a number
abbrev pub IsNumber : FormKind → Type 0
IsNumber Addr = Unit
IsNumber Ref = Unit
IsNumber Data2 = Unit
IsNumber Data4 = Unit
IsNumber Block2 = ⊥
IsNumber Block4 = ⊥
IsNumber Data8 = ⊥
IsNumber String = ⊥
IsNumber Undefined = ⊥

-- a number is told
pub record NumberTold (v : Option ℕ) : Type 0 where
  pub number : ℕ
  pub is_number : v ≡ Some number

-- ---- texts and blocks

-- the forms of the lookups that hand back a part
abbrev pub IsPart : FormKind → Type 0
IsPart String = Unit
IsPart Block2 = Unit
IsPart Block4 = Unit
IsPart Addr = ⊥
IsPart Ref = ⊥
IsPart Data2 = ⊥
IsPart Data4 = ⊥
IsPart Data8 = ⊥
IsPart Undefined = ⊥

-- a text of which all is there: from its place on up to its zero, which stands in the section
pub record WholeText (s : List ℕ) (at : ℕ) (x : Extent) : Type 0 where
  pub begins : x.place ≡ at
  pub ends : x.place + x.length ≡ zero_from s at
  pub inside : zero_from s at < length s

-- a block of which all is there: behind the w bytes of its length as many bytes as that says, all in the section
pub record WholeBlock (e : Endian) (w : ℕ) (s : List ℕ) (at : ℕ) (x : Extent) : Type 0 where
  pub begins : x.place ≡ at + w
  pub many : x.length ≡ value_of e w s at
  pub inside : x.place + x.length ≤ length s

-- ---- the place that a lookup comes to

-- a row of this key has no attribute of this number, or the number has not this form
pub record Without (rows attrs : List ℕ) (n key number : ℕ) (form : FormKind) : Type 0 where
  pub row : ℕ
  pub is_there : row < n
  pub has_key : (row_at rows row).key ≡ key
  pub none : (is_form form number ≡ false) ⊎ (attribute_of rows attrs row (wanted.Number number) ≡ None)
