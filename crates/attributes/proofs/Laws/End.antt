-- What follows from `End`.
use Prim.Native.Nat.{ℕ}
use mathlib.Core.Path.{◌≡◌, sym, ap}
use mathlib.Core.List.{List}
use Rattle.numbers.specs.declared.Endian.{Endian}
use Rattle.format.specs.declared.form_kind.FormKind.{FormKind}
use Rattle.attributes.specs.End.{value_end}

-- a form that is known
pub of-form : {form f : FormKind} (e : Endian) (s : List ℕ) (at : ℕ) → form ≡ f → value_end f e s at ≡ value_end form e s at
of-form e s at p = sym (ap (λ g. value_end g e s at) p)
