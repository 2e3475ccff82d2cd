-- The eight forms of a value (rule 5 of 'Reading entries').
use Rattle.std.specs.Prelude.{ℕ, ◌%◌, Bool, List, [], ◌∷◌, eqb}
use Rattle.format.specs.Lookup.{Line, ◌means◌, lookup}
use Rattle.format.specs.declared.form_kind.FormKind.{FormKind}
use Rattle.format.specs.declared.form_kind.FormKind.TheVariants.{Addr, Ref, Block2, Block4, Data2, Data4, Data8, String, Undefined}

-- the form that each number says; any other has none, `Undefined`
unfoldable pub forms : List (Line FormKind)
forms =
    0x1 means Addr ∷
    0x2 means Ref ∷
    0x3 means Block2 ∷
    0x4 means Block4 ∷
    0x5 means Data2 ∷
    0x6 means Data4 ∷
    0x7 means Data8 ∷
    0x8 means String ∷ []

-- the form of an attribute number: its low four bits
unfoldable pub form_of : ℕ → FormKind
unfolding forms
form_of n = lookup forms Undefined (n % 16)

-- each form has its number: the low four bits
unfoldable pub form_number : FormKind → ℕ
form_number Undefined = 0
form_number Addr = 1
form_number Ref = 2
form_number Block2 = 3
form_number Block4 = 4
form_number Data2 = 5
form_number Data4 = 6
form_number Data8 = 7
form_number String = 8

-- attributes of this number have this form
unfoldable pub is_form : FormKind → ℕ → Bool
is_form form number = eqb (form_number form) (form_number (form_of number))
