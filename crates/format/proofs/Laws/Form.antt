-- What follows from `FormKind`.
use Prim.Native.Nat.{ℕ, ◌%◌}
use mathlib.Core.Path.{◌≡◌, refl, ap, ◌∙◌}
use mathlib.Core.Bool.{true}
use lib.Dec.{eqb}
use borrow.Author.Tests.{eq-eqb}
use Rattle.format.specs.Lookup.{lookup}
use Rattle.format.specs.FormKind.{forms, form_of, form_number, is_form}
use Rattle.format.specs.declared.form_kind.FormKind.{FormKind}
use Rattle.format.specs.declared.form_kind.FormKind.TheVariants.{Addr, Ref, Block2, Block4, Data2, Data4, Data8, String, Undefined}

pub is-form : (form : FormKind) (number : ℕ) {a b : ℕ} {f : FormKind} → a ≡ form_number form → f ≡ form_of number → b ≡ form_number f → eqb a b ≡ is_form form number
unfolding is_form
is-form form number {b = b} p q h = ap (λ (x : ℕ). eqb x b) p ∙ ap (λ (x : ℕ). eqb (form_number form) x) (h ∙ ap form_number q)

-- each form is that of its number
form-said : (form : FormKind) → eqb (form_number form) (form_number (lookup forms Undefined (form_number form))) ≡ true
unfolding form_number lookup forms
form-said Addr = refl
form-said Ref = refl
form-said Block2 = refl
form-said Block4 = refl
form-said Data2 = refl
form-said Data4 = refl
form-said Data8 = refl
form-said String = refl
form-said Undefined = refl

-- a number has the form that its low four bits say
pub low_bits : (form : FormKind) (number : ℕ) → number % 16 ≡ form_number form → is_form form number ≡ true
unfolding is_form form_of
low_bits form number p = ap (λ (k : ℕ). eqb (form_number form) (form_number (lookup forms Undefined k))) p ∙ form-said form

-- and its own
pub own-form : (number : ℕ) → is_form (form_of number) number ≡ true
unfolding is_form
own-form number = eq-eqb (form_number (form_of number)) (form_number (form_of number)) refl
