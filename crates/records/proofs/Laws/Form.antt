-- An attribute's number says its form, so with settings that hold no value has another form than the record expects.
use Prim.Native.Nat.{ℕ, ◌%◌}
use mathlib.Core.Path.{◌≡◌, refl, sym, ap, ◌∙◌}
use mathlib.Core.Bool.{Bool, true, false, not, ◌&&◌, ◌||◌, or-true, false≢true}
use mathlib.Core.List.{List, [], ◌∷◌, ◌++◌, map}
use lib.Dec.{eqb}
use borrow.Author.Tests.{eqb-true}
use Rattle.numbers.proofs.Laws.Tests.{cond-all}
use Rattle.format.specs.Lookup.{Line, is_on, lookup}
use Rattle.format.specs.FormKind.{forms, form_of, form_number, is_form}
use Rattle.format.specs.Settings.{role_holds, role_form, roles_differ, roles_hold, plays, settings_hold}
use Rattle.format.proofs.Laws.Said.{must-passed}
use Rattle.format.proofs.Laws.Settings.{settings-parts}
use Rattle.format.proofs.Laws.Computed.{and_left, and_right, all_on, all-on}
use Rattle.format.proofs.Laws.Form.{low_bits, own-form}
use Rattle.format.specs.declared.form_kind.FormKind.{FormKind}
use Rattle.format.specs.declared.form_kind.FormKind.TheVariants.{Data4, String}
use Rattle.format.specs.Said.{Said, must, ◌>>◌}
use Rattle.format.specs.declared.refusal.Reason.{Reason}
use Rattle.format.specs.declared.refusal.Reason.TheVariants as reason
use Rattle.format.specs.declared.settings.Roles.{Roles}
use Rattle.format.specs.declared.settings.Settings.{Settings}
use Rattle.records.specs.Taken.{taken_by, role_taken, takes}
use Rattle.records.specs.Scan.{content_fault, attribute_fault}
use Rattle.records.specs.declared.taken.Record.{Record}
use Rattle.records.specs.declared.taken.Record.TheVariants as record'
use Rattle.records.specs.declared.scan.Run.{Run}
use Rattle.records.specs.declared.scan.Attribute.{Attribute}
use Rattle.records.specs.Form.{expected_forms, type_forms, expected, expected_form, any_form, form_said, form_tested}

-- ---- by number

-- each line's number has the line's form
unfoldable lines_formed : List (Line FormKind) → Bool
lines_formed [] = true
lines_formed (l ∷ ls) = is_form l.meaning l.number && lines_formed ls

looked-up : (ls : List (Line FormKind)) → lines_formed ls ≡ true → (number : ℕ) → is_form (lookup ls (form_of number) number) number ≡ true
unfolding lines_formed lookup
looked-up [] t number = own-form number
looked-up (l ∷ ls) t number =
    cond-all (λ (form : FormKind). is_form form number ≡ true) (eqb l.number number)
    (λ same. ap (is_form l.meaning) (sym (eqb-true l.number number same)) ∙ and_left (is_form l.meaning l.number) (lines_formed ls) t)
    (λ other. looked-up ls (and_right (is_form l.meaning l.number) (lines_formed ls) t) number)

by_number : (number : ℕ) → is_form (expected number) number ≡ true
unfolding expected expected_forms lines_formed is_form form_number form_of lookup forms
by_number number = looked-up expected_forms refl number

-- ---- by role

-- an attribute that plays a role has the role's form
role-formed : (form : FormKind) (role number : ℕ) → role_form (form_number form) role ≡ true → plays role number ≡ true → is_form form number ≡ true
unfolding plays role_form
role-formed form role number held played =
    let is : number ≡ role = eqb-true number role (and_right (not (eqb role 0)) (eqb number role) played) in
    low_bits form number
    (ap (λ (k : ℕ). k % 16) is ∙ eqb-true (role % 16) (form_number form) (there (eqb role 0) (and_left (not (eqb role 0)) (eqb number role) played) held))
  where
    there : {b : Bool} (absent : Bool) → not absent ≡ true → (absent || b) ≡ true → b ≡ true
    there false t h = h
    there true t h = absurd (false≢true t)

module _ (vendors : List ℕ) (roles : Roles) (hold : roles_hold vendors roles ≡ true) where
  -- the forms of the three roles that are read
  abbrev names : Bool
  names = role_form 8 roles.mangled && role_form 8 roles.overlay_name

  abbrev listed : Bool
  listed =
      role_holds vendors roles.global_ref && role_holds vendors roles.mangled && role_holds vendors roles.overlay_name
      && role_holds vendors roles.overlay_id

  abbrev apart : Bool
  apart =
      roles_differ roles.global_ref roles.mangled && roles_differ roles.global_ref roles.overlay_name
      && roles_differ roles.global_ref roles.overlay_id && roles_differ roles.mangled roles.overlay_name
      && roles_differ roles.mangled roles.overlay_id && roles_differ roles.overlay_name roles.overlay_id

  forms-hold : (names && role_form 6 roles.overlay_id) ≡ true
  unfolding roles_hold
  forms-hold =
      and_right listed (names && role_form 6 roles.overlay_id) (and_left (listed && (names && role_form 6 roles.overlay_id)) apart hold)

  pub roles-formed : (number : ℕ) → is_form (expected_form roles number) number ≡ true
  unfolding expected_form form_number
  roles-formed number =
      let both : names ≡ true = and_left names (role_form 6 roles.overlay_id) forms-hold in
      let P : FormKind → Type 0 = λ form. is_form form number ≡ true in
      cond-all P (plays roles.mangled number)
      (λ played. role-formed String roles.mangled number (and_left (role_form 8 roles.mangled) (role_form 8 roles.overlay_name) both) played)
      (λ other. cond-all P (plays roles.overlay_name number)
      (λ played. role-formed String roles.overlay_name number (and_right (role_form 8 roles.mangled) (role_form 8 roles.overlay_name) both) played)
      (λ other. cond-all P (plays roles.overlay_id number)
      (λ played. role-formed Data4 roles.overlay_id number (and_right names (role_form 6 roles.overlay_id) forms-hold) played)
      (λ other. by_number number)))

-- the theorem: with settings that hold, an attribute of any number has the form that is expected of it
pub expected-form : (settings : Settings) (vendors sizes : List ℕ) → settings_hold settings vendors sizes ≡ true
    → (number : ℕ) → is_form (expected_form settings.roles number) number ≡ true
expected-form settings vendors sizes hold = roles-formed vendors settings.roles (settings-parts settings vendors sizes hold).1

-- the theorem: the four types have the forms in which they are read, whatever the settings
pub type-form : (number : ℕ) → is_form (lookup type_forms (form_of number) number) number ≡ true
unfolding type_forms lines_formed is_form form_number form_of lookup forms
type-form number = looked-up type_forms refl number

-- ---- which attributes that says it of

-- every number that each record takes
taken-said : (r : Record) → all_on (λ n. is_on n (any_form ++ map (λ (l : Line FormKind). l.number) (expected_forms ++ type_forms))) (taken_by r) ≡ true
unfolding all_on taken_by any_form expected_forms type_forms is_on
taken-said record'.Member = refl
taken-said record'.Union = refl
taken-said record'.Enumeration = refl
taken-said record'.Typedef = refl
taken-said record'.Variable = refl
taken-said record'.Label = refl
taken-said record'.PtrToMember = refl
taken-said record'.OverlayBranch = refl

-- the theorem: a number that a record takes is one whose form is expected, by its number or a role, or one of which nothing but the number counts
pub taken-expected : (roles : Roles) (r : Record) (number : ℕ) → takes roles r number ≡ true → form_said roles number ≡ true
unfolding takes form_said role_taken
taken-expected roles r number t =
    let named : Bool = is_on number (any_form ++ map (λ (l : Line FormKind). l.number) (expected_forms ++ type_forms)) in
    let overlay : Bool = plays roles.overlay_name number || plays roles.overlay_id number in
    let played : Bool = plays roles.mangled number || overlay in
    cond-all (λ (k : ℕ). form_said roles number ≡ true) (is_on number (taken_by r)) {x = 0} {y = 0}
    (λ on. ap (λ (b : Bool). b || played) (all-on _ (taken_by r) number (taken-said r) on))
    (λ off. ap (λ (b : Bool). named || b) (role r (rw off at t)) ∙ or-true named)
  where
    role : (r : Record) → role_taken roles r number ≡ true
        → (plays roles.mangled number || (plays roles.overlay_name number || plays roles.overlay_id number)) ≡ true
    role record'.Variable t = ap (λ (b : Bool). b || (plays roles.overlay_name number || plays roles.overlay_id number)) t
    role record'.OverlayBranch t = ap (λ (b : Bool). plays roles.mangled number || b) t ∙ or-true (plays roles.mangled number)
    role record'.Member t = absurd (false≢true t)
    role record'.Union t = absurd (false≢true t)
    role record'.Enumeration t = absurd (false≢true t)
    role record'.Typedef t = absurd (false≢true t)
    role record'.Label t = absurd (false≢true t)
    role record'.PtrToMember t = absurd (false≢true t)

-- ---- so a test of it says nothing

-- the theorem: with settings that hold, what is wrong with an attribute is the same with a test of its form as without, whatever its reason
pub form-untested : (settings : Settings) (vendors sizes : List ℕ) → settings_hold settings vendors sizes ≡ true
    → (why : Reason) (r : Record) (run : Run) (s : List ℕ) (a : Attribute) → form_tested why settings.roles r run s a ≡ attribute_fault settings.roles r run s a
unfolding form_tested attribute_fault
form-untested settings vendors sizes hold why r run s a =
    ap (λ (d : Said Unit). must (takes settings.roles r a.number) reason.Extra run.key >> d)
    (sym (must-passed refl why run.key (content_fault r run s a) (expected-form settings vendors sizes hold a.number) refl))
