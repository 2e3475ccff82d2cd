-- The form in which the Rust's records want each value: a value of another form was document 01's refusal 14. An attribute's number says its form, so
-- with settings that hold no value has another (document 02, K8), and no record tests it. This file is for the theorem that says so.
use Rattle.std.specs.Prelude.{ℕ, Bool, cond, ◌||◌, List, [], ◌∷◌, ◌++◌, map}
use Rattle.format.specs.Lookup.{Line, ◌means◌, is_on, lookup}
use Rattle.format.specs.FormKind.{form_of, is_form}
use Rattle.format.specs.AttributeKind.{sibling, location, name, fund_type, mod_fund_type, user_def_type, mod_ud_type, byte_size, bit_offset, bit_size}
use Rattle.format.specs.AttributeKind.{element_list, low_pc, high_pc, member, containing_type, private, protected, public, specification}
use Rattle.format.specs.Settings.{plays}
use Rattle.format.specs.Said.{Said, must, ◌>>◌}
use Rattle.format.specs.declared.form_kind.FormKind.{FormKind}
use Rattle.format.specs.declared.form_kind.FormKind.TheVariants.{Addr, Ref, Block2, Block4, Data2, Data4, String}
use Rattle.format.specs.declared.settings.Roles.{Roles}
use Rattle.format.specs.declared.refusal.Reason.{Reason}
use Rattle.format.specs.declared.refusal.Reason.TheVariants as reason
use Rattle.records.specs.Taken.{takes}
use Rattle.records.specs.Scan.{content_fault}
use Rattle.records.specs.declared.taken.Record.{Record}
use Rattle.records.specs.declared.scan.Run.{Run}
use Rattle.records.specs.declared.scan.Attribute.{Attribute}

-- by number
unfoldable pub expected_forms : List (Line FormKind)
expected_forms =
    location means Block2 ∷
    name means String ∷
    byte_size means Data4 ∷
    bit_offset means Data2 ∷
    bit_size means Data4 ∷
    element_list means Block4 ∷
    low_pc means Addr ∷
    high_pc means Addr ∷
    member means Ref ∷
    containing_type means Ref ∷
    specification means Ref ∷ []

-- any other attribute may have its own
unfoldable pub expected : ℕ → FormKind
unfolding expected_forms
expected number = lookup expected_forms (form_of number) number

-- the vendor attributes that play a role: two texts and a number
unfoldable pub expected_form : Roles → ℕ → FormKind
expected_form roles number =
    cond (plays roles.mangled number) String
    (cond (plays roles.overlay_name number) String (cond (plays roles.overlay_id number) Data4 (expected number)))

-- ---- which attributes that is about

-- the types are wanted in these forms by the Rust's `process_type`, which every record hands them to
unfoldable pub type_forms : List (Line FormKind)
type_forms =
    fund_type means Data2 ∷
    mod_fund_type means Block2 ∷
    user_def_type means Ref ∷
    mod_ud_type means Block2 ∷ []

-- of these nothing but the number counts: sibling, and the three visibilities
unfoldable pub any_form : List ℕ
any_form = sibling ∷ private ∷ protected ∷ public ∷ []

-- an attribute that this file speaks of: one of all these, or one that plays a role
unfoldable pub form_said : Roles → ℕ → Bool
form_said roles number =
    is_on number (any_form ++ map (λ (l : Line FormKind). l.number) (expected_forms ++ type_forms))
    || (plays roles.mangled number || (plays roles.overlay_name number || plays roles.overlay_id number))

-- ---- the test that there was

-- `attribute_fault` with a test of the form, as it was up to K8: refused for this reason where the form is not the expected one
unfoldable pub form_tested : Reason → Roles → Record → Run → List ℕ → Attribute → Said Unit
form_tested why roles r run s a = do
  must (takes roles r a.number) reason.Extra run.key
  must (is_form (expected_form roles a.number) a.number) why run.key
  content_fault r run s a
