-- When settings hold: document 01, 'Settings and limits'. Refusal 1 is given exactly where `settings_hold` is false.
use Rattle.std.specs.Prelude.{ℕ, suc, ◌%◌, Bool, true, not, ◌&&◌, ◌||◌, List, [], ◌∷◌, length, leb, eqb}
use Rattle.format.specs.Lookup.{is_on}
use Rattle.format.specs.AttributeKind.{attribute_kinds}
use Rattle.format.specs.FundType.{fund_types}
use Rattle.format.specs.Limits.{vendor_limit}
use Rattle.format.specs.declared.settings.Roles.{Roles}
use Rattle.format.specs.declared.settings.Settings.{Settings}

-- a number that may stand on a vendor list: low four bits 1 to 8, not named by document 01
unfoldable pub vendor_number : ℕ → Bool
vendor_number n = leb 1 (n % 16) && leb (n % 16) 8 && not (is_on n attribute_kinds)

-- such numbers, none below `least`, strictly rising
unfoldable pub vendors_hold : ℕ → List ℕ → Bool
vendors_hold least [] = true
vendors_hold least (n ∷ ns) = leb least n && vendor_number n && vendors_hold (suc n) ns

-- a role is 0 for absent, or on the list
unfoldable pub role_holds : List ℕ → ℕ → Bool
role_holds vendors role = eqb role 0 || is_on role vendors

-- a role that is not absent ends in this form
unfoldable pub role_form : ℕ → ℕ → Bool
role_form form role = eqb role 0 || eqb (role % 16) form

-- an attribute of this number plays the role; 0 is absent and matches no number
unfoldable pub plays : ℕ → ℕ → Bool
plays role number = not (eqb role 0) && eqb number role

-- no two roles are equal unless 0
unfoldable pub roles_differ : ℕ → ℕ → Bool
roles_differ a b = eqb a 0 || not (eqb a b)

-- the four roles: each absent or on the list; of those that are there, the two names are texts (form 8) and the overlay's number has four bytes
-- (form 6); no two are the same number
unfoldable pub roles_hold : List ℕ → Roles → Bool
roles_hold vendors r =
    (role_holds vendors r.global_ref && role_holds vendors r.mangled && role_holds vendors r.overlay_name && role_holds vendors
    r.overlay_id)
    && (role_form 8 r.mangled && role_form 8 r.overlay_name && role_form 6 r.overlay_id)
    && (roles_differ r.global_ref r.mangled && roles_differ r.global_ref r.overlay_name && roles_differ r.global_ref
    r.overlay_id
    && roles_differ r.mangled r.overlay_name && roles_differ r.mangled r.overlay_id && roles_differ r.overlay_name
    r.overlay_id)

-- the settings, the vendor list and the sizes hold: at most 64 vendor numbers, the four roles, a size for each fundamental type
unfoldable pub settings_hold : Settings → List ℕ → List ℕ → Bool
settings_hold s vendors sizes =
    leb (length vendors) vendor_limit && vendors_hold 0 vendors && roles_hold vendors s.roles && eqb (length sizes) (length fund_types)
