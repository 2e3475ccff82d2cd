-- The presets pass the test of settings.
use Prim.Native.Nat.{ℕ}
use mathlib.Core.Path.{◌≡◌, refl}
use mathlib.Core.Bool.{Bool, true}
use mathlib.Core.List.{[]}
use Rattle.numbers.specs.declared.Endian.{Endian}
use Rattle.format.specs.Lookup.{is_on}
use Rattle.format.specs.AttributeKind.{used, also_known, attribute_kinds}
use Rattle.format.specs.FundType.{fund_types}
use Rattle.format.specs.Settings.{vendor_number, vendors_hold, role_holds, role_form, roles_differ, roles_hold, settings_hold}
use Rattle.format.specs.Presets.{mw_vendors, mw_roles, no_roles, rust_sizes}
use Rattle.format.specs.declared.settings.Producer.{Producer}

-- with the vendor list and its roles, whatever the endianness, the flag, the producer and the size of the five
pub mw-holds : (e : Endian) (erased : Bool) (p : Producer) (other : ℕ)
    → settings_hold (record { endian = e; erased = erased; producer = p; roles = mw_roles }) mw_vendors (rust_sizes other) ≡ true
unfolding is_on used also_known attribute_kinds fund_types vendors_hold role_holds role_form roles_differ roles_hold settings_hold vendor_number
mw-holds e erased p other = refl

-- with neither
pub none-holds : (e : Endian) (erased : Bool) (p : Producer) (other : ℕ)
    → settings_hold (record { endian = e; erased = erased; producer = p; roles = no_roles }) [] (rust_sizes other) ≡ true
unfolding fund_types vendors_hold role_holds role_form roles_differ roles_hold settings_hold
none-holds e erased p other = refl
