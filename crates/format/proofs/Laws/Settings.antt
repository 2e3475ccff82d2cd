-- What follows from `Settings`: the vendor list from a place on, for the loop; what settings that hold are known to be.
use Prim.Native.Nat.{ℕ, ◌+◌, ◌≤◌, ◌<◌}
use native.Mathlib.Numerals.{add-one}
use mathlib.Core.Path.{◌≡◌}
use mathlib.Core.Bool.{Bool, true, false, ◌&&◌}
use mathlib.Core.List.{List}
use lib.ListN.{length, get_or, drop, drop_of_length-le}
use lib.Seq.{drop-cons}
use lib.Dec.{leb, eqb}
use borrow.Author.Tests.{le-leb, lt-leb}
use Rattle.format.specs.FundType.{fund_types}
use Rattle.format.specs.Limits.{vendor_limit}
use Rattle.format.specs.Settings.{vendor_number, vendors_hold, roles_hold, settings_hold}
use Rattle.format.specs.declared.settings.Settings.{Settings}
use Rattle.format.proofs.Laws.Computed.{and_left, and_right}

module _ (vendors : List ℕ) (i least : ℕ) where
  vendors-step : i < length vendors
      → vendors_hold least (drop i vendors)
      ≡ (leb least (get_or vendors i 0) && vendor_number (get_or vendors i 0) && vendors_hold (get_or vendors i 0 + 1) (drop (i + 1) vendors))
  unfolding vendors_hold
  vendors-step h = rw (add-one (get_or vendors i 0), add-one i, drop-cons vendors i 0)

  -- one that does not rise
  pub vendors-low : i < length vendors → get_or vendors i 0 < least → false ≡ vendors_hold least (drop i vendors)
  vendors-low h k = rw (vendors-step h, lt-leb least (get_or vendors i 0) k)

  -- one that may not stand there
  pub vendors-bad : i < length vendors → least ≤ get_or vendors i 0 → vendor_number (get_or vendors i 0) ≡ false → false ≡ vendors_hold least (drop i vendors)
  vendors-bad h k n = rw (vendors-step h, le-leb least (get_or vendors i 0) k, n)

  -- one that may leaves the rest
  pub vendors-next : i < length vendors → least ≤ get_or vendors i 0 → vendor_number (get_or vendors i 0) ≡ true
      → vendors_hold (get_or vendors i 0 + 1) (drop (i + 1) vendors) ≡ vendors_hold least (drop i vendors)
  vendors-next h k n = rw (vendors-step h, le-leb least (get_or vendors i 0) k, n)

  pub vendors-end : length vendors ≤ i → true ≡ vendors_hold least (drop i vendors)
  unfolding vendors_hold
  vendors-end h = rw (drop_of_length-le vendors h)

-- settings that hold: their vendor list and their roles do
pub settings-parts : (settings : Settings) (vendors sizes : List ℕ) → settings_hold settings vendors sizes ≡ true
    → (vendors_hold 0 vendors ≡ true) × (roles_hold vendors settings.roles ≡ true)
unfolding settings_hold
settings-parts settings vendors sizes t =
    let few : Bool = leb (length vendors) vendor_limit in
    let roles : Bool = roles_hold vendors settings.roles in
    let both : (few && vendors_hold 0 vendors && roles) ≡ true = and_left (few && vendors_hold 0 vendors && roles) (eqb (length sizes) (length fund_types)) t in
    (and_right few (vendors_hold 0 vendors) (and_left (few && vendors_hold 0 vendors) roles both), and_right (few && vendors_hold 0 vendors) roles both)
