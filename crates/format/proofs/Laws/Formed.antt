-- With settings that hold, every known attribute number has a form: its low four bits are 1 to 8.
use Prim.Native.Nat.{ℕ, suc, ◌%◌, ◌≤◌}
use native.Mathlib.Omega.{arith}
use mathlib.Core.Path.{◌≡◌, refl, ap, ◌∙◌}
use mathlib.Core.Bool.{Bool, true, not, ◌&&◌, cond}
use mathlib.Core.List.{List, [], ◌∷◌}
use lib.Dec.{leb, eqb}
use borrow.Author.Tests.{leb-true, le-leb, eqb-true}
use Rattle.numbers.proofs.Laws.Tests.{cond-all}
use Rattle.format.specs.Lookup.{is_on, lookup}
use Rattle.format.specs.FormKind.{forms, form_of, form_number}
use Rattle.format.specs.AttributeKind.{used, also_known, attribute_kinds}
use Rattle.format.specs.Known.{known}
use Rattle.format.specs.Settings.{vendor_number, vendors_hold, settings_hold}
use Rattle.format.specs.declared.settings.Settings.{Settings}
use Rattle.format.specs.declared.form_kind.FormKind.TheVariants.{Undefined}
use Rattle.format.proofs.Laws.Settings.{settings-parts}
use Rattle.format.proofs.Laws.Computed.{and_left, and_right, below, below_at, all_on, all-on}

-- the low four bits are one of the eight
unfoldable low_formed : ℕ → Bool
low_formed n = leb 1 (n % 16) && leb (n % 16) 8

-- such a number has a form
low-formed : (n : ℕ) → low_formed n ≡ true → form_of n ≡ Undefined → ⊥
unfolding low_formed form_of forms form_number lookup below
low-formed n t p =
    let low : 1 ≤ n % 16 = leb-true 1 (n % 16) (and_left (leb 1 (n % 16)) (leb (n % 16) 8) t) in
    let high : n % 16 ≤ 8 = leb-true (n % 16) 8 (and_right (leb 1 (n % 16)) (leb (n % 16) 8) t) in
    let same : form_number (form_of n) ≡ cond (leb (n % 16) 8) (n % 16) 0 =
    eqb-true _ _ (below_at 16 (λ (k : ℕ). eqb (form_number (lookup forms Undefined k)) (cond (leb k 8) k 0)) refl (n % 16) (omega arith))
    in
    let is : form_number (form_of n) ≡ n % 16 = same ∙ ap (λ (b : Bool). cond b (n % 16) 0) (le-leb (n % 16) 8 high) in
    let none : form_number (form_of n) ≡ 0 = ap form_number p in
    omega arith

-- document 01's own numbers are such
named-formed : all_on low_formed attribute_kinds ≡ true
unfolding all_on low_formed attribute_kinds used also_known
named-formed = refl

-- and a vendor list's
vendors-formed : (least : ℕ) (xs : List ℕ) → vendors_hold least xs ≡ true → all_on low_formed xs ≡ true
unfolding vendors_hold vendor_number all_on low_formed
vendors-formed least [] t = refl
vendors-formed least (x ∷ xs) t =
    let here : (leb least x && vendor_number x) ≡ true = and_left (leb least x && vendor_number x) (vendors_hold (suc x) xs) t in
    let one : low_formed x ≡ true = and_left (low_formed x) (not (is_on x attribute_kinds)) (and_right (leb least x) (vendor_number x) here) in
    rw one (vendors-formed (suc x) xs (and_right (leb least x && vendor_number x) (vendors_hold (suc x) xs) t))

-- the theorem
pub known-formed : (settings : Settings) (vendors sizes : List ℕ) → settings_hold settings vendors sizes ≡ true → (n : ℕ) → known vendors n ≡ true
    → form_of n ≡ Undefined → ⊥
unfolding known
known-formed settings vendors sizes t n k =
    low-formed n
    (cond-all (λ (k : ℕ). low_formed n ≡ true) (is_on n attribute_kinds) {x = 0} {y = 0} (λ e. all-on low_formed attribute_kinds n named-formed e)
    (λ d. all-on low_formed vendors n (vendors-formed 0 vendors (settings-parts settings vendors sizes t).0) (rw d at k)))
