-- What follows from `Scan`, for each way that the code comes to an answer; and what a scan that stopped says about the attributes before.
use Rattle.std.specs.Prelude.{Result, Ok, Err}
use Rattle.format.specs.Said.{said}
use Prim.Native.Nat.{ℕ, zero, suc, ◌+◌, ◌-◌, ◌≤◌, ◌<◌}
use native.Mathlib.Nat.{sub-zero, lt_of_not-le}
use native.Mathlib.Decide.{dec_le}
use native.Mathlib.Omega.{arith}
use mathlib.Core.Path.{◌≡◌, refl, sym, ap, ◌∙◌, subst}
use mathlib.Core.Bool.{Bool, true, false, cond, true≢false}
use mathlib.Core.List.{List}
use Rattle.numbers.proofs.Laws.Tests.{cond-all}
use Rattle.format.specs.declared.settings.Roles.{Roles}
use Rattle.format.specs.declared.refusal.Refusal.{Refusal}
use Rattle.attributes.specs.declared.decode.Endians.{Endians}
use Rattle.tables.specs.declared.row.Row.{Row}
use Rattle.records.specs.Taken.{special}
use Rattle.format.specs.Said.{Said, gives, refuses, refusal, ◌>>◌}
use Rattle.format.proofs.Laws.Said.{case-said}
use Rattle.records.specs.Scan.{attribute_at, attribute_fault, faults_from, fault_at, number_at}
use Rattle.records.specs.Inside.Scan.{scan_from, Plain}
use Rattle.records.specs.declared.taken.Record.{Record}
use Rattle.records.specs.declared.taken.Record.TheVariants as record'
use Rattle.records.specs.declared.scan.Run.{Run}

-- ---- a row's attributes, and one of them

abbrev run : Row → Endians → Run
run row ends = record { first = row.first; count = row.count; key = row.key; ends = ends }

-- ---- a location, by record

-- what a type or a location says that the code has read, placed at the row; and what is wrong with it

-- ---- records that read no attribute themselves

pub plain-member : Plain record'.Member
unfolding special
plain-member = record { plain = λ number. refl }

pub plain-union : Plain record'.Union
unfolding special
plain-union = record { plain = λ number. refl }

pub plain-variable : Plain record'.Variable
unfolding special
plain-variable = record { plain = λ number. refl }

pub plain_label : Plain record'.Label
unfolding special
plain_label = record { plain = λ number. refl }

pub plain-ptr-to-member : Plain record'.PtrToMember
unfolding special
plain-ptr-to-member = record { plain = λ number. refl }

pub plain-overlay-branch : Plain record'.OverlayBranch
unfolding special
plain-overlay-branch = record { plain = λ number. refl }

-- ---- the first fault of several attributes, however they are judged

module _ (f : ℕ → Said Unit) where
  fault-none : (j n : ℕ) → f j ≡ gives tt → faults_from f j (suc n) ≡ faults_from f (suc j) n
  unfolding faults_from ◌>>◌
  fault-none j n p = ap (λ (x : Said Unit). x >> faults_from f (suc j) n) p

  faults-over : (d j n : ℕ) → ((m : ℕ) → j ≤ m → m < j + d → f m ≡ gives tt) → faults_from f j (d + n) ≡ faults_from f (j + d) n
  faults-over zero j n clear =
      let many : zero + n ≡ n = omega arith in
      let place : j ≡ j + zero = omega arith in
      ap (faults_from f j) many ∙ ap (λ (x : ℕ). faults_from f x n) place
  faults-over (suc d) j n clear =
      let many : suc d + n ≡ suc (d + n) = omega arith in
      let place : suc j + d ≡ j + suc d = omega arith in
      ap (faults_from f j) many ∙ fault-none j (d + n) (clear j (omega arith) (omega arith)) ∙ faults-over d (suc j) n (λ m a b. clear m (omega arith) (omega arith))
      ∙ ap (λ (x : ℕ). faults_from f x n) place

  -- attributes without a fault are passed by
  pub faults-past : (j n k : ℕ) → j ≤ k → k ≤ j + n → ((m : ℕ) → j ≤ m → m < k → f m ≡ gives tt) → faults_from f j n ≡ faults_from f k (j + n - k)
  faults-past j n k from upto clear =
      let many : n ≡ k - j + (j + n - k) = omega arith in
      let place : j + (k - j) ≡ k = omega arith in
      ap (faults_from f j) many ∙ faults-over (k - j) j (j + n - k) (λ m a b. clear m a (omega arith)) ∙ ap (λ (x : ℕ). faults_from f x (j + n - k)) place

  -- a fault decides
  pub faults-here : (j n : ℕ) {number place : ℕ} {counts : List ℕ} → f j ≡ refuses number place counts → zero < n
      → faults_from f j n ≡ refuses number place counts
  unfolding faults_from ◌>>◌
  faults-here j zero p h = absurd (omega arith)
  faults-here j (suc n) p h = ap (λ (x : Said Unit). x >> faults_from f (suc j) n) p

-- ---- the scan

module _ (roles : Roles) (r : Record) (run : Run) (s attrs : List ℕ) where
  abbrev scanned : ℕ → ℕ → Said ℕ
  scanned j n = scan_from roles r run s attrs j n

  abbrev judged : ℕ → Said Unit
  judged j = fault_at roles r run s attrs j

  abbrev is_own : ℕ → Bool
  is_own j = special r (number_at roles r run s attrs j)

  -- the attributes from j up to k are none of the record's own and have no fault
  pub record Before (j k : ℕ) : Type 0 where
    pub plain : (m : ℕ) → j ≤ m → m < k → special r (number_at roles r run s attrs m) ≡ false
    pub clear : (m : ℕ) → j ≤ m → m < k → fault_at roles r run s attrs m ≡ gives tt

  -- what a scan of n attributes from j on says that stopped at k
  pub record Stopped (j n k : ℕ) : Type 0 where
    pub from : j ≤ k
    pub upto : k ≤ j + n
    pub own : k < j + n → special r (number_at roles r run s attrs k) ≡ true
    pub before : Before j k

  -- what one says that met a fault: it was at k
  pub record FaultMet (j n k number place : ℕ) (counts : List ℕ) : Type 0 where
    pub from : j ≤ k
    pub within : k < j + n
    pub plain : special r (number_at roles r run s attrs k) ≡ false
    pub fault : fault_at roles r run s attrs k ≡ refuses number place counts
    pub before : Before j k

  none_before : (j : ℕ) → Before j j
  none_before j = record { plain = λ m a b. absurd (omega arith); clear = λ m a b. absurd (omega arith) }

  one-before : (j k : ℕ) → is_own j ≡ false → judged j ≡ gives tt → Before (suc j) k → Before j k
  one-before j k t p w =
      record {
        plain = λ m a b. first (λ x. is_own x ≡ false) m a t (λ l. w.plain m l b);
        clear = λ m a b. first (λ x. judged x ≡ gives tt) m a p (λ l. w.clear m l b);
      }
    where
      first : (P : ℕ → Type 0) (m : ℕ) → j ≤ m → P j → (suc j ≤ m → P m) → P m
      first P m a x rest =
          elim (dec_le (suc j) m) [
            | yes l ↦ rest l
            | no l ↦ let less : m < suc j = lt_of_not-le l in let same : j ≡ m = omega arith in subst P same x
          ]

  abbrev Told : ℕ → ℕ → Said ℕ → Type 0
  Told j n (gives k) = Stopped j n k
  Told j n (refuses number place counts) = (k : ℕ) × FaultMet j n k number place counts

  told-on : (j n : ℕ) → is_own j ≡ false → judged j ≡ gives tt → (next : Said ℕ) → Told (suc j) n next → Told j (suc n) next
  told-on j n t p (gives k) w =
      let from' : suc j ≤ k = w.from in
      let upto' : k ≤ suc j + n = w.upto in
      record { from = omega arith; upto = omega arith; own = λ h. w.own (omega arith); before = one-before j k t p w.before }
  told-on j n t p (refuses number place counts) w =
      let from' : suc j ≤ w.0 = w.1.from in
      let within' : w.0 < suc j + n = w.1.within in
      (w.0, record { from = omega arith; within = omega arith; plain = w.1.plain; fault = w.1.fault; before = one-before j w.0 t p w.1.before })

  told-past : (j n : ℕ) → is_own j ≡ false → (f : Said Unit) → judged j ≡ f → Told (suc j) n (scanned (suc j) n) → Told j (suc n) (f >> scanned (suc j) n)
  unfolding ◌>>◌
  told-past j n t (gives tt) p w = told-on j n t p (scanned (suc j) n) w
  told-past j n t (refuses number place counts) p w = (j, record { from = omega arith; within = omega arith; plain = t; fault = p; before = none_before j })

  told : (j n : ℕ) → Told j n (scanned j n)
  unfolding scan_from
  told j zero = record { from = omega arith; upto = omega arith; own = λ h. absurd (omega arith); before = none_before j }
  told j (suc n) =
      cond-all (Told j (suc n)) (is_own j) (λ t. record { from = omega arith; upto = omega arith; own = λ h. t; before = none_before j })
      (λ t. told-past j n t (judged j) refl (told (suc j) n))

  pub scan-stop : {j n k : ℕ} → scan_from roles r run s attrs j n ≡ gives k → Stopped j n k
  scan-stop {j} {n} p = subst (Told j n) p (told j n)

  pub scan-refused : {j n number place : ℕ} {counts : List ℕ} → scan_from roles r run s attrs j n ≡ refuses number place counts
      → (k : ℕ) × FaultMet j n k number place counts
  scan-refused {j} {n} p = subst (Told j n) p (told j n)

  -- what that says about the faults of all, where the record judges its own attributes in some other way
  module _ (f : ℕ → Said Unit) (same : (j : ℕ) → special r (number_at roles r run s attrs j) ≡ false → f j ≡ fault_at roles r run s attrs j) where
    pub faults-stopped : {j n k : ℕ} → Stopped j n k → faults_from f j n ≡ faults_from f k (j + n - k)
    faults-stopped {j} {n} {k} w = faults-past f j n k w.from w.upto (λ m a b. same m (w.before.plain m a b) ∙ w.before.clear m a b)

    pub faults-met : {j n k number place : ℕ} {counts : List ℕ} → FaultMet j n k number place counts → faults_from f j n ≡ refuses number place counts
    faults-met {j} {n} {k} w =
        let within' : k < j + n = w.within in
        faults-past f j n k w.from (omega arith) (λ m a b. same m (w.before.plain m a b) ∙ w.before.clear m a b)
        ∙ faults-here f k (j + n - k) (same k w.plain ∙ w.fault) (omega arith)

  -- ---- the loop: an attribute decides, or those behind it do

  pub scan-step : (j : ℕ) → j < run.count
      → scan_from roles r run s attrs j (run.count - j)
      ≡ cond (special r (attribute_at attrs (run.first + j)).number) (gives j)
      (attribute_fault roles r run s (attribute_at attrs (run.first + j)) >> scan_from roles r run s attrs (j + 1) (run.count - (j + 1)))
  unfolding scan_from fault_at number_at
  scan-step j h =
      let one : run.count - j ≡ suc (run.count - (j + 1)) = omega arith in
      let place : suc j ≡ j + 1 = omega arith in
      rw (one, scan_from, place)

  pub scan-end : (j : ℕ) → run.count ≤ j → scan_from roles r run s attrs j (run.count - j) ≡ gives j
  unfolding scan_from
  scan-end j h = let none : run.count - j ≡ zero = omega arith in rw none

  -- ---- all attributes of a record that reads none itself

  module _ (w : Plain r) {told : Result ℕ Refusal} (is : said told ≡ scan_from roles r run s attrs 0 (run.count - 0)) where
    all : {x : Result ℕ Refusal} → told ≡ x → scan_from roles r run s attrs 0 run.count ≡ said x
    all p = ap (scanned 0) (sym (sub-zero run.count)) ∙ sym (case-said said is p)

    pub all-clear : {k : ℕ} → told ≡ Ok k → gives tt ≡ faults_from (fault_at roles r run s attrs) 0 run.count
    unfolding faults_from said
    all-clear {k} p =
        let stop : Stopped 0 run.count k = scan-stop (all p) in
        elim (dec_le (0 + run.count) k) [
          | yes l ↦ let none : zero ≡ 0 + run.count - k = omega arith in ap (faults_from judged k) none ∙ sym (faults-stopped judged (λ j q. refl) stop)
          | no l ↦ absurd (true≢false (sym (stop.own (lt_of_not-le l)) ∙ w.plain (number_at roles r run s attrs k)))
        ]

    pub all-refused : {why : Refusal} → told ≡ Err why → refusal why ≡ faults_from (fault_at roles r run s attrs) 0 run.count
    unfolding said
    all-refused p = sym (faults-met judged (λ j q. refl) (scan-refused (all p)).1)

pub ruleset scans = (scan-step, scan-end)
