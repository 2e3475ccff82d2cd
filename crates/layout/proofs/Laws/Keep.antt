-- What follows from `Kept` for the code that keeps: what is told of a member, and that a row's answers stay while those of others are put.
use Rattle.std.specs.Prelude.{Option, Some, None, Result, Ok, Err}
use Rattle.format.specs.Said.{said}
use Prim.Native.Nat.{ℕ, zero, suc, ◌+◌, ◌-◌, ◌*◌, ◌%◌, ◌≤◌, ◌<◌}
use native.Mathlib.Nat.{le_refl}
use native.Mathlib.Decide.{ℕ_discrete, dec_le}
use native.Mathlib.Omega.{arith}
use mathlib.Core.Path.{◌≡◌, refl, sym, ap, ◌∙◌, subst}
use mathlib.Core.Bool.{Bool, true, false, not, ◌||◌, true≢false}
use mathlib.Core.List.{List}
use lib.ListN.{length}
use Rattle.numbers.proofs.Laws.Tests.{cond-all}
use Rattle.numbers.specs.declared.Endian.{Endian}
use Rattle.format.specs.Lookup.{lookup}
use Rattle.format.specs.TagKind as tag
use Rattle.format.specs.Said.{Said, gives, refuse, refusal, ◌>>=◌}
use Rattle.format.specs.declared.settings.Settings.{Settings}
use Rattle.format.specs.declared.refusal.Refusal.{Refusal}
use Rattle.format.specs.declared.refusal.Reason.TheVariants as reason
use Rattle.tables.specs.Table.{lent_rows}
use Rattle.tables.specs.Row.{row_at, erased_row}
use Rattle.tables.specs.Find.{row_of_key}
use Rattle.tables.proofs.Laws.Find.{row-found}
use Rattle.tables.specs.Inside.Keyed.{refused_at}
use Rattle.tables.specs.Keyed.{found_row}
use Rattle.tables.specs.declared.row.Row.{Row}
use Rattle.links.specs.Links.{next_from, next_row, row_number, sibling_by, sibling_row}
use Rattle.links.specs.Attribute.{sibling_number, reference_of}
use Rattle.links.specs.Inside.Children.{Asked}
use Rattle.records.specs.Member.{member_at}
use Rattle.records.specs.declared.member.Member.{Member}
use Rattle.sizes.specs.Size.{type_size_by, size_or, shapes, shape_of}
use Rattle.sizes.specs.Inside.Noted.{noted_at, PutNoted}
use Rattle.sizes.specs.Inside.Prepare.{structure_fault}
use Rattle.sizes.specs.Size.{is_structure}
use Rattle.sizes.specs.Inside.Kept.{kept_width, row_named, size_named, first_of, second_of, fault_size, SecondKept, MembersKept, PartsKept, PutTwo, PutRow, PutFault, KeepAsked}
use Rattle.sizes.proofs.Laws.Kept.{structure-test}

-- ---- a size, or the row of the entry that has it

module _ (rows : List ℕ) (n key : ℕ) {told : (Option ℕ)} (is : told ≡ row_of_key rows n key) where
  abbrev named : Option ℕ → Said ℕ
  named f = found_row key f >>= λ i. refuse reason.Depth i

  pub named-at : {i : ℕ} → told ≡ Some i → said (Err (refused_at i reason.Depth)) ≡ row_named rows n key
  unfolding said row_named found_row ◌>>=◌
  named-at p = ap named (sym p ∙ is)

  pub named_none : {why : Refusal} → told ≡ None → why ≡ refused_at key reason.Entry → said (Err why) ≡ row_named rows n key
  unfolding said row_named found_row ◌>>=◌
  named_none p q = ap refusal q ∙ ap named (sym p ∙ is)

module _ (sizes rows : List ℕ) (n : ℕ) (m : Member) where
  pub size-own : {size : ℕ} → m.byte_size ≡ Some size → said (Ok size) ≡ size_named sizes rows n m
  unfolding said size_named size_or
  size-own p = ap (size_or (type_size_by sizes (row_named rows n)) m.of) (sym p)

  pub size-typed : {r : Said ℕ} → m.byte_size ≡ None → r ≡ type_size_by sizes (row_named rows n) m.of → r ≡ size_named sizes rows n m
  unfolding size_named size_or
  size-typed p q = q ∙ ap (size_or (type_size_by sizes (row_named rows n)) m.of) (sym p)

-- ---- a sibling is one of the table's rows, or their count

next-within : (rows : List ℕ) (asking : Bool) (i k n : ℕ) → i + k ≡ n → next_from rows asking i k ≤ n
unfolding next_from
next-within rows asking i zero n h = omega arith
next-within rows asking i (suc k) n h =
    cond-all (λ r. r ≤ n) (asking || not (erased_row (row_at rows i).flags)) (λ t. omega arith) (λ t. next-within rows asking (suc i) k n (omega arith))

number-within : (rows : List ℕ) (n key : ℕ) (f : (Option ℕ)) → row_of_key rows n key ≡ f → row_number n f ≤ n
unfolding row_number
number-within rows n key (Some j) p = let there : (j < n) × ((row_at rows j).key ≡ key) = row-found rows n key p in omega (arith, there.0)
number-within rows n key None p = le_refl n

named-within : (rows : List ℕ) (n c : ℕ) → c < n → (r : (Option ℕ)) → sibling_by rows n c r ≤ n
unfolding sibling_by next_row
named-within rows n c l (Some key) = number-within rows n key (row_of_key rows n key) refl
named-within rows n c l None = next-within rows (erased_row (row_at rows c).flags) (suc c) (n - suc c) n (omega arith)

pub sibling-within : (e : Endian) (s rows attrs : List ℕ) (n c : ℕ) → c < n → sibling_row (lent_rows e s rows attrs n) c ≤ n
unfolding sibling_row
sibling-within e s rows attrs n c l = named-within rows n c l (reference_of e s rows attrs c sibling_number)

-- ---- two answers

pub two-put : (c : ℕ) {first second : Said ℕ} {kept kept₁ kept₂ : List ℕ} → PutNoted (c * 3) first kept kept₁ → PutNoted (c * 3 + 1) second kept₁ kept₂
    → PutTwo c first second kept kept₂
two-put c a b =
    record {
      first_is = b.others (c * 3) (λ z. omega (arith, z)) ∙ a.here;
      second_is = b.here;
      others = λ j h k. b.others j k ∙ a.others j h;
      same_long = b.same_long ∙ a.same_long;
    }

-- as what was read tells them
module _ (sizes rows : List ℕ) (n c : ℕ) {kept kept' : List ℕ} where
  read-put : {told r : (Result Member Refusal)} → told ≡ r → PutTwo c (first_of (said r)) (second_of sizes rows n (said r)) kept kept'
      → PutTwo c (first_of (said told)) (second_of sizes rows n (said told)) kept kept'
  read-put p g = subst (λ (x : (Result Member Refusal)). PutTwo c (first_of (said x)) (second_of sizes rows n (said x)) kept kept') (sym p) g

  pub member-put : {told : (Result Member Refusal)} {m : Member} {size : Said ℕ} → told ≡ Ok m → size ≡ size_named sizes rows n m → PutTwo c (said (Ok m.offset)) size kept kept'
      → PutTwo c (first_of (said told)) (second_of sizes rows n (said told)) kept kept'
  unfolding said first_of second_of ◌>>=◌
  member-put {m = m} p q g = read-put p (subst (λ (x : Said ℕ). PutTwo c (gives m.offset) x kept kept') q g)

  pub refused-put : {told : (Result Member Refusal)} {why : Refusal} → told ≡ Err why → PutTwo c (said (Err why)) (said (Ok 0)) kept kept'
      → PutTwo c (first_of (said told)) (second_of sizes rows n (said told)) kept kept'
  unfolding said first_of second_of ◌>>=◌
  refused-put p g = read-put p g

-- ---- a row

-- there is room for it
pub row_fits : {rows kept kept' : List ℕ} {n c i : ℕ} {size : Said ℕ} → Asked rows n c → KeepAsked rows n kept → PutNoted i size kept kept'
    → c * kept_width + kept_width ≤ length kept'
row_fits a w g = omega (arith, a.there, w.fits, g.same_long)

module _ (settings : Settings) (sizes s rows attrs : List ℕ) (n c : ℕ) (asked : Asked rows n c) {kept kept₁ : List ℕ} {sibling : ℕ}
    (is : sibling ≡ sibling_row (lent_rows settings.endian s rows attrs n) c) (g : PutNoted (c * 3 + 2) (said (Ok (sibling % 4294967296))) kept kept₁) where
  -- a row's number fits a word
  sibling-kept : noted_at kept₁ (c * 3 + 2) ≡ gives (sibling_row (lent_rows settings.endian s rows attrs n) c)
  unfolding said
  sibling-kept =
      let within : sibling_row (lent_rows settings.endian s rows attrs n) c ≤ n = sibling-within settings.endian s rows attrs n c asked.there in
      let small : sibling % 4294967296 ≡ sibling_row (lent_rows settings.endian s rows attrs n) c = omega (arith, within, is, asked.table.few) in
      g.here ∙ ap gives small

  pub row-member : {told : Said Member} {kept₂ : List ℕ} → told ≡ member_at settings (lent_rows settings.endian s rows attrs n) c → PutTwo c (first_of told) (second_of sizes rows n told) kept₁ kept₂
      → PutRow settings sizes s rows attrs n c kept kept₂
  row-member p two =
      record {
        sibling_is = two.others (c * 3 + 2) (λ z. omega (arith, z)) (λ z. omega (arith, z)) ∙ sibling-kept;
        first_is = λ t. two.first_is ∙ ap first_of p;
        second_is = λ t. two.second_is ∙ ap (second_of sizes rows n) p;
        before = λ j l. two.others j (λ z. omega (arith, z, l)) (λ z. omega (arith, z, l)) ∙ g.others j (λ z. omega (arith, z, l));
        same_long = two.same_long ∙ g.same_long;
      }

  pub row_other : {row : Row} → row ≡ row_at rows c → (row.kind ≡ tag.member → ⊥) → PutRow settings sizes s rows attrs n c kept kept₁
  row_other at h =
      record {
        sibling_is = sibling-kept;
        first_is = λ t. absurd (h (ap (λ (r : Row). r.kind) at ∙ t));
        second_is = λ t. absurd (h (ap (λ (r : Row). r.kind) at ∙ t));
        before = λ j l. g.others j (λ z. omega (arith, z, l));
        same_long = g.same_long;
      }

-- ---- row after row

-- what holds of row k and of those before it
each_on : (P : ℕ → Type 0) (k : ℕ) → P k → ((c : ℕ) → c < k → P c) → (c : ℕ) → c < k + 1 → P c
each_on P k here before c l = elim (dec_le k c) [ yes h ↦ let same : k ≡ c = omega arith in subst P same here | no h ↦ before c (omega arith) ]

pub record Keeping (settings : Settings) (sizes s rows attrs : List ℕ) (n : ℕ) (kept : List ℕ) (k : ℕ) : Type 0 where
  pub asked : KeepAsked rows n kept
  pub siblings : (c : ℕ) → c < k → noted_at kept (c * 3 + 2) ≡ gives (sibling_row (lent_rows settings.endian s rows attrs n) c)
  pub first : (c : ℕ) → c < k → (row_at rows c).kind ≡ tag.member → noted_at kept (c * 3) ≡ first_of (member_at settings (lent_rows settings.endian s rows attrs n) c)
  pub second : SecondKept settings sizes s rows attrs n kept k

module _ (settings : Settings) (sizes s rows attrs : List ℕ) (n : ℕ) where
  pub keeping-begins : {kept : List ℕ} → KeepAsked rows n kept → Keeping settings sizes s rows attrs n kept 0
  keeping-begins a =
      record {
        asked = a;
        siblings = λ c l. absurd (omega (arith, l));
        first = λ c l t. absurd (omega (arith, l));
        second = λ c l h t. absurd (omega (arith, l));
      }

  pub keeping-on : {kept kept' : List ℕ} {k : ℕ} → Keeping settings sizes s rows attrs n kept k → PutRow settings sizes s rows attrs n k kept kept'
      → Keeping settings sizes s rows attrs n kept' (k + 1)
  keeping-on {kept} {kept'} {k} w g =
      record {
        asked = record { table = w.asked.table; fits = omega (arith, w.asked.fits, g.same_long) };
        siblings = each_on (λ c. noted_at kept' (c * 3 + 2) ≡ gives (sibling_row (lent_rows settings.endian s rows attrs n) c)) k g.sibling_is
            (λ c l. g.before (c * 3 + 2) (omega arith) ∙ w.siblings c l);
        first = each_on (λ c. (row_at rows c).kind ≡ tag.member → noted_at kept' (c * 3) ≡ first_of (member_at settings (lent_rows settings.endian s rows attrs n) c)) k g.first_is
            (λ c l t. g.before (c * 3) (omega arith) ∙ w.first c l t);
        second = λ c l some. each_on (λ c. (row_at rows c).kind ≡ tag.member → noted_at kept' (c * 3 + 1) ≡ second_of sizes rows n (member_at settings (lent_rows settings.endian s rows attrs n) c)) k
            g.second_is (λ c l t. g.before (c * 3 + 1) (omega arith) ∙ w.second c l (omega (arith, some, g.same_long)) t) c l;
      }

  pub keeping-ends : {kept : List ℕ} {k : ℕ} → Keeping settings sizes s rows attrs n kept k → n ≤ k → MembersKept settings sizes s rows attrs n kept
  keeping-ends w e =
      record {
        faults = record { siblings = record { sibling = λ c l h. w.siblings c (omega arith) }; first = λ c l h. w.first c (omega arith) };
        second = λ c l h. w.second c (omega arith) h;
      }

-- ---- structures' faults

module _ (settings : Settings) (s rows attrs : List ℕ) (n i : ℕ) {row : Row} (at : row ≡ row_at rows i) {b : Bool} (is : b ≡ is_structure (shape_of row.kind)) where
  pub fault-put : b ≡ true → {told : Said Unit} {size : Said ℕ} → told ≡ structure_fault settings s rows attrs n i → size ≡ fault_size told → {kept kept' : List ℕ}
      → PutNoted (i * 3) size kept kept' → PutFault settings s rows attrs n i kept kept'
  fault-put t p q g =
      record {
        fault_is = λ u. g.here ∙ q ∙ ap fault_size p;
        none = λ u. absurd (true≢false (sym (structure-test rows i at is t) ∙ u));
        others = g.others;
        same_long = g.same_long;
      }

  pub fault-none : b ≡ false → {kept : List ℕ} → PutFault settings s rows attrs n i kept kept
  fault-none t = record { fault_is = λ u. absurd (true≢false (sym u ∙ structure-test rows i at is t)); none = λ u. refl; others = λ j h. refl; same_long = refl }

-- a member is no structure
member-shape : {kind : ℕ} → kind ≡ tag.member → is_structure (shape_of kind) ≡ false
unfolding is_structure shape_of shapes lookup
member-shape p = ap (λ (k : ℕ). is_structure (shape_of k)) p

pub record Faulting (settings : Settings) (sizes s rows attrs : List ℕ) (n : ℕ) (kept : List ℕ) (k : ℕ) : Type 0 where
  pub asked : KeepAsked rows n kept
  pub members : MembersKept settings sizes s rows attrs n kept
  pub structures : (i : ℕ) → i < k → is_structure (shape_of (row_at rows i).kind) ≡ true → noted_at kept (i * 3) ≡ fault_size (structure_fault settings s rows attrs n i)

module _ (settings : Settings) (sizes s rows attrs : List ℕ) (n : ℕ) where
  -- what is kept of members stays
  members-stay : {kept kept' : List ℕ} {i : ℕ} → PutFault settings s rows attrs n i kept kept' → MembersKept settings sizes s rows attrs n kept
      → MembersKept settings sizes s rows attrs n kept'
  members-stay {kept} {kept'} {i} g w =
      record {
        faults = record {
          siblings = record { sibling = λ c l h. g.others (c * 3 + 2) (λ z. omega (arith, z)) ∙ w.faults.siblings.sibling c l (omega (arith, h, g.same_long)) };
          first = λ c l h t. first-stays c t ∙ w.faults.first c l (omega (arith, h, g.same_long)) t;
        };
        second = λ c l h t. g.others (c * 3 + 1) (λ z. omega (arith, z)) ∙ w.second c l (omega (arith, h, g.same_long)) t;
      }
    where
      first-stays : (c : ℕ) → (row_at rows c).kind ≡ tag.member → noted_at kept' (c * 3) ≡ noted_at kept (c * 3)
      first-stays c t =
          elim (ℕ_discrete c i) [
            | yes e ↦ ap (λ (u : List ℕ). noted_at u (c * 3)) (g.none (member-shape (ap (λ (j : ℕ). (row_at rows j).kind) (sym e) ∙ t)))
            | no d ↦ g.others (c * 3) (λ z. omega (arith, z, d))
          ]

  pub faulting-begins : {kept : List ℕ} → KeepAsked rows n kept → MembersKept settings sizes s rows attrs n kept → Faulting settings sizes s rows attrs n kept 0
  faulting-begins a w = record { asked = a; members = w; structures = λ i l t. absurd (omega (arith, l)) }

  pub faulting-on : {kept kept' : List ℕ} {k : ℕ} → Faulting settings sizes s rows attrs n kept k → PutFault settings s rows attrs n k kept kept'
      → Faulting settings sizes s rows attrs n kept' (k + 1)
  faulting-on {kept} {kept'} {k} w g =
      record {
        asked = record { table = w.asked.table; fits = omega (arith, w.asked.fits, g.same_long) };
        members = members-stay g w.members;
        structures = each_on
            (λ i. is_structure (shape_of (row_at rows i).kind) ≡ true → noted_at kept' (i * 3) ≡ fault_size (structure_fault settings s rows attrs n i)) k g.fault_is
            (λ i l t. g.others (i * 3) (λ z. omega (arith, z, l)) ∙ w.structures i l t);
      }

  pub faulting-ends : {kept : List ℕ} {k : ℕ} → Faulting settings sizes s rows attrs n kept k → n ≤ k → PartsKept settings sizes s rows attrs n kept
  faulting-ends w e =
      record { rows_kept = record { faults = w.members.faults; structure = λ i l h. w.structures i (omega arith) }; second = w.members.second }
