-- The code's way from the last row back finds the first row at fault; where there is none, the reaches nest, and else not.
use Prim.Native.Nat.{ℕ, zero, suc, ◌+◌, ◌≤◌, ◌<◌}
use native.Mathlib.Nat.{le_refl}
use native.Mathlib.Decide.{ℕ_discrete, dec_le, dec_lt}
use native.Mathlib.Omega.{arith}
use mathlib.Core.Path.{◌≡◌, refl, sym, ap, subst, ◌∙◌}
use mathlib.Core.Logic.{inl, inr}
use mathlib.Core.Bool.{Bool, true, false, ◌&&◌, ◌||◌, true≢false, not-eq-not, and-eq-true_iff, or-true}
use lib.Dec.{leb, ltb, eqb}
use borrow.Author.Tests.{lt-ltb, le-leb, eq-eqb, ltb-true, ltb-false, leb-true, leb-false, eqb-true, eqb-false}
use Rattle.numbers.proofs.Laws.Tests.{cond-all}
use Rattle.tree.specs.Pick.{any_below}
use Rattle.tree.proofs.Laws.Pick.{first-unique, first-none, any_below_lem}
use Rattle.tree.specs.Nest.{lies, crosses, faulty, first_fault}
use Rattle.tree.specs.Inside.Passing.{chain, fault_of_row, fault_from}
use Rattle.tree.proofs.Laws.Ends.{Reaching}
use Rattle.tree.proofs.Laws.Nested.{Nested}

-- a good reference ends later
pub good-later : {n : ℕ} {reach : ℕ → ℕ} → Reaching n reach → (i : ℕ) → i < n → (reach i ≡ 0 → ⊥) → (i < reach i) × (reach i ≤ n)
good-later reaching i h good = elim (reaching.bad_or_later i h) [ inl e ↦ absurd (good e) | inr p ↦ p ]

-- row j's reference is bad, or crosses the reach of an earlier row, of those from row i on
data Wrong (reach : ℕ → ℕ) (i j : ℕ) : Type 0 where
  bad : reach j ≡ 0 → Wrong reach i j
  across : (h : ℕ) → i ≤ h → h < j → j < reach h → reach h < reach j → Wrong reach i j

-- a row that is wrong stays so when more rows count
wider : {reach : ℕ → ℕ} {i j : ℕ} → Wrong reach (suc i) j → Wrong reach i j
wider (bad e) = bad e
wider (across h a l m o) = across h (omega arith) l m o

-- ---- the test of a row, in words

crosses-when : (n : ℕ) (reach : ℕ → ℕ) (i j : ℕ) → i < j → j < reach i → reach i < reach j → crosses n reach i j ≡ true
unfolding crosses lies
crosses-when n reach i j h l m = rw (le-leb i j (omega arith), lt-ltb j (reach i) l, lt-ltb (reach i) (reach j) m)

crosses-then : (n : ℕ) (reach : ℕ → ℕ) (i j : ℕ) → crosses n reach i j ≡ true → (j < reach i) × (reach i < reach j)
unfolding crosses lies
crosses-then n reach i j t =
    let outer = (and-eq-true_iff (leb i j && ltb j (reach i)) (ltb (reach i) (reach j))).0 t in
    let inner = (and-eq-true_iff (leb i j) (ltb j (reach i))).0 outer.0 in
    (ltb-true j (reach i) inner.1, ltb-true (reach i) (reach j) outer.1)

wrong-faulty : (n : ℕ) (reach : ℕ → ℕ) (j : ℕ) → Wrong reach 0 j → faulty n reach j ≡ true
unfolding faulty
wrong-faulty n reach j (bad e) = rw (eq-eqb (reach j) 0 e)
wrong-faulty n reach j (across h z l m o) =
    rw ((any_below_lem (λ i. crosses n reach i j) j).1 (h, l, crosses-when n reach h j l m o)) (or-true (eqb (reach j) 0))

faulty-wrong : (n : ℕ) (reach : ℕ → ℕ) (j : ℕ) → faulty n reach j ≡ true → Wrong reach 0 j
unfolding faulty
faulty-wrong n reach j t = go (eqb (reach j) 0) refl t
  where
    go : (b : Bool) → eqb (reach j) 0 ≡ b → (b || any_below (λ i. crosses n reach i j) j) ≡ true → Wrong reach 0 j
    go true e u = bad (eqb-true (reach j) 0 e)
    go false e u =
        let w = (any_below_lem (λ i. crosses n reach i j) j).0 u in
        let c = crosses-then n reach w.0 j w.2 in
        across w.0 (omega arith) w.1 c.0 c.1

-- ---- the first wrong row

-- r is the first row from row i on that is wrong, or n
record FirstWrong (n : ℕ) (reach : ℕ → ℕ) (i r : ℕ) : Type 0 where
  from : i ≤ r
  to : r ≤ n
  before : (j : ℕ) → i ≤ j → j < r → Wrong reach i j → ⊥
  here : r < n → Wrong reach i r

-- of all rows, it is the first at fault
wrong_first : {n : ℕ} {reach : ℕ → ℕ} {r : ℕ} → FirstWrong n reach 0 r → r ≡ first_fault n reach
unfolding first_fault
wrong_first {n} {reach} {r} w = first-unique {p = faulty n reach} {i = 0} {k = n} (record {
  from = w.from;
  to = omega (arith, w.to);
  before = λ j h l. (not-eq-not {b = false}).0 (λ t. w.before j h l (faulty-wrong n reach j t));
  here = λ h. wrong-faulty n reach r (w.here (omega arith));
})

-- where no row is at fault, none is wrong
none-wrong : (n : ℕ) (reach : ℕ → ℕ) → first_fault n reach ≡ n → FirstWrong n reach 0 n
unfolding first_fault
none-wrong n reach e = record {
  from = omega arith;
  to = le_refl n;
  before = λ j h l w. true≢false (sym (wrong-faulty n reach j w) ∙ (first-none (faulty n reach) n).0 e j l);
  here = λ h. absurd (omega arith);
}

-- the rows before it have reaches, which nest among themselves
module _ {n : ℕ} {reach : ℕ → ℕ} {i b : ℕ} (reaching : Reaching n reach) (w : FirstWrong n reach i b) where
  right-later : (j : ℕ) → i ≤ j → j < b → (j < reach j) × (reach j ≤ n)
  right-later j h l = good-later reaching j (omega (arith, w.to)) (λ e. w.before j h l (bad e))

  right-nests : (h j : ℕ) → i ≤ h → h < j → j < b → j < reach h → reach j ≤ reach h
  right-nests h j a l m o =
      elim (dec_le (reach j) (reach h)) [ yes k ↦ k | no k ↦ absurd (w.before j (omega arith) m (across h a l o (omega arith))) ]

-- ---- the chain inside a row's reach

-- r is the first row after row i, before b and inside a reach that ends at `end`, whose own goes further; or b
record FirstFurther (reach : ℕ → ℕ) (i end b r : ℕ) : Type 0 where
  from : i < r
  to : r ≤ b
  before : (j : ℕ) → i < j → j < r → j < end → reach j ≤ end
  here : r < b → (r < end) × (end < reach r)

module _ {n : ℕ} {reach : ℕ → ℕ} {i b : ℕ} (reaching : Reaching n reach) (w : FirstWrong n reach (suc i) b) (end : ℕ) where
  -- the rows between row i and row c end at row c or before it
  abbrev Closed : ℕ → Type 0
  Closed c = (j : ℕ) → i < j → j < c → j < b → reach j ≤ c

  -- no row is left to look at
  chain-over : (c : ℕ) → c ≤ end → Closed c → ((j : ℕ) → j < b → j < end → j < c) → FirstFurther reach i end b b
  chain-over c l closed over = record {
    from = w.from;
    to = le_refl b;
    before = λ j a o u. omega (arith, closed j a (over j o u) o);
    here = λ g. absurd (omega arith);
  }

  -- the rows that row c's reach holds end in it, since they come before b
  closed-next : (c : ℕ) → i < c → c < reach c → Closed c → Closed (reach c)
  closed-next c h l closed j a o u =
      elim (dec_lt j c) [
        | yes k ↦ omega (arith, closed j a k u)
        | no k ↦ elim (ℕ_discrete c j) [
          | yes e ↦ (let same : reach c ≡ reach j = ap reach e in omega arith)
          | no d ↦ right-nests reaching w c j h (omega arith) u o
        ]
      ]

  -- so the first row that goes further stands on the chain; each turn rises, so that the turns suffice
  chain-further : (f c : ℕ) → i < c → c ≤ end → end ≤ c + f → Closed c → FirstFurther reach i end b (chain n reach end b f c)
  unfolding chain
  chain-further zero c h l m closed = chain-over c l closed (λ j o u. omega arith)
  chain-further (suc f) c h l m closed =
      cond-all Here (ltb c end)
      (λ t. cond-all Here (leb b c) (λ u. (let past : b ≤ c = leb-true b c u in chain-over c l closed (λ j o v. omega arith)))
      (λ u. (let short : c < b = leb-false b c u in let later : c < reach c = (right-later reaching w c h short).0 in
      cond-all Here (leb (reach c) c) (λ v. absurd (omega (arith, leb-true (reach c) c v)))
      (λ v. cond-all Here (ltb end (reach c))
      (λ x. record {
        from = h;
        to = omega arith;
        before = λ j a o y. omega (arith, closed j a o (omega arith));
        here = λ g. (ltb-true c end t, ltb-true end (reach c) x);
      })
      (λ x. chain-further f (reach c) (omega arith) (ltb-false end (reach c) x) (omega arith) (closed-next c h later closed))))))
      (λ t. (let past : end ≤ c = ltb-false c end t in chain-over c l closed (λ j o v. omega arith)))
    where
      Here : ℕ → Type 0
      Here r = FirstFurther reach i end b r

-- ---- from the last row back

-- the first wrong row after row i, or one before it that crosses row i's reach
wrong-step : {n : ℕ} {reach : ℕ → ℕ} {i b : ℕ} → Reaching n reach → i < n → FirstWrong n reach (suc i) b → FirstWrong n reach i (fault_of_row n reach i b)
unfolding fault_of_row
wrong-step {n} {reach} {i} {b} reaching h w =
    cond-all (FirstWrong n reach i) (eqb (reach i) 0)
    (λ t. record { from = le_refl i; to = omega arith; before = λ j a l x. omega arith; here = λ g. bad (eqb-true (reach i) 0 t) })
    (λ t. (let own : (i < reach i) × (reach i ≤ n) = good-later reaching i h (eqb-false (reach i) 0 t) in
    further own (chain-further reaching w (reach i) n (suc i) (le_refl (suc i)) own.0 (omega arith) (λ j a l o. absurd (omega arith)))))
  where
    further : {r : ℕ} → (i < reach i) × (reach i ≤ n) → FirstFurther reach i (reach i) b r → FirstWrong n reach i r
    further {r} own first = record {
      from = omega (arith, first.from);
      to = omega (arith, first.to, w.to);
      before = λ j a l x. elim x [
        | bad e ↦ elim (ℕ_discrete i j) [
          | yes same ↦ (let row : reach i ≡ reach j = ap reach same in omega (arith, own.0))
          | no d ↦ w.before j (omega arith) (omega (arith, first.to)) (bad e)
        ]
        | across k o u y z ↦ elim (ℕ_discrete i k) [
          | yes same ↦ (let row : reach i ≡ reach k = ap reach same in omega (arith, first.before j (omega arith) l (omega arith)))
          | no d ↦ w.before j (omega arith) (omega (arith, first.to)) (across k (omega arith) u y z)
        ]
      ];
      here = λ g. elim (dec_lt r b) [
        | yes l ↦ across i (le_refl i) first.from (first.here l).0 (first.here l).1
        | no l ↦ (let last : b ≡ r = omega (arith, first.to) in subst (Wrong reach i) last (wider (w.here (omega arith))))
      ];
    }

-- so the way back keeps the first wrong row of those it has passed
back-wrong : (n : ℕ) (reach : ℕ → ℕ) → Reaching n reach → (i k : ℕ) → i + k ≡ n → FirstWrong n reach i (fault_from n reach i k)
unfolding fault_from
back-wrong n reach reaching i zero e =
    record { from = le_refl i; to = omega arith; before = λ j h l w. omega arith; here = λ h. absurd (omega arith) }
back-wrong n reach reaching i (suc k) e = wrong-step reaching (omega arith) (back-wrong n reach reaching (suc i) k (omega arith))

-- the code's way finds the first row at fault
pub first-fault : (n : ℕ) (reach : ℕ → ℕ) → Reaching n reach → fault_from n reach 0 n ≡ first_fault n reach
first-fault n reach reaching = wrong_first (back-wrong n reach reaching 0 n (omega arith))

-- where no row is at fault, the reaches nest
pub fault-none : (n : ℕ) (reach : ℕ → ℕ) → Reaching n reach → first_fault n reach ≡ n → Nested n reach
fault-none n reach reaching e =
    let w = none-wrong n reach e in
    record {
      later = λ i h. (right-later reaching w i (omega arith) h).0;
      within = λ i h. (right-later reaching w i (omega arith) h).1;
      nests = λ i j l h m. right-nests reaching w i j (omega arith) l h m;
    }

-- where they nest, no row is at fault
pub nested-no-fault : (n : ℕ) (reach : ℕ → ℕ) → Nested n reach → first_fault n reach ≡ n
nested-no-fault n reach nested = sym (wrong_first (record {
  from = omega arith;
  to = le_refl n;
  before = λ j h l w. elim w [ bad e ↦ omega (arith, nested.later j l) | across k a o u x ↦ omega (arith, nested.nests k j o l u) ];
  here = λ h. absurd (omega arith);
}))
