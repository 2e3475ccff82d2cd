-- What follows from `chain`, `fault_of_row` and `fault_from`, for each way that the code comes to an answer.
use Prim.Native.Nat.{ℕ, zero, suc, ◌+◌, ◌-◌, ◌≤◌, ◌<◌}
use native.Mathlib.Omega.{arith}
use mathlib.Core.Path.{◌≡◌, refl, sym, ap, ◌∙◌}
use borrow.Author.Tests.{lt-ltb, le-ltb, le-leb, lt-leb}
use Rattle.tree.specs.Inside.Passing.{chain, fault_of_row, fault_from}
use Rattle.tree.proofs.Laws.Ends.{Reaching}
use Rattle.tree.proofs.Laws.Fault.{good-later}
use Rattle.tree.specs.Inside.Fault.{Along}

-- ---- one row of the chain

module _ (n : ℕ) (reach : ℕ → ℕ) (end b : ℕ) where
  chain-end : (f c : ℕ) → end ≤ c → b ≡ chain n reach end b f c
  unfolding chain
  chain-end zero c h = refl
  chain-end (suc f) c h = rw (le-ltb c end h)

  module _ (f c : ℕ) (inside : c < end) where
    chain-blocked : b ≤ c → b ≡ chain n reach end b (suc f) c
    unfolding chain
    chain-blocked h = rw (lt-ltb c end inside, le-leb b c h)

    module _ (before : c < b) where
      chain-bad : reach c ≤ c → c ≡ chain n reach end b (suc f) c
      unfolding chain
      chain-bad h = rw (lt-ltb c end inside, lt-leb b c before, le-leb (reach c) c h)

      module _ (later : c < reach c) where
        chain-past : end < reach c → c ≡ chain n reach end b (suc f) c
        unfolding chain
        chain-past h = rw (lt-ltb c end inside, lt-leb b c before, lt-leb (reach c) c later, lt-ltb end (reach c) h)

        chain-step : reach c ≤ end → chain n reach end b f (reach c) ≡ chain n reach end b (suc f) c
        unfolding chain
        chain-step h = rw (lt-ltb c end inside, lt-leb b c before, lt-leb (reach c) c later, le-ltb end (reach c) h)

-- ---- along the chain: each turn goes to a later row, so that the turns suffice

pub along-begin : {n : ℕ} {reach : ℕ → ℕ} {end b i : ℕ} → end ≤ n → Along n reach end b i (i + 1)
along-begin {n} {reach} {end} {b} {i} h = record { turns = n; enough = omega arith; rest = ap (chain n reach end b n) (omega arith) }

module _ {n : ℕ} {reach : ℕ → ℕ} {end b i c : ℕ} (along : Along n reach end b i c) where
  pub along-end : end ≤ c → b ≡ chain n reach end b n (suc i)
  along-end h = chain-end n reach end b along.turns c h ∙ along.rest

  module _ (inside : c < end) where
    -- before the end a turn is left
    turn-left : along.turns ≡ suc (along.turns - 1)
    turn-left = omega (arith, along.enough)

    -- so what one turn comes to, the whole chain comes to
    in-turn : {r : ℕ} → r ≡ chain n reach end b (suc (along.turns - 1)) c → r ≡ chain n reach end b n (suc i)
    in-turn p = p ∙ ap (λ (f : ℕ). chain n reach end b f c) (sym turn-left) ∙ along.rest

    pub along-blocked : b ≤ c → b ≡ chain n reach end b n (suc i)
    along-blocked h = in-turn (chain-blocked n reach end b (along.turns - 1) c inside h)

    module _ {next : ℕ} (is : next ≡ reach c) (before : c < b) where
      pub along-bad : next ≤ c → c ≡ chain n reach end b n (suc i)
      along-bad h = in-turn (chain-bad n reach end b (along.turns - 1) c inside before (omega arith))

      pub along-past : c < next → end < next → c ≡ chain n reach end b n (suc i)
      along-past l h = in-turn (chain-past n reach end b (along.turns - 1) c inside before (omega arith) (omega arith))

      pub along-next : c < next → next ≤ end → Along n reach end b i next
      along-next l h = record {
        turns = along.turns - 1;
        enough = omega (arith, along.enough);
        rest =
            in-turn (ap (chain n reach end b (along.turns - 1)) is
            ∙ chain-step n reach end b (along.turns - 1) c inside before (omega arith) (omega arith));
      }

-- ---- row by row, from the last one back

-- a good reference's end is in the table
pub end-within : {n : ℕ} {reach : ℕ → ℕ} {i end : ℕ} → Reaching n reach → i < n → end ≡ reach i → (end ≡ 0 → ⊥) → end ≤ n
end-within {n} {reach} {i} reaching l is h = let told : (i < reach i) × (reach i ≤ n) = good-later reaching i l (λ e. h (is ∙ e)) in omega arith

pub fault-begin : (n : ℕ) (reach : ℕ → ℕ) → n ≡ fault_from n reach n (n - n)
unfolding fault_from
fault-begin n reach = let none : n - n ≡ 0 = omega arith in rw none

pub fault-back : (n : ℕ) (reach : ℕ → ℕ) (i : ℕ) {b r : ℕ} → 0 < i → i ≤ n → b ≡ fault_from n reach i (n - i) → r ≡ fault_of_row n reach (i - 1) b
    → r ≡ fault_from n reach (i - 1) (n - (i - 1))
unfolding fault_from
fault-back n reach i h l p q =
    let back : n - (i - 1) ≡ suc (n - i) = omega arith in
    let here : suc (i - 1) ≡ i = omega arith in
    q ∙ rw (back, here, p)
