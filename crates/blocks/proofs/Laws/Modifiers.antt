-- What follows from `Modifiers`, for each turn of the loop.
use Rattle.std.proofs.Common.{◌≡◌, ℕ, ◌+◌, ◌<◌, ◌≤◌, cond, Bool, true, false, ◌||◌, List, length, get_or, drop, refl, add-one, drop_of_length-le, drop-cons}
use mathlib.Core.Bool.{or_assoc, or-false}
use Rattle.format.specs.Modifier.{modifier_of}
use Rattle.format.specs.declared.refusal.Reason.TheVariants as reason
use Rattle.format.specs.Said.{Said, gives, refuse, must, ◌>>◌}
use Rattle.blocks.specs.Modifiers.{is_known, is_pointer, all_known, any_pointer, process_modifiers}

-- the answer when those before were known, and a pointer stood among them or not
unfoldable pub modifiers_from : Bool → List ℕ → Said Bool
modifiers_from pointer ms = do
  must (all_known ms) reason.Number 0
  gives (pointer || any_pointer ms)

pub begin : (ms : List ℕ) → modifiers_from false ms ≡ process_modifiers ms
unfolding modifiers_from process_modifiers
begin ms = refl

module _ (pointer : Bool) (block : List ℕ) (i : ℕ) where
  -- one more of them
  pub one_more : i < length block → modifiers_from pointer (drop i block)
      ≡ cond (is_known (modifier_of (get_or block i 0)))
      (modifiers_from (pointer || is_pointer (modifier_of (get_or block i 0))) (drop (i + 1) block))
      (refuse reason.Number 0)
  unfolding modifiers_from all_known any_pointer must ◌>>◌
  one_more inside = go (is_known (modifier_of (get_or block i 0))) refl
    where
      go : (known : Bool) → is_known (modifier_of (get_or block i 0)) ≡ known → modifiers_from pointer (drop i block)
          ≡ cond known (modifiers_from (pointer || is_pointer (modifier_of (get_or block i 0))) (drop (i + 1) block)) (refuse reason.Number 0)
      go true h = rw (add-one, drop-cons block i 0 inside, h, or_assoc)
      go false h = rw (drop-cons block i 0 inside, h)

  -- past the last one
  pub done : length block ≤ i → modifiers_from pointer (drop i block) ≡ gives pointer
  unfolding modifiers_from all_known any_pointer must ◌>>◌
  done h = rw (drop_of_length-le block h, or-false)

-- what the loop over them stands on
pub ruleset each = (begin, one_more, done)
