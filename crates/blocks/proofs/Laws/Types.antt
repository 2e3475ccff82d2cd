-- What follows from `Types`, for each way that the code comes to an answer; and that the modifiers of a type are inside.
use Rattle.std.proofs.Common.{◌≡◌, ℕ, ◌+◌, ◌-◌, ◌<◌, ◌≤◌, true, eqb, List, [], length, take, sym, refl, ap, ◌∙◌, subst, arith, length-take-le, le-leb, leb-true}
use borrow.Author.Tests.{lt-leb}
use Rattle.numbers.proofs.Laws.Tests.{cond-all}
use Rattle.numbers.specs.Value.{value_of, there}
use Rattle.numbers.proofs.Laws.Value.{reads, reads_short, not_there, there-inside, read_all}
use Rattle.numbers.proofs.Laws.Stands.{part_length}
use Rattle.numbers.proofs.Laws.Written.{inside-there}
use Rattle.numbers.specs.declared.Endian.{Endian}
use Rattle.format.specs.FundType.{parse_int}
use Rattle.format.specs.Said.{Said, gives, refuse, must, ◌>>=◌, ◌>>◌}
use Rattle.format.proofs.Laws.Said.{must-passed, must-failed, Of, of-next, of_test}
use Rattle.format.specs.declared.refusal.Reason.TheVariants as reason
use Rattle.attributes.specs.Parts.{part_at, block_at}
use Rattle.attributes.specs.declared.decode.Endians.{Endians}
use Rattle.blocks.specs.Modifiers.{process_modifiers}
use Rattle.blocks.specs.Types.{number_in, known_number, modified, fundamental, fund_type, user_def_type, last_bytes, mod_fund_type, mod_ud_type, process_type, ModifiersInside}
use Rattle.blocks.specs.declared.types.TypeKind.{TypeKind}
use Rattle.blocks.specs.declared.types.TypeKind.TheVariants.{Fundamental, UserDefined}
use Rattle.blocks.specs.declared.types.Type.{«Type»}
use Rattle.blocks.proofs.Laws.Number.{number-none, of_number}
use Rattle.blocks.proofs.Laws.Steps.{steps}

-- ---- a block whose last w bytes say the type

module _ (w : ℕ) (e : Endian) (block : List ℕ) (type : List ℕ → ℕ → Said «Type») where
  pub last-missing : length block < w → last_bytes w e block type ≡ refuse reason.Block 0
  unfolding last_bytes
  last-missing h = sym (must-failed refl _ _ _ (lt-leb w (length block) h) refl)

  -- they are there where the block is long enough
  pub last-number : w ≤ length block → last_bytes w e block type ≡ (number_in e w block (length block - w) >>= type (take (length block - w) block))
  unfolding last_bytes number_in ◌>>=◌
  last-number h =
      let there_is : there block (length block - w) w ≡ true = inside-there block (length block - w) w (omega arith) in
      sym
      (must-passed refl _ _ _ (le-leb w (length block) h)
      (ap (λ (d : Said ℕ). d >>= type (take (length block - w) block)) (sym (reads gives (refuse reason.Block 0) e w block (length block - w) there_is refl))))

-- what a block of modifiers stands on
pub ruleset last = (steps, last-missing, last-number)

-- ---- past the end

module _ (ends : Endians) (s : List ℕ) (at : ℕ) where
  none : Said «Type»
  none = refuse reason.Block 0

  no_block : (w : ℕ) (e : Endian) → length s < at → [] ≡ block_at e w s at
  unfolding block_at
  no_block w e h = reads_short (λ n. part_at s (at + w) n) [] e w s at (sym (not_there s at w h))

  -- past the end no attribute says a type
  pub past_end : (number : ℕ) {z : Said «Type»} → length s < at → z ≡ refuse reason.Block 0 → z ≡ process_type ends s number at
  unfolding process_type fund_type user_def_type mod_fund_type mod_ud_type last_bytes none must ◌>>◌
  past_end number h p =
      p
      ∙ cond-all (λ r. none ≡ r) (eqb number 0x55) (λ t. number-none _ 2 s at _ (sym (not_there s at 2 h)))
      (λ f. cond-all (λ r. none ≡ r) (eqb number 0x63) (λ t. ap (mod_fund_type ends.section (at + 2)) (no_block 2 ends.«data» h))
      (λ f. cond-all (λ r. none ≡ r) (eqb number 0x72) (λ t. number-none _ 4 s at _ (sym (not_there s at 4 h)))
      (λ f. cond-all (λ r. none ≡ r) (eqb number 0x83) (λ t. ap (mod_ud_type ends.section (at + 2)) (no_block 2 ends.«data» h)) (λ f. refl))))

-- ---- the modifiers are inside

-- a block that is not empty is there
module _ (e : Endian) (w : ℕ) (s : List ℕ) (at : ℕ) where
  abbrev There : List ℕ → Type 0
  There xs = 0 < length xs → at + w + length xs ≤ length s

  no_bytes : There []
  no_bytes h = absurd (omega arith)

  block_inside : There (block_at e w s at)
  unfolding block_at part_at
  block_inside =
      let n : ℕ = value_of e w s at in
      read_all (λ n. part_at s (at + w) n) [] e w s at There
      (λ t. cond-all There (there s (at + w) n)
      (λ k h. let inside : at + w + n ≤ length s = there-inside s (at + w) n k in rw (part_length s (at + w) n inside) inside) (λ k. no_bytes))
      (λ t. no_bytes)

module _ (s : List ℕ) (place : ℕ) (ms : List ℕ) (inside : place + length ms ≤ length s) where
  modified-inside : (kind : TypeKind) → Of (ModifiersInside s) (modified place ms kind)
  unfolding modified
  modified-inside kind = of-next (ModifiersInside s) (process_modifiers ms) _ (λ pointer. inside)

  fundamental-inside : (n : ℕ) → Of (ModifiersInside s) (fundamental place ms n)
  unfolding fundamental
  fundamental-inside n = of-next (ModifiersInside s) (known_number (parse_int n)) _ (λ k. modified-inside (Fundamental k))

-- a block of modifiers and w bytes, at a place of the section
last-inside : (w : ℕ) (e : Endian) (s : List ℕ) (place : ℕ) (block : List ℕ) (type : List ℕ → ℕ → Said «Type») → 1 ≤ w
    → (0 < length block → place + length block ≤ length s) → ((ms : List ℕ) (n : ℕ) → place + length ms ≤ length s → Of (ModifiersInside s) (type ms n))
    → Of (ModifiersInside s) (last_bytes w e block type)
unfolding last_bytes
last-inside w e s place block type some h f =
    of_test (ModifiersInside s) _ _ _ _
    (λ k.
    let long : w ≤ length block = leb-true w (length block) k in
    let front : length (take (length block - w) block) ≡ length block - w = length-take-le (length block - w) block (omega arith) in
    let whole : place + length block ≤ length s = h (omega arith) in
    f _ _ (omega arith))

module _ (ends : Endians) (s : List ℕ) (at : ℕ) where
  type-in : (number : ℕ) → Of (ModifiersInside s) (process_type ends s number at)
  unfolding process_type fund_type user_def_type mod_fund_type mod_ud_type
  type-in number =
      let P : Said «Type» → Type 0 = Of (ModifiersInside s) in
      cond-all P (eqb number 0x55)
      (λ t. of_number (ModifiersInside s) _ 2 s at _
      (λ n k. let h : at + 2 ≤ length s = there-inside s at 2 k in fundamental-inside s at [] (omega arith) n))
      (λ f. cond-all P (eqb number 0x63)
      (λ t. last-inside 2 _ s (at + 2) _ _ (omega arith) (block_inside _ 2 s at) (λ ms n h. fundamental-inside s (at + 2) ms h n))
      (λ f. cond-all P (eqb number 0x72)
      (λ t. of_number (ModifiersInside s) _ 4 s at _
      (λ n k. let h : at + 4 ≤ length s = there-inside s at 4 k in modified-inside s at [] (omega arith) (UserDefined n)))
      (λ f. cond-all P (eqb number 0x83)
      (λ t. last-inside 4 _ s (at + 2) _ _ (omega arith) (block_inside _ 2 s at) (λ ms n h. modified-inside s (at + 2) ms h (UserDefined n)))
      (λ f. tt))))

  -- the theorem
  pub modifiers-inside : (number : ℕ) {r : «Type»} → process_type ends s number at ≡ gives r → ModifiersInside s r
  modifiers-inside number p = subst (Of (ModifiersInside s)) p (type-in number)
