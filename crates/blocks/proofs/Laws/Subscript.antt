-- What follows from `Subscript`, for each way that the code comes to an answer; and that a subscript takes at least a byte, all of them inside the block.
use Rattle.std.proofs.Common.{Result, Ok, Err, ◌≡◌, ℕ, ◌+◌, ◌-◌, ◌%◌, ◌^◌, ◌<◌, ◌≤◌, true, List, [], length, get_or, drop, sym, refl, ap, ◌∙◌, subst, lt_of_not-le, arith, length-drop, length-take-le, lt-ltb, eq-eqb, ne_eqb, false}
use native.Mathlib.Decide.{dec_le}
use Rattle.numbers.specs.Value.{there}
use Rattle.numbers.proofs.Laws.Value.{there-inside}
use Rattle.numbers.specs.declared.Endian.{Endian}
use Rattle.format.specs.FundType.{fund_type_of}
use Rattle.format.specs.SubscriptFormat.{subscript_format_of}
use Rattle.format.specs.Said.{Said, gives, refuse, refuses, refusal, ◌>>=◌}
use Rattle.format.proofs.Laws.Said.{must-passed, must-failed, Of, of-next, of_test}
use Rattle.format.specs.declared.subscript_format.SubscriptFormat.{SubscriptFormat}
use Rattle.format.specs.declared.subscript_format.SubscriptFormat.TheVariants.{FundTypeConstConst, FundTypeConstLocation, FundTypeLocationConst, FundTypeLocationLocation, UserTypeConstConst, UserTypeConstLocation, UserTypeLocationConst, UserTypeLocationLocation, ElementType, Unknown}
use Rattle.format.specs.declared.refusal.Reason.TheVariants as reason
use Rattle.attributes.specs.Parts.{part_at}
use Rattle.attributes.specs.Read.{read_attribute}
use Rattle.attributes.specs.Ahead.{ReadInside}
use Rattle.attributes.proofs.Laws.Inside.{read-inside}
use Rattle.attributes.specs.declared.read.Attribute.{Attribute}
use Rattle.attributes.specs.declared.value.Unread.{Unread}
use Rattle.blocks.specs.Subscript.{Part, said_subscript, dimension, element, index_at, one_more, const_bound, location_size, location_bound, element_as, element_type_at, subscript_as, next_subscript, UsesInside}
use Rattle.blocks.specs.Inside.Subscript.{low_bound, known_index, high_bound, high_location, sized_dimension, sized_by}
use Rattle.blocks.specs.Types.{number_in, process_type, ModifiersInside}
use Rattle.format.specs.declared.refusal.Refusal.{Refusal}
use Rattle.blocks.specs.declared.subscript.Subscript.TheVariants.{Dimension, Element}
use Rattle.blocks.specs.declared.types.Type.{«Type»}
use Rattle.blocks.proofs.Laws.Number.{of_number}
use Rattle.blocks.proofs.Laws.Steps.{steps}
use Rattle.blocks.proofs.Laws.Types.{modifiers-inside}

-- ---- what an answer says

pub said-dimension : (index size used : ℕ) → said_subscript (Ok (Dimension index size used)) ≡ gives (dimension index size used)
unfolding said_subscript
said-dimension index size used = refl

pub said-element : (t : «Type») (used : ℕ) → said_subscript (Ok (Element t used)) ≡ gives (element t used)
unfolding said_subscript
said-element t used = refl

pub said-none : (why : Refusal) → said_subscript (Err why) ≡ refusal why
unfolding said_subscript
said-none why = refl

-- ---- where the code goes on in a function of its own

module _ (e : Endian) (block : List ℕ) where
  pub index-known : index_at e block ≡ (number_in e 2 block 1 >>= (λ number. known_index e block (fund_type_of number)))
  unfolding index_at known_index low_bound
  index-known = refl

  pub const-high : const_bound e block ≡ (index_at e block >>= high_bound e block)
  unfolding const_bound high_bound
  const-high = refl

  pub location-high : location_bound e block ≡ (index_at e block >>= high_location e block)
  unfolding location_bound high_location sized_by
  location-high = refl

-- ---- format 0

-- one more modulo 2^32
pub one_more_lem : (high : ℕ) → high < 2 ^ 32 → (high + 1) % 2 ^ 32 ≡ one_more high
unfolding one_more
one_more_lem high h =
    elim (dec_le 0xFFFFFFFF high) [
      | yes k ↦ rw (eq-eqb high 0xFFFFFFFF (omega arith)) (omega arith)
      | no k ↦ let l : high < 0xFFFFFFFF = lt_of_not-le k in rw (ne_eqb high 0xFFFFFFFF (λ z. omega arith)) (omega arith)
    ]

-- ---- format 1

length_part : (s : List ℕ) (from n : ℕ) → there s from n ≡ true → length (part_at s from n) ≡ n
unfolding part_at
length_part s from n h =
    let inside : from + n ≤ length s = there-inside s from n h in
    let left : length (drop from s) ≡ length s - from = length-drop from s in
    rw h (length-take-le n (drop from s) (omega arith))

module _ (e : Endian) (block : List ℕ) (index n : ℕ) where
  pub sized-there : there block 9 n ≡ true → sized_by e block index n ≡ sized_dimension e index (part_at block 9 n)
  unfolding sized_by sized_dimension
  sized-there h =
      sym
      (must-passed refl _ _ _ h
      (ap (λ (k : ℕ). location_size e (part_at block 9 n) >>= (λ size. gives (dimension index size (9 + k)))) (length_part block 9 n h)))

  pub sized-missing : there block 9 n ≡ false → sized_by e block index n ≡ refuse reason.Block 0
  unfolding sized_by
  sized-missing h = sym (must-failed refl _ _ _ h refl)

-- what the code's steps stand on
pub ruleset parts =
    (steps, said-dimension, said-element, said-none, index-known, const-high, location-high, one_more_lem, sized-there, sized-missing)

-- ---- the subscript that a block begins with

module _ (e : Endian) (block : List ℕ) where
  pub begins-with : {format : SubscriptFormat} {z : Said Part} → (length block ≡ 0 → ⊥) → format ≡ subscript_format_of (get_or block 0 0)
      → z ≡ subscript_as e block format → z ≡ next_subscript e block
  unfolding next_subscript
  begins-with some p h = must-passed refl _ _ _ (lt-ltb 0 (length block) (omega (arith, some))) (h ∙ ap (subscript_as e block) p)

-- ---- what a subscript takes

-- what follows a value may rest on what gave it
pub of-gave : {A B : Type 0} (P : B → Type 0) (d : Said A) (next : A → Said B) → ((x : A) → d ≡ gives x → Of P (next x)) → Of P (d >>= next)
unfolding ◌>>=◌
of-gave P (gives x) next h = h x refl
of-gave P (refuses number place counts) next h = tt

-- as `UsesInside`, with the modifiers of an element type
abbrev Takes : List ℕ → Part → Type 0
Takes block (dimension index size used) = (1 ≤ used) × (used ≤ length block)
Takes block (element t used) = (1 ≤ used) × (used ≤ length block) × ModifiersInside block t

module _ (e : Endian) (block : List ℕ) where
  const-takes : Of (Takes block) (const_bound e block)
  unfolding const_bound
  const-takes =
      of-next (Takes block) _ _
      (λ index. of_number (Takes block) e 4 block 7 _ (λ high t. let k : 7 + 4 ≤ length block = there-inside block 7 4 t in (omega arith, omega arith)))

  location-takes : Of (Takes block) (location_bound e block)
  unfolding location_bound
  location-takes =
      of-next (Takes block) _ _
      (λ index. of_number (Takes block) e 2 block 7 _
      (λ n t. of_test (Takes block) _ _ _ _
      (λ h. let k : 9 + n ≤ length block = there-inside block 9 n h in of-next (Takes block) _ _ (λ size. (omega arith, omega arith)))))

  element-takes : (a : Result Attribute Unread) → read_attribute [] e block 1 ≡ a → Of (Takes block) (element_as e block a)
  unfolding element_as
  element-takes (Ok a) p =
      let inside : ReadInside [] block 1 a.number a.value a.next = read-inside [] e block 1 p in
      of-gave (Takes block) (process_type _ block a.number a.value) _
      (λ t q. (omega (arith, inside.forward), inside.inside, modifiers-inside _ block a.value a.number q))
  element-takes (Err why) p = tt

  as-takes : (f : SubscriptFormat) → Of (Takes block) (subscript_as e block f)
  unfolding subscript_as element_type_at
  as-takes FundTypeConstConst = const-takes
  as-takes FundTypeConstLocation = location-takes
  as-takes FundTypeLocationConst = tt
  as-takes FundTypeLocationLocation = tt
  as-takes UserTypeConstConst = tt
  as-takes UserTypeConstLocation = tt
  as-takes UserTypeLocationConst = tt
  as-takes UserTypeLocationLocation = tt
  as-takes ElementType = element-takes _ refl
  as-takes Unknown = tt

  takes : Of (Takes block) (next_subscript e block)
  unfolding next_subscript
  takes = of_test (Takes block) _ _ _ _ (λ h. as-takes _)

  took : (p : Part) → Takes block p → UsesInside block p
  took (dimension index size used) h = h
  took (element t used) h = (h.0, h.1)

  -- the theorem
  pub used-inside : {p : Part} → next_subscript e block ≡ gives p → UsesInside block p
  used-inside {p} q = took p (subst (Of (Takes block)) q takes)

  -- and the modifiers of an element type are inside
  pub element-modifiers : {t : «Type»} {used : ℕ} → next_subscript e block ≡ gives (element t used) → ModifiersInside block t
  element-modifiers q = (subst (Of (Takes block)) q takes).2
