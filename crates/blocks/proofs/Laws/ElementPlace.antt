-- The modifiers of an element type stand in the block at the place that its answer names: they are those of the subscript that says it.
use Rattle.std.proofs.Common.{Option, Some, None, ◌≡◌, ℕ, zero, suc, ◌+◌, ◌≤◌, true, false, eqb, List, length, take, drop, sym, refl, ap, ◌∙◌, subst, arith, length-drop, drop-drop}
use Rattle.numbers.proofs.Laws.Written.{inside-there}
use Rattle.numbers.specs.declared.Endian.{Endian}
use Rattle.format.specs.Said.{Said, gives, refuses, ◌>>=◌}
use Rattle.format.proofs.Laws.Said.{Of}
use Rattle.attributes.specs.Parts.{part_at}
use Rattle.blocks.specs.Subscript.{Part, dimension, element, next_subscript}
use Rattle.blocks.specs.Subscripts.{dimension_words, Dimensions, element_or, at_end, before, raised, step, subscripts_from, whole_block, SaidWhere}
use Rattle.blocks.specs.declared.types.Type.{«Type»}
use Rattle.blocks.proofs.Laws.Subscript.{of-gave, used-inside, element-modifiers}

-- a part of what begins at a place
part-of-rest : (block : List ℕ) (at place count : ℕ) → at + place + count ≤ length block → place + count ≤ length (drop at block)
    → part_at block (at + place) count ≡ part_at (drop at block) place count
unfolding part_at
part-of-rest block at place count h k =
    rw (inside-there block (at + place) count h, inside-there (drop at block) place count k) (ap (take count) (sym (drop-drop place at block)))

module _ (e : Endian) (block : List ℕ) where
  -- the element type so far
  abbrev SoFar : Option «Type» → Type 0
  SoFar (Some t) = SaidWhere e block t
  SoFar None = Unit

  abbrev Placed : Dimensions → Type 0
  Placed d = SaidWhere e block d.array.element

  end-placed : (el : Option «Type») (n : ℕ) → SoFar el → Of Placed (at_end el n)
  unfolding at_end element_or ◌>>=◌
  end-placed (Some t) n h = h
  end-placed None n h = tt

  before-placed : (words : List ℕ) (d : Said Dimensions) → Of Placed d → Of Placed (before words d)
  unfolding before ◌>>=◌
  before-placed words (gives d) h = h
  before-placed words (refuses number place counts) h = tt

  said-where : (at : ℕ) {t : «Type»} {used : ℕ} → next_subscript e (drop at block) ≡ gives (element t used) → SaidWhere e block (raised at t)
  unfolding raised
  said-where at {t} {used} p =
      let uses = used-inside e (drop at block) p in
      let inner : t.place + t.count ≤ length (drop at block) = element-modifiers e (drop at block) p in
      let outer : at + t.place + t.count ≤ length block = omega (arith, length-drop at block, uses.0, uses.1) in
      record {
        at = at;
        used = used;
        type = t;
        says = p;
        is_raised = refl;
        inside = outer;
        modifiers = part-of-rest block at t.place t.count outer inner;
      }

  rest-drops : (at used : ℕ) {rest : List ℕ} → rest ≡ drop at block → drop used rest ≡ drop (at + used) block
  rest-drops at used p = ap (drop used) p ∙ drop-drop used at block

  step-placed : (next : Option «Type» → ℕ → ℕ → Said Dimensions) → ((el : Option «Type») (n used : ℕ) → SoFar el → Of Placed (next el n used))
      → (el : Option «Type») (n at : ℕ) → SoFar el → (x : Part) → next_subscript e (drop at block) ≡ gives x → Of Placed (step next el n at x)
  unfolding step dimension_words
  step-placed next f el n at h (dimension index size used) q = before-placed (dimension_words index size) (next el (suc n) used) (f el (suc n) used h)
  step-placed next f el n at h (element t used) q = f (Some (raised at t)) n used (said-where at q)

  from-placed : (turns : ℕ) (el : Option «Type») (n at : ℕ) (rest : List ℕ) → rest ≡ drop at block → SoFar el → Of Placed (subscripts_from e turns el n at rest)
  unfolding subscripts_from
  from-placed zero el n at rest p h = end-placed el n h
  from-placed (suc turns) el n at rest p h =
      let next : Option «Type» → ℕ → ℕ → Said Dimensions = λ el' n' used. subscripts_from e turns el' n' (at + used) (drop used rest) in
      elim (eqb (length rest) 0) as (λ b. Of Placed (elim b [ true ↦ at_end el n | false ↦ next_subscript e rest >>= step next el n at ])) [
        | true ↦ end-placed el n h
        | false ↦ of-gave Placed (next_subscript e rest) (step next el n at)
            (λ x q. step-placed next (λ el' n' used k. from-placed turns el' n' (at + used) (drop used rest) (rest-drops at used p) k) el n at h x
            (subst (λ (u : List ℕ). next_subscript e u ≡ gives x) p q))
      ]

  -- the theorem
  pub element_place : {d : Dimensions} → whole_block e block ≡ gives d → SaidWhere e block d.array.element
  unfolding whole_block
  element_place p = subst (Of Placed) p (from-placed (length block) None 0 0 block refl tt)
