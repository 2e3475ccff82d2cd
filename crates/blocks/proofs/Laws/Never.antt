-- Locations, types and subscripts are never refused by 14.
use Rattle.std.specs.Prelude.{Option, Some, None, Result, Ok, Err}
use Rattle.std.proofs.Common.{ℕ, zero, suc, ◌+◌, true, false, eqb, List, [], length, drop}
use Rattle.numbers.specs.Value.{value_of}
use Rattle.numbers.proofs.Laws.Tests.{cond-all}
use Rattle.numbers.proofs.Laws.Value.{read_all}
use Rattle.numbers.specs.declared.Endian.{Endian}
use Rattle.format.specs.AttributeKind as attribute
use Rattle.format.specs.FundType.{parse_int}
use Rattle.format.specs.SubscriptFormat.{subscript_format_of}
use Rattle.format.specs.Said.{Said, gives, refuse, ◌>>=◌, Never}
use Rattle.format.proofs.Laws.Never.{never-gives, never-refuse, never-must, never-then, never-past}
use Rattle.format.specs.declared.refusal.Reason.TheVariants as reason
use Rattle.format.specs.declared.location_op.LocationOp.{LocationOp}
use Rattle.format.specs.declared.subscript_format.SubscriptFormat.{SubscriptFormat}
use Rattle.format.specs.declared.subscript_format.SubscriptFormat.TheVariants as format
use Rattle.attributes.specs.Read.{read_attribute}
use Rattle.attributes.specs.declared.decode.Endians.{Endians}
use Rattle.attributes.specs.declared.read.Attribute.{Attribute}
use Rattle.attributes.specs.declared.value.Unread.{Unread}
use Rattle.blocks.specs.Location.{shape_operand}
use Rattle.blocks.specs.Modifiers.{process_modifiers}
use Rattle.blocks.specs.Types.{number_in, known_number, modified, fundamental, fund_type, user_def_type, last_bytes, mod_fund_type, mod_ud_type, process_type}
use Rattle.blocks.specs.Subscript.{Part, dimension, element, index_at, const_bound, location_size, location_bound, element_as, element_type_at, subscript_as, next_subscript}
use Rattle.blocks.specs.Subscripts.{Dimensions, element_or, at_end, before, step, subscripts_from, whole_block, count_subscripts}
use Rattle.blocks.specs.declared.types.Type.{«Type»}
use Rattle.blocks.specs.declared.types.TypeKind.{TypeKind}

-- ---- locations and numbers

pub shape-never : (ops : List LocationOp) (e : Endian) (block : List ℕ) → Never 14 (shape_operand ops e block)
unfolding shape_operand
shape-never ops e block = never-past _ _ (never-must _ reason.Block 0) (never-gives _)

number-never : (e : Endian) (w : ℕ) (s : List ℕ) (at : ℕ) → Never 14 (number_in e w s at)
unfolding number_in
number-never e w s at = read_all gives (refuse reason.Block 0) e w s at (Never 14) (λ t. never-gives (value_of e w s at)) (λ t. never-refuse reason.Block 0)

known-never : (f : (Option ℕ)) → Never 14 (known_number f)
unfolding known_number
known-never (Some n) = never-gives n
known-never None = never-refuse reason.Number 0

-- ---- types

modified-never : (place : ℕ) (ms : List ℕ) (kind : TypeKind) → Never 14 (modified place ms kind)
unfolding modified process_modifiers
modified-never place ms kind =
    never-then (process_modifiers ms) _ (never-past _ _ (never-must _ reason.Number 0) (never-gives _)) (λ pointer. never-gives _)

fundamental-never : (place : ℕ) (ms : List ℕ) (number : ℕ) → Never 14 (fundamental place ms number)
unfolding fundamental
fundamental-never place ms number = never-then _ _ (known-never (parse_int number)) (λ n. modified-never place ms _)

last-never : (w : ℕ) (e : Endian) (block : List ℕ) (type : List ℕ → ℕ → Said «Type») → ((ms : List ℕ) (n : ℕ) → Never 14 (type ms n))
    → Never 14 (last_bytes w e block type)
unfolding last_bytes
last-never w e block type h = never-past _ _ (never-must _ reason.Block 0) (h _ _)

pub type-never : (ends : Endians) (s : List ℕ) (number at : ℕ) → Never 14 (process_type ends s number at)
unfolding process_type fund_type mod_fund_type user_def_type mod_ud_type
type-never ends s number at =
    cond-all (Never 14) (eqb number attribute.fund_type) (λ t. never-then _ _ (number-never ends.«data» 2 s at) (λ n. fundamental-never at [] n))
    (λ t. cond-all (Never 14) (eqb number attribute.mod_fund_type) (λ t. last-never 2 ends.section _ _ (fundamental-never (at + 2)))
    (λ t. cond-all (Never 14) (eqb number attribute.user_def_type) (λ t. never-then _ _ (number-never ends.section 4 s at) (λ n. modified-never at [] _))
    (λ t. cond-all (Never 14) (eqb number attribute.mod_ud_type) (λ t. last-never 4 ends.section _ _ (λ ms n. modified-never (at + 2) ms _))
    (λ t. never-refuse reason.Block 0))))

-- ---- one subscript

module _ (e : Endian) (block : List ℕ) where
  index-never : Never 14 (index_at e block)
  unfolding index_at
  index-never =
      never-then _ _ (number-never e 2 block 1)
      (λ n. never-then _ _ (known-never _)
      (λ i. never-then _ _ (number-never e 4 block 3) (λ low. never-past _ _ (never-must _ reason.Bound 0) (never-gives i))))

  const-never : Never 14 (const_bound e block)
  unfolding const_bound
  const-never = never-then _ _ index-never (λ i. never-then _ _ (number-never e 4 block 7) (λ high. never-gives _))

  size-never : (location : List ℕ) → Never 14 (location_size e location)
  unfolding location_size
  size-never location = cond-all (Never 14) (eqb (length location) 0) (λ t. never-gives 0) (λ t. shape-never _ e location)

  location-never : Never 14 (location_bound e block)
  unfolding location_bound
  location-never =
      never-then _ _ index-never
      (λ i. never-then _ _ (number-never e 2 block 7)
      (λ n. never-past _ _ (never-must _ reason.Block 0) (never-then _ _ (size-never _) (λ size. never-gives _))))

  element-never : (a : Result Attribute Unread) → Never 14 (element_as e block a)
  unfolding element_as
  element-never (Ok a) = never-then _ _ (type-never _ block a.number a.value) (λ of. never-gives _)
  element-never (Err why) = never-refuse reason.Block 0

  as-never : (f : SubscriptFormat) → Never 14 (subscript_as e block f)
  unfolding subscript_as element_type_at
  as-never format.FundTypeConstConst = const-never
  as-never format.FundTypeConstLocation = location-never
  as-never format.FundTypeLocationConst = never-refuse reason.Block 0
  as-never format.FundTypeLocationLocation = never-refuse reason.Block 0
  as-never format.UserTypeConstConst = never-refuse reason.Block 0
  as-never format.UserTypeConstLocation = never-refuse reason.Block 0
  as-never format.UserTypeLocationConst = never-refuse reason.Block 0
  as-never format.UserTypeLocationLocation = never-refuse reason.Block 0
  as-never format.ElementType = element-never (read_attribute [] e block 1)
  as-never format.Unknown = never-refuse reason.Block 0

  pub subscript-never : Never 14 (next_subscript e block)
  unfolding next_subscript
  subscript-never = never-past _ _ (never-must _ reason.Block 0) (as-never (subscript_format_of _))

-- ---- a block of them

end-never : (el : Option «Type») (n : ℕ) → Never 14 (at_end el n)
unfolding at_end element_or ◌>>=◌
end-never (Some t) n = never-gives _
end-never None n = never-refuse reason.Block 0

step-never : (next : Option «Type» → ℕ → ℕ → Said Dimensions) → ((el : Option «Type») (n used : ℕ) → Never 14 (next el n used))
    → (el : Option «Type») (n at : ℕ) (part : Part) → Never 14 (step next el n at part)
unfolding step before
step-never next h el n at (dimension index size used) = never-then _ _ (h el (suc n) used) (λ d. never-gives _)
step-never next h el n at (element t used) = h _ n used

from-never : (e : Endian) (turns : ℕ) (el : Option «Type») (n at : ℕ) (rest : List ℕ) → Never 14 (subscripts_from e turns el n at rest)
unfolding subscripts_from
from-never e zero el n at rest = end-never el n
from-never e (suc turns) el n at rest =
    let next : Option «Type» → ℕ → ℕ → Said Dimensions = λ el' n' used. subscripts_from e turns el' n' (at + used) (drop used rest) in
    elim (eqb (length rest) 0) as (λ b. Never {A = Dimensions} 14 (elim b [ true ↦ at_end el n | false ↦ next_subscript e rest >>= step next el n at ])) [
      | true ↦ end-never el n
      | false ↦ never-then (next_subscript e rest) (step next el n at) (subscript-never e rest)
          (λ part. step-never next (λ el' n' used. from-never e turns el' n' (at + used) (drop used rest)) el n at part)
    ]

pub subscripts-never : (e : Endian) (block : List ℕ) → Never 14 (count_subscripts e block)
unfolding count_subscripts whole_block
subscripts-never e block = never-then _ _ (from-never e (length block) None 0 0 block) (λ d. never-gives _)
