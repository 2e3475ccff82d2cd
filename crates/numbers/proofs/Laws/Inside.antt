-- No second answer fits where our own crates alone call: the reading of each type of numbers, which asks that its bytes are there.
use Rattle.lent.specs.OneAnswer.{OneAnswer}
use Rattle.numbers.proofs.number as number

-- `u8::made_of`
pub only-u8-made-of : OneAnswer number.U8Number.made_of.Kinds.ps number.U8Number.made_of.Kinds.r number.U8Number.made_of.Reads.Post
only-u8-made-of κs a z z' e e' p q = cc

-- `u16::made_of`
pub only-u16-made-of : OneAnswer number.U16Number.made_of.Kinds.ps number.U16Number.made_of.Kinds.r number.U16Number.made_of.Reads.Post
only-u16-made-of κs a z z' e e' p q = cc

-- `u32::made_of`
pub only-u32-made-of : OneAnswer number.U32Number.made_of.Kinds.ps number.U32Number.made_of.Kinds.r number.U32Number.made_of.Reads.Post
only-u32-made-of κs a z z' e e' p q = cc

-- `u64::made_of`
pub only-u64-made-of : OneAnswer number.U64Number.made_of.Kinds.ps number.U64Number.made_of.Kinds.r number.U64Number.made_of.Reads.Post
only-u64-made-of κs a z z' e e' p q = cc

-- `i8::made_of`
pub only-i8-made-of : OneAnswer number.I8Number.made_of.Kinds.ps number.I8Number.made_of.Kinds.r number.I8Number.made_of.Reads.Post
only-i8-made-of κs a z z' e e' p q = cc

-- `i16::made_of`
pub only-i16-made-of : OneAnswer number.I16Number.made_of.Kinds.ps number.I16Number.made_of.Kinds.r number.I16Number.made_of.Reads.Post
only-i16-made-of κs a z z' e e' p q = cc

-- `i32::made_of`
pub only-i32-made-of : OneAnswer number.I32Number.made_of.Kinds.ps number.I32Number.made_of.Kinds.r number.I32Number.made_of.Reads.Post
only-i32-made-of κs a z z' e e' p q = cc
