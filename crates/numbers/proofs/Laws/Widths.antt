-- What the contract of `number_at` comes to at each type of numbers: how many bytes it has, and what it makes of the number that they make up.
use Prim.Native.Nat.{ℕ}
use mathlib.Core.Path.{◌≡◌, refl}
use mathlib.Core.List.{List}
use Rattle.std.specs.Prelude.{Option, Some, None}
use Rattle.numbers.specs.Value.{signed_of, read_at}
use Rattle.numbers.specs.declared.Endian.{Endian}
use Rattle.numbers.specs.declared.number.Number.{Ghosts}
use Rattle.numbers.specs.contracts.number.U8Number.TheImpl as u8
use Rattle.numbers.specs.contracts.number.U16Number.TheImpl as u16
use Rattle.numbers.specs.contracts.number.U32Number.TheImpl as u32
use Rattle.numbers.specs.contracts.number.U64Number.TheImpl as u64
use Rattle.numbers.specs.contracts.number.I8Number.TheImpl as i8
use Rattle.numbers.specs.contracts.number.I16Number.TheImpl as i16
use Rattle.numbers.specs.contracts.number.I32Number.TheImpl as i32

abbrev pub answer : {A : Type 0} → Ghosts A → Endian → List ℕ → ℕ → Option A
answer n e s at = read_at (λ k. Some (n.meaning k)) None e n.WIDTH s at

module _ (e : Endian) (s : List ℕ) (at : ℕ) where
  pub u8-answer : answer u8.ghosts e s at ≡ read_at Some None e 1 s at
  u8-answer = refl

  pub u16-answer : answer u16.ghosts e s at ≡ read_at Some None e 2 s at
  u16-answer = refl

  pub u32-answer : answer u32.ghosts e s at ≡ read_at Some None e 4 s at
  u32-answer = refl

  pub u64-answer : answer u64.ghosts e s at ≡ read_at Some None e 8 s at
  u64-answer = refl

  pub i8-answer : answer i8.ghosts e s at ≡ read_at (λ n. Some (signed_of 1 n)) None e 1 s at
  i8-answer = refl

  pub i16-answer : answer i16.ghosts e s at ≡ read_at (λ n. Some (signed_of 2 n)) None e 2 s at
  i16-answer = refl

  pub i32-answer : answer i32.ghosts e s at ≡ read_at (λ n. Some (signed_of 4 n)) None e 4 s at
  i32-answer = refl
