-- Laws. `Value`, `Signed`, `Read`, `Prefix`: what the code computes. `Append`: bytes behind and in front of a section. `Stands`: bytes that stand at a
-- place. `Written`: what is written is read, and the other way round. `Widths`: the contract of `number_at` at each type. `Tests`: truth values, for every
-- crate. `Only`: no second answer fits; `Inside`: nor where our own crates alone call.
pub mod Prefix
pub mod Signed
pub mod Tests
pub mod Read
pub mod Append
pub mod Value
pub mod Only
pub mod Inside
pub mod Stands
pub mod Written
pub mod Widths
