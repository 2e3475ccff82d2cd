-- Attributes (rule 5 of 'Reading entries'): where a text ends (`Text`), where a value ends (`End`), what stands at an attribute's place (`Read`),
-- what a value says (`Decode`), that part of the section (`Parts`). For theorems: `Ahead` (a success moves forward, inside) and `Append` (bytes put
-- in front).
pub mod Text
pub mod End
pub mod Read
pub mod Decode
pub mod Parts
pub mod Ahead
pub mod Append
-- What functions inside promise. Nothing public rests on it.
pub mod Inside
