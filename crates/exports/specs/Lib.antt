-- What crosses to a program in Rust or C: how settings, answers and tables become numbers and slices.
pub mod Crossing
-- What functions inside promise. Nothing public rests on it.
pub mod Inside
