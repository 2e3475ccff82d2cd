-- What the code's searches promise: `Find` (bisection), `Holds` (a row's own words, before its attributes), `Keyed` (a refusal as the code has it).
pub mod Find
pub mod Holds
pub mod Keyed
