-- How the code goes about it: `Levels` the sizes of all rows, `Layout` one layout, `All` all of them.
pub mod Levels
pub mod Layout
pub mod All
