-- The listing program: `Text` (the lines, as bytes), `Report` (what is printed for an input),
-- `Examples` (inputs with their whole output).
pub mod Text
pub mod Report
pub mod Examples
-- What functions inside promise. Nothing public rests on it.
pub mod Inside
