-- Sizes (document 01, 'Types, records, sizes'): of a type, and of a key's entry.
pub mod Size
-- What functions inside promise. Nothing public rests on it.
pub mod Inside
