-- What the blocks of a section say (document 01, 'Types, records, sizes'): `Location` (atoms and the shapes that are taken), `Modifiers`, `Types`
-- (the four type attributes), `Subscript` (one subscript), `Subscripts` (a block of them), `Producer`; `Standard` and `Vendor` are what the theorems
-- against the standard say besides.
pub mod Location
pub mod Modifiers
pub mod Producer
pub mod Types
pub mod Subscript
pub mod Subscripts
pub mod Standard
pub mod Vendor
-- What functions inside promise. Nothing public rests on it.
pub mod Inside
