-- Layouts of structures and classes (document 01, 'Types, records, sizes'): `Layout` (of a key's), `All` (every layout of a table). For theorems:
-- `LayoutFilled` and `AllFilled` (what the rooms hold), `LayoutEnds` (members end inside), `AllEach` (the structures and classes of a table),
-- `Never` (no call is refused by 14), `Examples` (document 01's input A).
pub mod Layout
pub mod All
pub mod LayoutFilled
pub mod LayoutEnds
pub mod AllEach
pub mod AllFilled
pub mod Never
pub mod Examples
-- What functions inside promise. Nothing public rests on it.
pub mod Inside
