-- Rows and attributes in lent words: `Row` (the words, and what they say), `Unit` (which unit a row belongs to), `Table` (a table and what it is
-- asked with), `Holds` (the table test, refusal 3), `Find` (the row of a key), `Tests` (1, 2, 3, which every public call makes first), `Keyed` (the
-- row of a key after them).
pub mod Row
pub mod Unit
pub mod Table
pub mod Holds
pub mod Find
pub mod Tests
pub mod Keyed
-- What functions inside promise. Nothing public rests on it.
pub mod Inside
