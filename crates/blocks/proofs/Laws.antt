-- Laws. `Number`: a number that was read. `Steps`: what follows a step of the code; by these rules the search finds its answers. `Back`: what is said leads
-- back to the answer. `Location` to `Subscripts`: what the code computes. `Filled`: the words of the dimensions are complete, and fill the room. `Atoms`:
-- runs of atoms by the reader's tables; `StandardRead`: the locations that the standard writes are read back; `StandardWritten`: nothing else is taken;
-- `Vendor`: what is taken besides. `Placed`: bytes at a place; `StandardTypes`, `StandardTypesOnly`: both directions for types; `StandardSubscripts`,
-- `StandardSubscriptsOnly`: for subscripts. `ElementPlace`: where an element type's modifiers stand. `Never`: none is refused by 14. `Only`: no second answer
-- fits.
pub mod Number
pub mod Steps
pub mod Back
pub mod Location
pub mod Modifiers
pub mod Types
pub mod Subscript
pub mod Subscripts
pub mod Filled
pub mod ElementPlace
pub mod Never
pub mod Only
pub mod Atoms
pub mod StandardRead
pub mod Vendor
pub mod Placed
pub mod StandardTypes
pub mod StandardTypesOnly
pub mod StandardSubscripts
pub mod StandardSubscriptsOnly
pub mod StandardWritten
